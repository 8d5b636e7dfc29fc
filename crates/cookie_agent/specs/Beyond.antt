-- A user agent that does what browsers do beyond RFC 6265bis, as the caller chooses.
use Rattle.std.specs.Prelude.{◌≡◌, ℕ, ℤ, pos, ◌+ℤ◌, ◌*ℤ◌, int_le, nat_lt, length, ◌&&◌, ◌||◌, not, Bool, true, false, List, [], ◌∷◌, ◌++◌, filter, map, IsPermutation, IsSortedByKey, Option, Some, None, Result, Ok, Err, if◌then◌else◌}
use Rattle.std.specs.List.{list_any}
use Rattle.std.specs.List.Sorted.{IsStableByKey}
use Rattle.std.specs.Str.{bytes_eq}
use Rattle.jiff.specs.Types.{DateTime}
use Rattle.jiff.specs.Words.{civil_nanos}
use Rattle.cookie.specs.Header.{joined_texts}
use Rattle.cookie_browser.specs.Beyond.{is_partitioned, refusal_beyond, with_ascii_domain}
use Rattle.cookie_browser.specs.Received.{ReceivedView, received}
use Rattle.cookie_browser.specs.Request.{RequestView}
use Rattle.cookie_browser.specs.Storage.{KeptView, CookieStore, is_same_cookie, lasting, lasts, suits, verdict_on}
use Rattle.cookie_browser.specs.Suffixes.{Rule}
use Rattle.cookie_browser.specs.declared.beyond.Beyond.{Beyond}
use Rattle.cookie_browser.specs.declared.browser_choices.BrowserChoices.{BrowserChoices}
use Rattle.cookie_browser.specs.declared.enforcement.Enforcement.{Enforcement}
use Rattle.cookie_browser.specs.declared.enforcement.Enforcement.TheVariants as enforcement
use Rattle.cookie_browser.specs.declared.refusal.Refusal.{Refusal}
use Rattle.cookie_agent.specs.Limits.{is_of_site, trimmed}
use Rattle.cookie_agent.specs.Sent.{greater_first, path_length, sent_pair}
use Rattle.cookie_agent.specs.Stored.{kept_with_each}
use Rattle.cookie_agent.specs.declared.browser_refusal.BrowserRefusal.{BrowserRefusal}
use Rattle.cookie_agent.specs.declared.browser_refusal.BrowserRefusal.TheVariants as refusal
use Rattle.cookie_agent.specs.declared.limits.Limits.{Limits}

-- a stored cookie, when it was created, in nanoseconds, and the top-level site that it is kept by, empty if it isn't
-- partitioned
pub record DatedView : Type 0 where
  pub kept : KeptView
  pub created : ℤ
  pub partition : List ℕ

-- the stored cookies in the order of their creation
abbrev pub DatedStore : Type 0
DatedStore = List DatedView

-- the rules of public suffixes, the choices, and the stored cookies
pub record BrowserAgentView : Type 0 where
  pub rules : List Rule
  pub choices : BrowserChoices
  pub cookies : DatedStore

-- the cookies, as the standard has them
abbrev pub undated : DatedStore → CookieStore
undated store = map (λ c. c.kept) store

-- the cookies that aren't partitioned
abbrev pub unpartitioned : DatedStore → DatedStore
unpartitioned store = filter (λ c. bytes_eq c.partition []) store

-- the cookies that aren't expired
abbrev pub dated_lasting : DateTime → DatedStore → DatedStore
dated_lasting now store = filter (λ c. lasts c.kept.expiry now) store

-- ---- what the agent makes of a text

-- the top-level site that the text's cookie is kept by
abbrev pub partition_of : BrowserChoices → List ℕ → List ℕ → List ℕ
partition_of choices top text = if choices.partitions && is_partitioned text then top else []

-- what the standard stores, created now; or its refusal
abbrev pub dated_as : DateTime → List ℕ → Result KeptView Refusal → Result DatedView BrowserRefusal
dated_as now partition (Err why) = Err (refusal.Standard why)
dated_as now partition (Ok kept) =
    Ok (record { kept = kept; created = civil_nanos now; partition = partition })

-- what the choices refuse, and else what the standard says
abbrev pub unless_beyond : Option Beyond → Result DatedView BrowserRefusal
    → Result DatedView BrowserRefusal
unless_beyond (Some why) verdict = Err (refusal.Beyond why)
unless_beyond None verdict = verdict

-- the verdict on a received cookie whose domain is as the choices read it. A partitioned cookie is secure-only, so it
-- overlays none and none overlays it
abbrev pub browser_verdict_of : BrowserAgentView → RequestView → List ℕ → DateTime → List ℕ
    → ReceivedView → Result DatedView BrowserRefusal
browser_verdict_of agent site top now text cookie =
    unless_beyond (refusal_beyond agent.choices text cookie)
    (dated_as now (partition_of agent.choices top text)
    (verdict_on agent.rules site now (lasting now (undated (unpartitioned agent.cookies)))
    (Ok cookie)))

-- the verdict on what a text is received as
abbrev pub browser_verdict_on : BrowserAgentView → RequestView → List ℕ → DateTime → List ℕ
    → Result ReceivedView Refusal → Result DatedView BrowserRefusal
browser_verdict_on agent site top now text (Err why) = Err (refusal.Standard why)
browser_verdict_on agent site top now text (Ok cookie) =
    browser_verdict_of agent site top now text (with_ascii_domain agent.choices cookie)

-- the cookie that is stored, or the refusal
abbrev pub browser_verdict : BrowserAgentView → RequestView → List ℕ → DateTime → List ℕ
    → Result DatedView BrowserRefusal
browser_verdict agent site top now text =
    browser_verdict_on agent site top now text (received text)

-- ---- the store after a text

-- the same cookie of the same partition
abbrev pub is_same_dated : DatedView → DatedView → Bool
is_same_dated left right =
    is_same_cookie left.kept right.kept && bytes_eq left.partition right.partition

-- the same cookie, with another value
abbrev pub is_changed_by : DatedView → DatedView → Bool
is_changed_by new old =
    is_same_dated old new && not (bytes_eq old.kept.value new.kept.value)

-- the cookie takes the place of the same one, and its time of creation; else it comes last
abbrev pub placed : DatedView → DatedStore → DatedStore
placed new [] = new ∷ []
placed new (old ∷ store) =
    if is_same_dated old new then record new { created = old.created } ∷ store
    else old ∷ placed new store

-- the cookie comes last
abbrev pub renewed : DatedView → DatedStore → DatedStore
renewed new store = filter (λ old. not (is_same_dated old new)) store ++ new ∷ []

-- a cookie of another value comes last, if the choices say so
abbrev pub dated_with : BrowserChoices → DatedView → DatedStore → DatedStore
dated_with choices new store =
    if choices.renews_changed && list_any (is_changed_by new) store then renewed new store
    else placed new store

-- the store after the verdict on a text
abbrev pub dated_after : BrowserChoices → DateTime → Result DatedView BrowserRefusal → DatedStore
    → DatedStore
dated_after choices now (Err why) store = store
dated_after choices now (Ok new) store = dated_lasting now (dated_with choices new store)

-- the agent without what is expired
abbrev pub without_expired : DateTime → BrowserAgentView → BrowserAgentView
without_expired now agent = record agent { cookies = dated_lasting now agent.cookies }

-- the agent after a text; expired cookies are dropped before and after
abbrev pub browser_after_text : RequestView → List ℕ → DateTime → List ℕ → BrowserAgentView
    → BrowserAgentView
browser_after_text site top now text agent =
    record agent {
      cookies = dated_after agent.choices now
          (browser_verdict (without_expired now agent) site top now text)
          (dated_lasting now agent.cookies);
    }

-- the refusal, if it is one
abbrev pub browser_refusal_of : Result DatedView BrowserRefusal → Option BrowserRefusal
browser_refusal_of (Ok cookie) = None
browser_refusal_of (Err why) = Some why

-- ---- what is sent

-- it was created at most two minutes ago
abbrev pub is_young : DateTime → DatedView → Bool
is_young now cookie = int_le (civil_nanos now) (cookie.created +ℤ pos 120 *ℤ pos 1000000000)

abbrev pub is_default : Enforcement → Bool
is_default enforcement.Default = true
is_default _ = false

-- the enforcement is "Lax-Allowing-Unsafe": there was no `SameSite`, two minutes aren't over, and the request navigates
-- ("Lax-Allowing-Unsafe" enforcement)
abbrev pub allows_unsafe : BrowserChoices → RequestView → DateTime → DatedView → Bool
allows_unsafe choices request now cookie =
    choices.sends_unsafe_for_two_minutes
    && (is_default cookie.kept.same_site && (request.is_top_level && is_young now cookie))

-- the request, as `SameSite` of this cookie counts it
abbrev pub counted_as : BrowserChoices → RequestView → DateTime → DatedView → RequestView
counted_as choices request now cookie =
    if allows_unsafe choices request now cookie then record request { is_same_site = true }
    else request

-- it isn't partitioned, or is kept by this top-level site
abbrev pub is_in_partition : List ℕ → DatedView → Bool
is_in_partition top cookie = bytes_eq cookie.partition [] || bytes_eq cookie.partition top

-- the cookie is sent with the request of a page of the top-level site
abbrev pub is_sent_beyond : BrowserChoices → RequestView → List ℕ → DateTime → DatedView → Bool
is_sent_beyond choices request top now cookie =
    lasts cookie.kept.expiry now
    && (suits (counted_as choices request now cookie) cookie.kept && is_in_partition top cookie)

-- the cookies that are sent, in the order of their creation
abbrev pub visible_beyond : BrowserChoices → RequestView → List ℕ → DateTime → DatedStore
    → CookieStore
visible_beyond choices request top now store =
    undated (filter (is_sent_beyond choices request top now) store)

-- the header of these cookies, with longer paths first, and the earlier creation first among equals
pub record IsHeaderOf (sent : CookieStore) (header : List ℕ) : Type 0 where
  pub cookies : CookieStore
  pub moved : IsPermutation sent cookies
  pub text : header ≡ joined_texts (map sent_pair cookies)
  pub longer_first : IsSortedByKey path_length greater_first cookies
  pub earlier_first : IsStableByKey path_length greater_first sent cookies

-- the cookie after the request: if it was sent, the time is its last access
abbrev pub accessed_beyond : BrowserChoices → RequestView → List ℕ → DateTime → DatedView → DatedView
accessed_beyond choices request top now cookie =
    if is_sent_beyond choices request top now cookie
    then record cookie { kept = record cookie.kept { last_access = civil_nanos now } } else cookie

-- ---- too many cookies of a site

-- no limit but 150 cookies of a site
abbrev pub site_limits : Limits
site_limits = record { per_domain = 1000000; per_site = 150; total = 1000000 }

-- it isn't partitioned, and is of the site that the host is in
abbrev pub is_at_site : List Rule → List ℕ → DatedView → Bool
is_at_site rules host cookie = bytes_eq cookie.partition [] && is_of_site rules host cookie.kept

abbrev pub cookies_at_site : List Rule → List ℕ → DatedStore → CookieStore
cookies_at_site rules host store = undated (filter (is_at_site rules host) store)

-- what is left of them in a store, if 150 may stay (Storage Model, "remove excess cookies")
abbrev pub left_at_site : List Rule → List ℕ → DateTime → DatedStore → CookieStore
left_at_site rules host now store =
    trimmed rules site_limits now (kept_with_each (cookies_at_site rules host store) [])

-- one of these is the cookie
abbrev pub is_among : CookieStore → DatedView → Bool
is_among left cookie = list_any (λ kept. is_same_cookie kept cookie.kept) left

-- the cookies of other sites, and of this one what is left
abbrev pub staying_at_site : List Rule → List ℕ → CookieStore → DatedStore → DatedStore
staying_at_site rules host left store =
    filter (λ cookie. not (is_at_site rules host cookie) || is_among left cookie) store

-- if the site has more than 180 cookies, 150 are left
abbrev pub without_excess : List Rule → List ℕ → DateTime → DatedStore → DatedStore
without_excess rules host now store =
    if nat_lt 180 (length (cookies_at_site rules host store))
    then staying_at_site rules host (left_at_site rules host now store) store else store
