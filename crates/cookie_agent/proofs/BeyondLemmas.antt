-- With the standard's choices a user agent with choices does what one without them does.
use Rattle.std.proofs.Common.{◌≡◌, ℕ, ◌&&◌, ◌||◌, not, ◌<◌, ◌++◌, zero, suc, length, get_or, arith, Bool, true, false, cond, List, [], ◌∷◌, map, option_map, Result, Ok, Err, refl, sym, ap, subst, ◌∙◌}
use Rattle.std.proofs.lemmas.List.Elements.{All-cons, All-head, All-tail, All-filter}
use Rattle.std.proofs.Math.ListN.{set}
use Rattle.std.specs.List.{filter, list_any}
use Rattle.std.specs.Str.{bytes_eq}
use Rattle.jiff.specs.Types.{DateTime}
use Rattle.jiff.specs.Words.{civil_nanos}
use Rattle.cookie_browser.specs.Beyond.{refusal_beyond}
use Rattle.cookie_browser.specs.Received.{ReceivedView, received}
use Rattle.cookie_browser.specs.Request.{RequestView}
use Rattle.cookie_browser.specs.Storage.{KeptView, CookieStore, is_overlaid, is_same_cookie, is_sent, kept_after_verdict, kept_with, lasting, lasts, suits, verdict_on}
use Rattle.cookie_browser.specs.declared.refusal.Refusal.{Refusal}
use Rattle.cookie_agent.specs.Beyond.{BrowserAgentView, DatedStore, IsHeaderOf, DatedView, browser_after_text, browser_refusal_of, browser_verdict, browser_verdict_on, dated_after, dated_as, dated_lasting, is_same_dated, is_sent_beyond, placed, undated, unpartitioned, visible_beyond, without_expired}
use Rattle.cookie_agent.specs.BeyondCode.{is_overlaid_dated}
use Rattle.cookie.specs.Header.{joined_texts}
use Rattle.cookie_agent.specs.Sent.{sent_pair, visible}
use Rattle.cookie_agent.specs.SentCode.{IsByPath}
use Rattle.cookie_agent.specs.StandardChoices.{AreUnpartitioned, IsReadAsStandard, ReadsStandard, SendsStandard, standard_choices, without_choices}
use Rattle.cookie_agent.specs.Store.{agent_after_text, agent_verdict, refusal_of}
use Rattle.cookie_agent.specs.Stored.{IsApart}
use Rattle.cookie_agent.specs.declared.browser_refusal.BrowserRefusal.TheVariants as refusal
use Rattle.cookie_agent.proofs.PutLemmas.{apart-filter, kept_all, lasting-twice}

-- a test of those that last and aren't partitioned
pub any_unpartitioned : (request : RequestView) (new : KeptView) (now : DateTime) (xs : DatedStore)
    → list_any (is_overlaid request new) (lasting now (undated (unpartitioned xs))) ≡ list_any (is_overlaid_dated request new now) xs
any_unpartitioned request new now [] = refl
any_unpartitioned request new now (c ∷ xs) = by (bytes_eq c.partition []) (any_unpartitioned request new now xs)
  where
    lasts_so : (b : Bool) → list_any (is_overlaid request new) (lasting now (undated (unpartitioned xs))) ≡ list_any (is_overlaid_dated request new now) xs
        → list_any (is_overlaid request new) (cond b (c.kept ∷ lasting now (undated (unpartitioned xs))) (lasting now (undated (unpartitioned xs))))
        ≡ (b && is_overlaid request new c.kept || list_any (is_overlaid_dated request new now) xs)
    lasts_so true rest = ap (λ r. is_overlaid request new c.kept || r) rest
    lasts_so false rest = rest

    by : (b : Bool) → list_any (is_overlaid request new) (lasting now (undated (unpartitioned xs))) ≡ list_any (is_overlaid_dated request new now) xs
        → list_any (is_overlaid request new) (lasting now (undated (cond b (c ∷ unpartitioned xs) (unpartitioned xs))))
        ≡ ((b && lasts c.kept.expiry now) && is_overlaid request new c.kept || list_any (is_overlaid_dated request new now) xs)
    by true rest = lasts_so (lasts c.kept.expiry now) rest
    by false rest = rest

-- ---- what lasts

undated-lasting : (now : DateTime) (xs : DatedStore) → undated (dated_lasting now xs) ≡ lasting now (undated xs)
undated-lasting now [] = refl
undated-lasting now (c ∷ xs) = by (lasts c.kept.expiry now) (undated-lasting now xs)
  where
    by : (b : Bool) → undated (dated_lasting now xs) ≡ lasting now (undated xs)
        → undated (cond b (c ∷ dated_lasting now xs) (dated_lasting now xs)) ≡ cond b (c.kept ∷ lasting now (undated xs)) (lasting now (undated xs))
    by true rest = ap (λ l. c.kept ∷ l) rest
    by false rest = rest

-- ---- none is partitioned

no_partition : (xs : DatedStore) → AreUnpartitioned xs → undated (unpartitioned xs) ≡ undated xs
no_partition [] plain = refl
no_partition (c ∷ xs) plain =
    ap (λ p. undated (cond (bytes_eq p []) (c ∷ unpartitioned xs) (unpartitioned xs))) (All-head (λ d. d.partition ≡ []) c xs plain)
    ∙ ap (λ l. c.kept ∷ l) (no_partition xs (All-tail (λ d. d.partition ≡ []) c xs plain))

-- ---- the place

same_plain : (old new : DatedView) → old.partition ≡ [] → new.partition ≡ [] → is_same_dated old new ≡ is_same_cookie old.kept new.kept
same_plain old new olds news =
    ap (λ p. is_same_cookie old.kept new.kept && bytes_eq p new.partition) olds
    ∙ ap (λ p. is_same_cookie old.kept new.kept && bytes_eq [] p) news
    ∙ by (is_same_cookie old.kept new.kept)
  where
    by : (b : Bool) → (b && true) ≡ b
    by true = refl
    by false = refl

undated-placed : (new : DatedView) → new.partition ≡ [] → (xs : DatedStore) → AreUnpartitioned xs → IsApart (undated xs) → undated (placed new xs) ≡ kept_with new.kept (undated xs)
undated-placed new news [] plain apart = refl
undated-placed new news (c ∷ xs) plain apart =
    ap (λ b. undated (cond b (record new { created = c.created } ∷ xs) (c ∷ placed new xs))) (same_plain c new (All-head (λ d. d.partition ≡ []) c xs plain) news)
    ∙ by (is_same_cookie c.kept new.kept) refl (undated-placed new news xs (All-tail (λ d. d.partition ≡ []) c xs plain) apart.1)
  where
    by : (b : Bool) → is_same_cookie c.kept new.kept ≡ b → undated (placed new xs) ≡ kept_with new.kept (undated xs)
        → undated (cond b (record new { created = c.created } ∷ xs) (c ∷ placed new xs))
        ≡ cond b (new.kept ∷ filter (λ d. not (is_same_cookie d new.kept)) (undated xs)) (c.kept ∷ kept_with new.kept (undated xs))
    by true e rest = ap (λ l. new.kept ∷ l) (sym (kept_all c.kept new.kept e (undated xs) apart.0))
    by false e rest = ap (λ l. c.kept ∷ l) rest

plain-placed : (new : DatedView) → new.partition ≡ [] → (xs : DatedStore) → AreUnpartitioned xs → AreUnpartitioned (placed new xs)
plain-placed new news [] plain = All-cons (λ d. d.partition ≡ []) new [] news plain
plain-placed new news (c ∷ xs) plain = by (is_same_dated c new) (plain-placed new news xs (All-tail (λ d. d.partition ≡ []) c xs plain))
  where
    by : (b : Bool) → AreUnpartitioned (placed new xs) → AreUnpartitioned (cond b (record new { created = c.created } ∷ xs) (c ∷ placed new xs))
    by true rest = All-cons (λ d. d.partition ≡ []) (record new { created = c.created }) xs news (All-tail (λ d. d.partition ≡ []) c xs plain)
    by false rest = All-cons (λ d. d.partition ≡ []) c (placed new xs) (All-head (λ d. d.partition ≡ []) c xs plain) rest

-- where the code puts it
pub placed_at : (d x : DatedView) (xs : DatedStore) (i : ℕ) → i < length xs → ((k : ℕ) → k < i → is_same_dated (get_or xs k d) x ≡ false) → is_same_dated (get_or xs i d) x ≡ true
    → set xs i (record x { created = (get_or xs i d).created }) ≡ placed x xs
placed_at d x [] i below before here = absurd (omega arith)
placed_at d x (c ∷ xs) zero below before here = sym (ap (λ b. cond b (record x { created = c.created } ∷ xs) (c ∷ placed x xs)) here)
placed_at d x (c ∷ xs) (suc i) below before here =
    ap (λ l. c ∷ l) (placed_at d x xs i (omega arith) (λ k lt. before (suc k) (omega arith)) here)
    ∙ sym (ap (λ b. cond b (record x { created = c.created } ∷ xs) (c ∷ placed x xs)) (before 0 (omega arith)))

pub placed_last : (d x : DatedView) (xs : DatedStore) → ((k : ℕ) → k < length xs → is_same_dated (get_or xs k d) x ≡ false) → xs ++ x ∷ [] ≡ placed x xs
placed_last d x [] none = refl
placed_last d x (c ∷ xs) none =
    ap (λ l. c ∷ l) (placed_last d x xs (λ k lt. none (suc k) (omega arith)))
    ∙ sym (ap (λ b. cond b (record x { created = c.created } ∷ xs) (c ∷ placed x xs)) (none 0 (omega arith)))

-- the element at a place, whatever is read beyond the end
pub read_at : (xs : DatedStore) (i : ℕ) (old : DatedView) → old ≡ get_or xs i old → i < length xs → (d : DatedView) → get_or xs i d ≡ old
read_at [] i old e below d = absurd (omega arith)
read_at (y ∷ xs) zero old e below d = sym e
read_at (y ∷ xs) (suc i) old e below d = read_at xs i old e (omega arith) d

-- ---- the store after a verdict

after_standard : (now : DateTime) (v : Result KeptView Refusal) (xs : DatedStore) → AreUnpartitioned xs → IsApart (undated xs)
    → undated (dated_after standard_choices now (dated_as now [] v) xs) ≡ kept_after_verdict now v (undated xs)
after_standard now (Err why) xs plain apart = refl
after_standard now (Ok kept) xs plain apart =
    let new : DatedView = record { kept = kept; created = civil_nanos now; partition = [] } in
    undated-lasting now (placed new xs) ∙ ap (lasting now) (undated-placed new refl xs plain apart)

plain_after : (now : DateTime) (v : Result KeptView Refusal) (xs : DatedStore) → AreUnpartitioned xs → AreUnpartitioned (dated_after standard_choices now (dated_as now [] v) xs)
plain_after now (Err why) xs plain = plain
plain_after now (Ok kept) xs plain =
    let new : DatedView = record { kept = kept; created = civil_nanos now; partition = [] } in
    All-filter (λ d. lasts d.kept.expiry now) (λ d. d.partition ≡ []) (placed new xs) (plain-placed new refl xs plain)

refusal_standard : (now : DateTime) (v : Result KeptView Refusal) → browser_refusal_of (dated_as now [] v) ≡ option_map refusal.Standard (refusal_of v)
refusal_standard now (Err why) = refl
refusal_standard now (Ok kept) = refl

-- ---- the laws

module _ (site : RequestView) (top : List ℕ) (now : DateTime) (text : List ℕ) (agent : BrowserAgentView) where
  abbrev stands : CookieStore
  stands = lasting now (undated agent.cookies)

  abbrev left : DatedStore
  left = dated_lasting now agent.cookies

  module _ (standard : agent.choices ≡ standard_choices) (plain : AreUnpartitioned agent.cookies) (apart : IsApart (undated agent.cookies)) where
    plain_left : AreUnpartitioned left
    plain_left = All-filter (λ c. lasts c.kept.expiry now) (λ c. c.partition ≡ []) agent.cookies plain

    left_stands : undated left ≡ stands
    left_stands = undated-lasting now agent.cookies

    apart_left : IsApart (undated left)
    apart_left = subst IsApart (sym left_stands) (apart-filter (λ c. lasts c.expiry now) (undated agent.cookies) apart)

    seen_left : lasting now (undated (unpartitioned left)) ≡ stands
    seen_left = ap (lasting now) (no_partition left plain_left ∙ left_stands) ∙ lasting-twice now (undated agent.cookies)

    -- the verdict, with what the text is received as
    verdict_so : (r : Result ReceivedView Refusal)
        → browser_verdict_on (without_expired now agent) site top now text r ≡ dated_as now [] (verdict_on agent.rules site now stands r)
    unfolding refusal_beyond
    verdict_so (Err why) = refl
    verdict_so (Ok read) =
        ap (λ k. browser_verdict_on (record (without_expired now agent) { choices = k }) site top now text (Ok read)) standard
        ∙ ap (λ s. dated_as now [] (verdict_on agent.rules site now s (Ok read))) seen_left

    verdict_standard : browser_verdict (without_expired now agent) site top now text ≡ dated_as now [] (agent_verdict (without_choices agent) site now text)
    verdict_standard = verdict_so (received text)

    cookies_after : (browser_after_text site top now text agent).cookies
        ≡ dated_after standard_choices now (dated_as now [] (agent_verdict (without_choices agent) site now text)) left
    cookies_after =
        ap (λ k. dated_after k now (browser_verdict (without_expired now agent) site top now text) left) standard
        ∙ ap (λ v. dated_after standard_choices now v left) verdict_standard

    undated_after : undated (browser_after_text site top now text agent).cookies ≡ (agent_after_text site now text (without_choices agent)).cookies
    undated_after =
        ap undated cookies_after
        ∙ after_standard now (agent_verdict (without_choices agent) site now text) left plain_left apart_left
        ∙ ap (kept_after_verdict now (agent_verdict (without_choices agent) site now text)) left_stands

    read_so : IsReadAsStandard site top now text agent
    read_so = record {
      after = ap (λ cookies. record (without_choices agent) { cookies = cookies }) undated_after;
      refusal = ap browser_refusal_of verdict_standard ∙ refusal_standard now (agent_verdict (without_choices agent) site now text);
      unpartitioned = subst AreUnpartitioned (sym cookies_after) (plain_after now (agent_verdict (without_choices agent) site now text) left plain_left);
    }

pub reads_standard : ReadsStandard
reads_standard site top now text agent standard plain apart = read_so site top now text agent standard plain apart

-- a cookie that isn't partitioned is sent as the standard has it
sent_so : (site : RequestView) (top : List ℕ) (now : DateTime) (c : DatedView) → c.partition ≡ [] → is_sent_beyond standard_choices site top now c ≡ is_sent site now c.kept
sent_so site top now c plain =
    ap (λ p. lasts c.kept.expiry now && (suits site c.kept && (bytes_eq p [] || bytes_eq p top))) plain
    ∙ ap (λ b. lasts c.kept.expiry now && b) (by (suits site c.kept))
  where
    by : (b : Bool) → (b && true) ≡ b
    by true = refl
    by false = refl

pub sends_standard : SendsStandard
sends_standard site top now [] plain = refl
sends_standard site top now (c ∷ store) plain =
    ap (λ b. undated (cond b (c ∷ filter (is_sent_beyond standard_choices site top now) store) (filter (is_sent_beyond standard_choices site top now) store)))
    (sent_so site top now c (All-head (λ d. d.partition ≡ []) c store plain))
    ∙ by (is_sent site now c.kept) (sends_standard site top now store (All-tail (λ d. d.partition ≡ []) c store plain))
  where
    by : (b : Bool) → visible_beyond standard_choices site top now store ≡ visible site now (undated store)
        → undated (cond b (c ∷ filter (is_sent_beyond standard_choices site top now) store) (filter (is_sent_beyond standard_choices site top now) store))
        ≡ cond b (c.kept ∷ visible site now (undated store)) (visible site now (undated store))
    by true rest = ap (λ l. c.kept ∷ l) rest
    by false rest = rest

-- ---- the header

pub header_of : (sent : CookieStore) (header : List ℕ) (created ordered : CookieStore) → created ≡ sent → IsByPath created ordered → header ≡ joined_texts (map sent_pair ordered)
    → IsHeaderOf sent header
header_of sent header created ordered is by_path text =
    let sorted : IsByPath sent ordered = subst (λ s. IsByPath s ordered) is by_path in
    record { cookies = ordered; moved = sorted.moved; text = text; longer_first = sorted.longer_first; earlier_first = sorted.earlier_first }
