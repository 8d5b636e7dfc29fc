-- What the jars of prefixes store, and what removes it, is stored as its name asks for.
use Rattle.std.proofs.Common.{◌≡◌, ℕ, ◌+◌, ◌≤◌, ◌&&◌, ◌||◌, not, Bool, true, false, List, [], codes, cond, length, Some, None, option_map, refl, sym, ap, ◌∙◌, arith}
use Rattle.std.proofs.lemmas.Bool.{false≢true}
use Rattle.std.proofs.lemmas.Slice.Eq.{bytes_eq-Decides}
use Rattle.std.proofs.lemmas.Str.{IsUtf8-nil}
use Rattle.std.specs.Str.{bytes_eq}
use mathlib.Core.Logic.{◌≢◌}
use Rattle.jiff.specs.Types.{DateTime}
use Rattle.jiff.proofs.SpanFacts.{signed_arith}
use Rattle.cookie.specs.Escapes.{escape}
use Rattle.cookie.specs.Normal.{IsNamed}
use Rattle.cookie.specs.Prefixes.{conforming_cookie, host_prefix, host_bound, prefixed_cookie, secure_prefix, secure_cookie}
use Rattle.cookie.specs.Record.{Record}
use Rattle.cookie.specs.Removal.{removal}
use Rattle.cookie.proofs.EscapeTextLemmas.{escape_some, escape-nil}
use Rattle.cookie.specs.Text.{is_true}
use Rattle.cookie_core.proofs.ByteLemmas.{Lacks-from_test}
use Rattle.cookie_core.proofs.NamePrefixLemmas.{bound_meets, needs-escaped}
use Rattle.cookie_core.specs.NamePrefixes.{has_any_prefix, unmet_prefix}
use Rattle.cookie_core.specs.Wsp.{trim_wsp}
use Rattle.cookie_browser.specs.Printed.{IsPlainValue, IsReceivable, printed_as}
use Rattle.cookie_browser.specs.Request.{RequestView}
use Rattle.cookie_browser.specs.Storage.{KeptView, crosses, first_refusal, guards_of, is_site_bound, kept_as, or_next_refusal, prefix_refusal, refusal_by_connection, refusal_by_domain, refusal_by_prefix, refused_if, unless_refused, verdict_on}
use Rattle.cookie_browser.specs.Suffixes.{Rule}
use Rattle.cookie_browser.specs.declared.refusal.Refusal.TheVariants as refusal
use Rattle.cookie_browser.proofs.PrintedLemmas.{received_printed}
use Rattle.cookie_agent.specs.Prefixes.{AreHostBound, AreSecured, IsAtHome, IsHostBound, IsSecured}

-- a cookie that tells the agent to drop another has its name
pub named_removal : (moment : DateTime) (cookie : Record) → IsNamed cookie → IsNamed (removal moment cookie)
named_removal moment cookie h =
    record {
      cookie = record { name = h.cookie.name; value = IsUtf8-nil; path = h.cookie.path; domain = h.cookie.domain; max_age = (omega (arith, signed_arith), omega (arith, signed_arith)) };
      name = h.name;
    }

-- and its text isn't longer
pub short_removal : (name value : List ℕ) → length (escape name) + length (escape value) ≤ 4096 → length (escape name) + length (escape []) ≤ 4096
short_removal name value h = let e : length (escape []) ≡ 0 = ap length escape-nil in omega arith

slash_plain : IsPlainValue (codes "/")
unfolding trim_wsp
slash_plain = record { whole = Lacks-from_test 59 (codes "/") refl; quiet = refl; trimmed = refl; short = omega arith }

-- ---- `__Host-`

pub not_empty : (t : List ℕ) → t ≢ [] → bytes_eq t [] ≡ false
not_empty t some = by (bytes_eq t []) refl
  where
    by : (b : Bool) → bytes_eq t [] ≡ b → b ≡ false
    by true e = absurd (some ((bytes_eq-Decides t []).0 e))
    by false e = refl

and_false : (a : Bool) → a && false ≡ false
and_false true = refl
and_false false = refl

near_enough : (a b : Bool) → a || b ≡ true → not a && not b ≡ false
near_enough true b e = refl
near_enough false true e = refl
near_enough false false e = absurd (false≢true e)

module _ (rules : List Rule) (site : RequestView) (home : IsAtHome site) (now : DateTime) (cookie : Record) (h : IsNamed (host_bound cookie))
    (size : length (escape cookie.name) + length (escape cookie.value) ≤ 4096) where
  abbrev new : KeptView
  new = kept_as rules site now (printed_as (host_bound cookie))

  named : bytes_eq (escape cookie.name) [] ≡ false
  named = not_empty (escape cookie.name) (escape_some cookie.name h.name)

  met : unmet_prefix (escape cookie.name) (guards_of (printed_as (host_bound cookie)) new) ≡ None
  met =
      bound_meets (escape cookie.name) (guards_of (printed_as (host_bound cookie)) new) refl refl
      (λ e. ap (λ b. is_true (cond b (Some true) cookie.http_only)) (sym (needs-escaped cookie.name h.cookie.name) ∙ e))

  prefixed : refusal_by_prefix (printed_as (host_bound cookie)) new ≡ None
  unfolding refusal_by_prefix
  prefixed =
      ap (λ o. or_next_refusal (option_map prefix_refusal o) (refused_if (bytes_eq (escape cookie.name) [] && has_any_prefix (escape cookie.value)) refusal.NamelessPrefix None)) met
      ∙ ap (λ b. refused_if (b && has_any_prefix (escape cookie.value)) refusal.NamelessPrefix None) named

  accepted : first_refusal rules site [] (printed_as (host_bound cookie)) new ≡ None
  unfolding refusal_by_domain refusal_by_connection
  accepted =
      let near : crosses site new ≡ false = ap (λ b. is_site_bound new.same_site && b) (near_enough site.is_same_site site.is_top_level home.near) ∙ and_false (is_site_bound new.same_site) in
      rw (named, home.secure, near, and_false (not (is_site_bound new.same_site)), prefixed) refl

  pub bound_stored : IsHostBound rules site now (host_bound cookie)
  bound_stored =
      record {
        kept = new;
        stored = ap (verdict_on rules site now []) (received_printed (host_bound cookie) (record { named = h; size = size; path = slash_plain; domain = tt }))
            ∙ ap (λ o. unless_refused o new) accepted;
        scope = refl;
        secure = refl;
      }

pub all_host_bound : (rules : List Rule) (site : RequestView) → AreHostBound rules site
all_host_bound rules site home now cookie h size =
    let named : Record = prefixed_cookie host_prefix cookie in (
      bound_stored rules site home now named h size,
      λ moment. bound_stored rules site home now (removal moment named) (named_removal moment (host_bound named) h) (short_removal named.name named.value size),
    )

-- ---- `__Secure-`

secured : (cookie : Record) → IsReceivable (secure_cookie cookie) → IsSecured (secure_cookie cookie)
secured cookie h = record { read = printed_as (secure_cookie cookie); is = received_printed (secure_cookie cookie) h; secure = refl }

pub all_secured : AreSecured
all_secured cookie h =
    let stored : Record = conforming_cookie secure_prefix secure_cookie cookie in (
      secured stored h,
      λ moment. secured (removal moment stored) (record { named = named_removal moment stored h.named; size = short_removal stored.name stored.value h.size; path = h.path; domain = h.domain }),
    )
