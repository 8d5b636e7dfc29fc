-- What a browser makes of a cookie, for C.
use Rattle.std.proofs.Common.{◌≡◌, ℕ, ℤ, pos, ◌+ℤ◌, ◌-ℤ◌, ◌*ℤ◌, List, [], Bool, true, false, cond, Option, Some, None, Ok, refl, sym, ap, subst, ◌∙◌, arith}
use Rattle.std.specs.Prelude.{Result, int_lt}
use Rattle.jiff.specs.Types.{DateTime}
use Rattle.jiff.specs.Words.{IsCivilNanos, IsDurationNanos, civil_nanos}
use Rattle.jiff.proofs.Family.{civil_nanos_range}
use Rattle.jiff.proofs.SpanFacts.{signed_arith}
use Rattle.cookie_browser.specs.Received.{ReceivedView}
use Rattle.cookie_browser.specs.Request.{RequestView}
use Rattle.cookie_browser.specs.Storage.{KeptView, earlier_of, first_refusal, kept_as, kept_until, refusal_by_connection, refusal_by_prefix, seconds_after, unless_refused, verdict, verdict_on}
use Rattle.cookie_browser.specs.Suffixes.{Rule}
use Rattle.cookie_browser.specs.declared.refusal.Refusal.{Refusal}
use Rattle.cookie_c.specs.ExplanationParts.{IsDraftOf}
use Rattle.cookie_c.specs.Explanations.{Explains, request_of}
use Rattle.cookie_c.specs.declared.explanation.draft.Draft.{Draft}
use Rattle.cookie_c.specs.declared.explanation.Explanation.{Explanation}
use Rattle.cookie_c.specs.declared.explanation.request.Request.{Request}

-- what is left until a date, or until the limit, has a duration
pub left_fits : (now : DateTime) (expires : Option DateTime) (end : ℤ) → Some end ≡ kept_until now None expires → IsDurationNanos (end -ℤ civil_nanos now)
left_fits now None end is = cc
left_fits now (Some moment) end is =
    let e : end ≡ earlier_of (civil_nanos moment) (seconds_after now 34560000) = cc in
    subst (λ n. IsDurationNanos (n -ℤ civil_nanos now)) (sym e)
    (by (civil_nanos now) (civil_nanos moment) (int_lt (civil_nanos moment) (seconds_after now 34560000)) (civil_nanos_range now) (civil_nanos_range moment))
  where
    by : (n a : ℤ) (b : Bool) → IsCivilNanos n → IsCivilNanos a → IsDurationNanos (cond b a (n +ℤ pos 34560000 *ℤ pos 1000000000) -ℤ n)
    by n a true within after = omega (arith, signed_arith, within.0, within.1, after.0, after.1)
    by n a false within after = omega (arith, signed_arith)

module _ (rules : List Rule) (request : RequestView) (now : DateTime) (cookie : ReceivedView) where
  -- a refusal doesn't depend on the two times
  timeless : first_refusal rules request [] cookie (record (kept_as rules request now cookie) { expiry = None; last_access = pos 0 })
      ≡ first_refusal rules request [] cookie (kept_as rules request now cookie)
  unfolding refusal_by_connection refusal_by_prefix
  timeless = refl

  -- the verdict by the first refusal of a cookie without its times
  pub verdict_by : (why : Option Refusal) (kept : KeptView) → kept ≡ record (kept_as rules request now cookie) { expiry = None; last_access = pos 0 }
      → why ≡ first_refusal rules request [] cookie kept → unless_refused why (kept_as rules request now cookie) ≡ verdict_on rules request now [] (Ok cookie)
  verdict_by why kept is first =
      ap (λ o. unless_refused o (kept_as rules request now cookie)) (first ∙ ap (first_refusal rules request [] cookie) is ∙ timeless)

-- the draft of the verdict explains the text
pub explained : (request : Request) (text : List ℕ) (rules : List Rule) (now : DateTime) (seen : RequestView) (draft : Draft)
    (answer : Explanation) (old new : List ℕ) → seen ≡ request_of request → IsDraftOf now (verdict rules seen now [] text) draft
    → ((time : DateTime) (outcome : Result KeptView Refusal) → IsDraftOf time outcome draft → Explains time outcome answer old new)
    → Explains now (verdict rules (request_of request) now [] text) answer old new
explained request text rules now seen draft answer old new is made gives =
    gives now (verdict rules (request_of request) now [] text) (subst (λ s. IsDraftOf now (verdict rules s now [] text) draft) is made)
