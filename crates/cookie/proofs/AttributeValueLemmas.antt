-- The cookies of a delta that fit a header, along a walk over them.
use Rattle.std.proofs.Common.{◌≡◌, ◌↔◌, List, ◌∷◌, All, Option, Some, None, option_map, refl, ap, subst}
use Rattle.std.proofs.lemmas.List.Elements.{All-cons, All-contains, All-tail, All-weaker}
use Rattle.std.proofs.lemmas.Option.{none-some, same_Some}
use Rattle.std.specs.FinMap.{FinMap, get}
use Rattle.cookie_core.specs.Record.{Record}
use Rattle.cookie.specs.AttributeValues.{AllFitFields, FitsField}
use Rattle.cookie.specs.DeltaTexts.{WalksDelta}
use Rattle.cookie.specs.Jar.{Marked, Name, name_cmp}
use Rattle.cookie.proofs.MetLemmas.{meets_each, meets_only}

entry_fits : (entry : Option Marked) (cookie : Record) → ((m : Marked) → entry ≡ Some m → FitsField m.cookie) → option_map (λ m. m.cookie) entry ≡ Some cookie → FitsField cookie
entry_fits None cookie fit e = absurd (none-some cookie e)
entry_fits (Some m) cookie fit e = subst FitsField (same_Some m.cookie cookie e) (fit m refl)

-- all cookies of the delta are those of a walk
pub AllFitFields-walk : (delta : FinMap name_cmp Marked) (cookies : List Record) → WalksDelta delta cookies → All FitsField cookies ↔ AllFitFields delta
AllFitFields-walk delta cookies walks =
    let at : Name → Option Record = λ n. option_map (λ m. m.cookie) (get delta n) in (
      λ all n entry e. All-contains FitsField cookies entry.cookie all (meets_each at cookies walks n entry.cookie (ap (option_map (λ m. m.cookie)) e)),
      λ fit. All-weaker (λ c. at c.name ≡ Some c) FitsField (λ c e. entry_fits (get delta c.name) c (fit c.name) e) cookies (meets_only at cookies walks),
    )

-- where one fits, the others decide
pub AllFitFields-next : (delta : FinMap name_cmp Marked) (cookie : Record) (left : List Record) → FitsField cookie → All FitsField (cookie ∷ left) ↔ AllFitFields delta → All FitsField left ↔ AllFitFields delta
AllFitFields-next delta cookie left fits whole =
    (λ all. whole.0 (All-cons FitsField cookie left fits all), λ fit. All-tail FitsField cookie left (whole.1 fit))
