-- The texts of the cookies that a delta's walk meets are the delta's, in any order.
use Rattle.std.proofs.Common.{◌≡◌, ℕ, zero, suc, true, false, List, [], ◌∷◌, map, Contains, Option, Some, None, option_map, Result, Ok, Err, refl, sym, ap, arith}
use Rattle.std.proofs.lemmas.List.Elements.{All-map, All-weaker}
use Rattle.std.proofs.lemmas.List.Sorted.{All-permutation, Contains-permutation, IsPermutation-trans}
use Rattle.std.proofs.lemmas.Option.{none-some, same_Some}
use Rattle.std.specs.FinMap.{FinMap, get}
use Rattle.std.specs.List.Sorted.{IsPermutation}
use Rattle.std.specs.Result.{IsErrAnd, IsErrOf}
use Rattle.cookie.specs.Jar.{name_cmp, Marked}
use Rattle.cookie_core.specs.Record.{Record}
use Rattle.cookie_core.specs.Text.{cookie_text}
use Rattle.cookie.specs.Walk.{Walks}
use Rattle.cookie.proofs.MetLemmas.{meets_each, meets_only}
use Rattle.cookie.specs.DeltaTexts.{IsDeltaText, AreDeltaTexts, AreDeltaTextsOnce}
use Rattle.cookie.specs.declared.texts_error.TextsError.{TextsError}
use Rattle.cookie.specs.declared.texts_error.TextsError.TheVariants as refusal

-- the encoded text of a cookie
abbrev text_of : Record → List ℕ
text_of cookie = cookie_text true false cookie

-- the cookie of an entry, where there is one
abbrev cookie_of : Option Marked → Option Record
cookie_of entry = option_map (λ m. m.cookie) entry

Contains-text : (cookies : List Record) (cookie : Record) → Contains cookies cookie → Contains (map text_of cookies) (text_of cookie)
Contains-text [] cookie (k, within, is) = absurd (omega arith)
Contains-text (c ∷ cs) cookie (zero, within, is) = (0, omega arith, ap text_of is)
Contains-text (c ∷ cs) cookie (suc k, within, is) =
    let (i, below, found) = Contains-text cs cookie (k, omega arith, is) in
    (suc i, omega arith, found)

-- the entry of a cookie that was found
entry_of : (entry : Option Marked) (cookie : Record) → cookie_of entry ≡ Some cookie → (m : Marked) × (entry ≡ Some m) × (m.cookie ≡ cookie)
entry_of None cookie e = absurd (none-some cookie e)
entry_of (Some m) cookie e = (m, refl, same_Some m.cookie cookie e)

module _ (delta : FinMap name_cmp Marked) where
  is_text : (cookie : Record) → cookie_of (get delta cookie.name) ≡ Some cookie → IsDeltaText delta (text_of cookie)
  is_text cookie e =
      let (entry, stands, is) = entry_of (get delta cookie.name) cookie e in
      record { name = cookie.name; entry = entry; stands = stands; is = ap text_of (sym is) }

  AreDeltaTexts-walk : (cookies : List Record) → Walks (λ n. option_map (λ m. m.cookie) (get delta n)) cookies → AreDeltaTexts delta (map (cookie_text true false) cookies)
  AreDeltaTexts-walk cookies walks =
      record {
        each = λ name entry e. Contains-text cookies entry.cookie (meets_each (λ n. cookie_of (get delta n)) cookies walks name entry.cookie (ap cookie_of e));
        only = All-map (IsDeltaText delta) text_of cookies
            (All-weaker (λ c. cookie_of (get delta c.name) ≡ Some c) (λ c. IsDeltaText delta (text_of c)) is_text cookies (meets_only (λ n. cookie_of (get delta n)) cookies walks));
      }

  AreDeltaTexts-moved : (texts others : List (List ℕ)) → IsPermutation texts others → AreDeltaTexts delta texts → AreDeltaTexts delta others
  AreDeltaTexts-moved texts others moved are =
      record {
        each = λ name entry e. Contains-permutation texts others (text_of entry.cookie) moved (are.each name entry e);
        only = All-permutation (IsDeltaText delta) texts others moved are.only;
      }

  -- once is at least once
  pub AreDeltaTexts-once : (texts : List (List ℕ)) → AreDeltaTextsOnce delta texts → AreDeltaTexts delta texts
  AreDeltaTexts-once texts once = AreDeltaTexts-moved (map text_of once.cookies) texts once.written (AreDeltaTexts-walk once.cookies once.are)

  pub AreDeltaTextsOnce-moved : (texts others : List (List ℕ)) → IsPermutation texts others → AreDeltaTextsOnce delta texts → AreDeltaTextsOnce delta others
  AreDeltaTextsOnce-moved texts others moved once =
      record {
        cookies = once.cookies;
        are = once.are;
        written = IsPermutation-trans (map text_of once.cookies) texts others once.written moved;
      }

-- out of memory is no other refusal
pub memory_is_valid : {T : Type 0} (r : Result T TextsError) → IsErrAnd r (λ e. e ≡ refusal.OutOfMemory) → ¬ (IsErrOf r refusal.InvalidValue)
memory_is_valid (Ok t) h is = cc
memory_is_valid (Err e) h is = cc
