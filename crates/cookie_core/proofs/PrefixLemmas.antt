-- A text begins with a prefix exactly if its first bytes are the prefix.
use Rattle.std.proofs.Common.{◌≡◌, ◌↔◌, ℕ, Bool, true, false, List, length, take, refl, sym, ap, ◌∙◌}
use Rattle.std.proofs.lemmas.List.{length-map, take-map}
use Rattle.std.proofs.lemmas.Slice.Eq.{bytes_eq-Decides}
use Rattle.std.specs.Char.{to_ascii_lowercase}
use Rattle.std.specs.Prelude.{IsTrue}
use Rattle.std.specs.Str.{bytes_eq, str_to_ascii_lowercase}
use Rattle.cookie_core.specs.SentNames.{begins_in_any_case}

alike : (a b : Bool) → (a ≡ true → b ≡ true) → (b ≡ true → a ≡ true) → a ≡ b
alike true b to from = sym (to refl)
alike false true to from = from refl
alike false false to from = refl

pub begins_front : (prefix text front : List ℕ) (test : Bool) → front ≡ take (length prefix) text
    → IsTrue test ↔ (str_to_ascii_lowercase prefix ≡ str_to_ascii_lowercase front) → test ≡ begins_in_any_case prefix text
begins_front prefix text front test is decides =
    let low : List ℕ = str_to_ascii_lowercase prefix in
    let same = bytes_eq-Decides low (str_to_ascii_lowercase front) in
    alike test (bytes_eq low (str_to_ascii_lowercase front)) (λ t. same.1 (decides.0 t)) (λ b. decides.1 (same.0 b))
    ∙ ap (λ xs. bytes_eq low (str_to_ascii_lowercase xs)) is
    ∙ ap (bytes_eq low) (sym (take-map to_ascii_lowercase (length prefix) text)
    ∙ ap (λ n. take n (str_to_ascii_lowercase text)) (sym (length-map prefix to_ascii_lowercase)))
