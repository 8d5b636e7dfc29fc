-- The bytes of a key.
use Rattle.std.proofs.Common.{◌≡◌, ℕ, ◌<◌, List, length, get_or, arith, ⊎_elim}
use Rattle.std.specs.Prelude.{All}
use Rattle.std.proofs.lemmas.Bool.{cases_lt}
use Rattle.std.proofs.lemmas.List.{get_or_past}
use Rattle.cookie_crypt.specs.Bytes.{IsBytes}

-- a list of items below 256, as which a read past its end counts too
pub all_bytes : (xs : List ℕ) → All (λ b. b < 256) xs → IsBytes xs
all_bytes xs each = λ i.
    ⊎_elim
    (λ inside. each i 0 inside)
    (λ past. let e : get_or xs i 0 ≡ 0 = get_or_past xs i 0 past in omega (arith, e))
    (cases_lt i (length xs))
