-- Whether a text holds a semicolon.
use Rattle.std.proofs.Common.{◌≡◌, ◌↔◌, ℕ, ◌<◌, Bool, true, false, not, List, length, get_or, IsTrue, refl}
use Rattle.cookie.specs.Pieces.{Lacks}

pub tested : (bs : List ℕ) (r : Bool) → (r ≡ true → (k : ℕ) × (k < length bs) × (get_or bs k 0 ≡ 59)) → ((k : ℕ) → k < length bs → get_or bs k 0 ≡ 59 → r ≡ true)
    → IsTrue (not r) ↔ Lacks 59 bs
tested bs true found told = (λ h. let never : false ≡ true = h in cc, λ lacks. let (k, within, is) = found refl in absurd (lacks k within is))
tested bs false found told = (λ _ k within is. let never : false ≡ true = told k within is in cc, λ _. refl)
