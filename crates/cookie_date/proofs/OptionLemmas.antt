-- Where a step or a test that may give nothing did give something.
use Rattle.std.proofs.Common.{◌≡◌, Bool, true, false, cond, Option, Some, None, option_and_then, refl}
use Rattle.std.proofs.lemmas.Option.{none-some}

-- what the first of two steps gave, and that the second went on from there
pub through : {A B : Type 0} (f : A → Option B) (o : Option A) (y : B) → option_and_then f o ≡ Some y → (x : A) × (o ≡ Some x) × (f x ≡ Some y)
through f None y e = absurd (none-some y e)
through f (Some x) y e = (x, refl, e)

-- a test that lets an option through where it holds
pub passed : {A : Type 0} (b : Bool) (o : Option A) (y : A) → cond b o None ≡ Some y → (b ≡ true) × (o ≡ Some y)
passed true o y e = (refl, e)
passed false o y e = absurd (none-some y e)

-- or where it does not
pub not_stopped : {A : Type 0} (b : Bool) (o : Option A) (y : A) → cond b None o ≡ Some y → (b ≡ false) × (o ≡ Some y)
not_stopped true o y e = absurd (none-some y e)
not_stopped false o y e = (refl, e)
