-- What a signature covers, of pairs whose bytes are written out: a wrong length or order does not check.
use Rattle.std.proofs.Common.{◌≡◌, [], ◌∷◌, refl}
use Rattle.std.specs.Prelude.{codes}
use Rattle.cookie.specs.Signing.{signed_message}

covered_pair : signed_message (codes "id") (codes "v") ≡ 0 ∷ 0 ∷ 0 ∷ 0 ∷ 0 ∷ 0 ∷ 0 ∷ 2 ∷ 0x69 ∷ 0x64 ∷ 0x76 ∷ []
covered_pair = refl

-- the same letters, cut in two ways
covered_longer_name : signed_message (codes "ab") (codes "c") ≡ 0 ∷ 0 ∷ 0 ∷ 0 ∷ 0 ∷ 0 ∷ 0 ∷ 2 ∷ 0x61 ∷ 0x62 ∷ 0x63 ∷ []
covered_longer_name = refl

covered_shorter_name : signed_message (codes "a") (codes "bc") ≡ 0 ∷ 0 ∷ 0 ∷ 0 ∷ 0 ∷ 0 ∷ 0 ∷ 1 ∷ 0x61 ∷ 0x62 ∷ 0x63 ∷ []
covered_shorter_name = refl

covered_empty_name : signed_message [] (codes "v") ≡ 0 ∷ 0 ∷ 0 ∷ 0 ∷ 0 ∷ 0 ∷ 0 ∷ 0 ∷ 0x76 ∷ []
covered_empty_name = refl
