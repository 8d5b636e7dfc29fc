-- Mirrors private code: what a key keeps beside its bytes.
use Rattle.std.specs.Prelude.{◌≡◌, ℕ, List, length}
use Rattle.cookie.specs.Keys.{encryption_half, key_length, signing_half}

-- the first half signs, and the second half encrypts
pub record HasHalves (bytes signer sealer : List ℕ) : Type 0 where
  pub signs : signer ≡ signing_half bytes
  pub encrypts : sealer ≡ encryption_half bytes
  pub long : length bytes ≡ key_length
