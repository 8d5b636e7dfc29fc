-- Mirrors private code: what a private call opens, the bytes of a sealing before their base64.
use Rattle.std.specs.Prelude.{◌≡◌, ◌↔◌, ℕ, List, Option, Some, IfSome, IsUtf8, length}
use Rattle.base64.specs.GeneralPurpose.{encode_of}
use Rattle.base64.specs.declared.engine.general_purpose.GeneralPurpose.{GeneralPurpose}
use Rattle.cookie_crypt.specs.Bytes.{IsBytes}
use Rattle.cookie.specs.Sealing.{IsSealable, sealed_bytes}

-- the bytes are a sealing of the value, with this associated data
pub record IsSealedBytes (key bound bytes value : List ℕ) : Type 0 where
  pub sealable : IsSealable bound value
  pub sealed : (nonce : List ℕ) × (length nonce ≡ 12) × (bytes ≡ sealed_bytes key bound nonce value)

-- and the value is a text
abbrev pub IsSealedTextBytes : List ℕ → List ℕ → List ℕ → List ℕ → Type 0
IsSealedTextBytes key bound bytes value = IsUtf8 value × IsSealedBytes key bound bytes value

-- these are the bytes whose base64 is the text, or there are none (RFC 4648)
pub record DecodesTo (engine : GeneralPurpose) (text : List ℕ) (decoded : Option (List ℕ))
    : Type 0 where
  pub exact : (b : List ℕ) → IsBytes b → (decoded ≡ Some b) ↔ (text ≡ encode_of engine b)
  pub bytes : IfSome decoded IsBytes
