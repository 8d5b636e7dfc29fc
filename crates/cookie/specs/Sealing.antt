-- Sealed values: AES-256-GCM with associated data (SP 800-38D 7.1), as base64 (RFC 4648). A key here is the half of a
-- key that encrypts.
use Rattle.std.specs.Prelude.{◌≡◌, ℕ, List, ◌++◌, length, IsUtf8}
use Rattle.base64.specs.Engines.{standard}
use Rattle.base64.specs.GeneralPurpose.{encode_of}
use Rattle.base64.specs.declared.engine.general_purpose.GeneralPurpose.{GeneralPurpose}
use Rattle.cookie_core.specs.Record.{Record}
use Rattle.cookie_crypt.specs.Bytes.{IsBytes}
use Rattle.cookie_crypt.specs.Gcm.{IsWithin, gctr, tag_of}
use Rattle.cookie.specs.Jar.{Name}

-- twelve bytes
pub record IsNonce (nonce : List ℕ) : Type 0 where
  pub long : length nonce ≡ 12
  pub bytes : IsBytes nonce

-- the associated data and the value are within the limits of the cipher (SP 800-38D 5.2.1.1)
abbrev pub IsSealable : List ℕ → List ℕ → Type 0
IsSealable bound value = IsWithin (length bound) (length value)

-- the nonce, the encrypted value, and the tag of it and of the associated data
unfoldable pub sealed_bytes : List ℕ → List ℕ → List ℕ → List ℕ → List ℕ
sealed_bytes key bound nonce value =
    nonce ++ gctr key nonce value ++ tag_of key nonce bound (gctr key nonce value)

-- their base64
unfoldable pub sealed_text : GeneralPurpose → List ℕ → List ℕ → List ℕ → List ℕ → List ℕ
sealed_text engine key bound nonce value = encode_of engine (sealed_bytes key bound nonce value)

-- the text is a sealing of the value, with this associated data
pub record IsSealedWith (engine : GeneralPurpose) (key bound text value : List ℕ) : Type 0 where
  pub is_text : IsUtf8 value
  pub sealable : IsSealable bound value
  pub sealed : (nonce : List ℕ) × IsNonce nonce × (text ≡ sealed_text engine key bound nonce value)

-- ---- under a name, as a private jar does: padded base64 (RFC 4648 4)

-- the sealing of a value under a name
abbrev pub sealing : List ℕ → Name → List ℕ → List ℕ → List ℕ
sealing key name nonce value = sealed_text standard key name nonce value

-- the text is a sealing of the value under the name
abbrev pub IsSealed : List ℕ → Name → List ℕ → List ℕ → Type 0
IsSealed key name text value = IsSealedWith standard key name text value

-- the cookie as a private jar stores it
abbrev pub sealed_cookie : List ℕ → List ℕ → Record → Record
sealed_cookie key nonce cookie =
    record cookie {
      value = sealing key cookie.name nonce cookie.value;
    }

-- the cookie's value is a sealing of v, under its name
abbrev pub IsSealingOf : List ℕ → Record → List ℕ → Type 0
IsSealingOf key cookie v = IsSealed key cookie.name cookie.value v

-- the cookie's name and value can be sealed
abbrev pub CanSeal : Record → Type 0
CanSeal cookie = IsSealable cookie.name cookie.value
