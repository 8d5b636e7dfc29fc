-- Signed values: HMAC-SHA256 (RFC 2104), as padded base64 (RFC 4648 4), before the value. A key here is the half of a
-- key that signs.
use Rattle.std.specs.Prelude.{◌≡◌, ℕ, ◌<◌, ◌^◌, List, ◌++◌, length}
use Rattle.std.specs.Int.{w64, to_be_bytes}
use Rattle.base64.specs.Engines.{standard}
use Rattle.base64.specs.GeneralPurpose.{encode_of}
use Rattle.cookie_core.specs.Record.{Record}
use Rattle.cookie_crypt.specs.Hmac.{hmac}
use Rattle.cookie.specs.Jar.{Name}

-- what the signature of a value covers, for a cookie of that name: the length of the name in eight bytes, the highest
-- first, then the name as it is stored, and then the value
abbrev pub signed_message : Name → List ℕ → List ℕ
signed_message name value = to_be_bytes w64 (length name) ++ name ++ value

-- No two pairs of name and value give one message: the length says where the name ends. Eight bytes hold the length of
-- every text in memory.
abbrev pub CoversOnePair : Type 0
CoversOnePair =
    (name other : Name) (value another : List ℕ) → length name < 2 ^ 64 → length other < 2 ^ 64
    → signed_message name value ≡ signed_message other another → (name ≡ other) × (value ≡ another)

-- the signature of a value, of 44 characters
unfoldable pub signature : List ℕ → Name → List ℕ → List ℕ
signature key name value = encode_of standard (hmac key (signed_message name value))

-- the signature, and then the value
unfoldable pub signing : List ℕ → Name → List ℕ → List ℕ
signing key name value = signature key name value ++ value

-- the text is the signing of the value under the name
abbrev pub IsSigned : List ℕ → Name → List ℕ → List ℕ → Type 0
IsSigned key name text value = text ≡ signing key name value

-- the cookie as a signed jar stores it
abbrev pub signed_cookie : List ℕ → Record → Record
signed_cookie key cookie = record cookie { value = signing key cookie.name cookie.value }

-- the cookie's value is the signing of v
abbrev pub IsSigningOf : List ℕ → Record → List ℕ → Type 0
IsSigningOf key cookie v = IsSigned key cookie.name cookie.value v
