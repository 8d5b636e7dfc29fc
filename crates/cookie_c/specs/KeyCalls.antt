-- What the keys of a handle sign and seal for C: `old` is the buffer at the call and `new` at the return.
use Rattle.std.specs.Prelude.{◌≡◌, ◌≢◌, ℕ, List, length, IsUtf8, None}
use Rattle.cookie.specs.Keys.{encryption_half, signing_half}
use Rattle.cookie.specs.Sealing.{IsSealable, sealing}
use Rattle.cookie.specs.Signing.{signing}
use Rattle.cookie_session.specs.KeyRing.{IsSignedBy, OpensTextAt, newest}
use Rattle.cookie_c.specs.Answers.{IsGivenInMemory, IsRead, IsReadInMemory, IsRefused}
use Rattle.cookie_c.specs.declared.answer.Answer.{Answer}
use Rattle.cookie_c.specs.declared.status.Status.TheVariants as status

-- the text is a sealing of the value under the name and one of the keys, the newest that opens it (SP 800-38D 7)
abbrev pub IsSealedBy : List (List ℕ) → List ℕ → List ℕ → List ℕ → Type 0
IsSealedBy keys name text value = (place : ℕ) × OpensTextAt None keys place name text value

-- how a value is signed: by the newest key
pub record Signs (name value : List ℕ) (keys : List (List ℕ)) (answer : Answer) (old new : List ℕ)
    : Type 0 where
  pub not_utf8 : ¬ (IsUtf8 name × IsUtf8 value) → IsRefused status.NotUtf8 answer old new
  pub signed : IsUtf8 name → IsUtf8 value
      → IsGivenInMemory (signing (signing_half (newest keys)) name value) answer old new

-- how a signed text is read: the value that was signed is given, or there is none
pub record Verifies (name text : List ℕ) (keys : List (List ℕ)) (answer : Answer)
    (old new : List ℕ) : Type 0 where
  pub not_utf8 : ¬ (IsUtf8 name × IsUtf8 text) → IsRefused status.NotUtf8 answer old new
  pub verified : IsUtf8 name → IsUtf8 text
      → IsRead (IsSignedBy keys name text) status.NotSigned answer old new

-- how a value is sealed, with two UTF-8 texts: by the newest key, under this nonce
pub record SealsTexts (nonce name value : List ℕ) (keys : List (List ℕ)) (answer : Answer)
    (old new : List ℕ) : Type 0 where
  pub bad_nonce : length nonce ≢ 12 → IsRefused status.BadNonce answer old new
  pub too_long : length nonce ≡ 12 → ¬ IsSealable name value
      → IsRefused status.TooLong answer old new
  pub sealed : length nonce ≡ 12 → IsSealable name value → IsGivenInMemory
      (sealing (encryption_half (newest keys)) name nonce value) answer old new

-- how a value is sealed
pub record Seals (nonce name value : List ℕ) (keys : List (List ℕ)) (answer : Answer)
    (old new : List ℕ) : Type 0 where
  pub not_utf8 : ¬ (IsUtf8 name × IsUtf8 value) → IsRefused status.NotUtf8 answer old new
  pub sealed : IsUtf8 name → IsUtf8 value → SealsTexts nonce name value keys answer old new

-- how a sealed text is opened: the value that was sealed is given, or there is none
pub record Opens (name text : List ℕ) (keys : List (List ℕ)) (answer : Answer)
    (old new : List ℕ) : Type 0 where
  pub not_utf8 : ¬ (IsUtf8 name × IsUtf8 text) → IsRefused status.NotUtf8 answer old new
  pub opened : IsUtf8 name → IsUtf8 text
      → IsReadInMemory (IsSealedBy keys name text) status.NotSealed answer old new
