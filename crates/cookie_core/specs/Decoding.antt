-- What a text is read as where memory can run out, and what a decoded cookie borrows (RFC 6265 5.2, RFC 3986 2.1).
use Rattle.std.specs.Prelude.{◌≡◌, ◌≢◌, ℕ, ◌||◌, Bool, false, List, [], Option, Some, None, option_map, Result, Err, IsOk, IsUtf8, drop, if◌then◌else◌}
use Rattle.std.specs.Result.{result_ok}
use Rattle.std.specs.Str.{is_utf8, valid_up_to, error_len}
use Rattle.std.specs.Str.Lossy.{utf8_valid_len, utf8_error_len}
use Rattle.cookie_core.specs.Attributes.{IsPair}
use Rattle.cookie_core.specs.CookieOf.{cookie_of}
use Rattle.cookie_core.specs.EscapeTest.{has_escape}
use Rattle.cookie_core.specs.Escapes.{unescape}
use Rattle.cookie_core.specs.Pieces.{IsPieces}
use Rattle.cookie_core.specs.Reads.{Reads}
use Rattle.cookie_core.specs.Record.{Record, RawForms, all_lent}
use Rattle.cookie_core.specs.declared.parse_error.ParseError.{ParseError}
use Rattle.cookie_core.specs.declared.parse_error.ParseError.TheVariants as refusal

-- the first piece of the text has a value, and a name that is not empty
abbrev pub HasPair : List ℕ → Type 0
HasPair text =
    (piece : List ℕ) × (later : List (List ℕ)) × (name : List ℕ) × (value : List ℕ)
    × IsPieces text piece later × IsPair piece name value × (name ≢ [])

-- what the text is read as, as it stands or decoded; out of memory can come in the place of a record or of a refusal to
-- decode
abbrev pub ReadsInMemory : Bool → List ℕ → Result Record ParseError → Type 0
ReadsInMemory decode text (Err refusal.OutOfMemory) = HasPair text
ReadsInMemory decode text outcome = Reads decode text outcome

-- the answer is the one of `cookie_of`, unless memory ran out
abbrev pub AgreesInMemory : Bool → List ℕ → Result Record ParseError → Type 0
AgreesInMemory decode text (Err refusal.OutOfMemory) = Unit {0}
AgreesInMemory decode text outcome = result_ok outcome ≡ cookie_of decode text

-- the bytes are not UTF-8, and their first fault stands at this place and has this length, if they don't end within it
pub record IsFaultOf (bytes : List ℕ) (at : ℕ) (len : Option ℕ) : Type 0 where
  pub faulty : ¬ (IsUtf8 bytes)
  pub place : at ≡ utf8_valid_len bytes
  pub extent : len ≡ utf8_error_len (drop (utf8_valid_len bytes) bytes)

-- the bytes whose fault is named: the value's only if the name is UTF-8
abbrev pub blamed_text : List ℕ → List ℕ → List ℕ
blamed_text name value = if is_utf8 (unescape name) then unescape value else unescape name

-- a refusal to decode names the first fault in the decoded bytes of the name, or else of the value
abbrev pub NamesFault : List ℕ → ParseError → Type 0
NamesFault text (refusal.Utf8Error error) =
    (cookie : Record) × (cookie_of false text ≡ Some cookie)
    × IsFaultOf (blamed_text cookie.name cookie.value) (valid_up_to error) (error_len error)
NamesFault text _ = Unit {0}

-- the name and the value are both own texts: one of them holds an escape
abbrev pub are_decoded : Record → Bool
are_decoded cookie = has_escape cookie.name || has_escape cookie.value

-- a text that is a cookie is read, whatever memory there is, where neither the name nor the value holds an escape
abbrev pub IsCertain : {C : Type 0} → List ℕ → Result C ParseError → Type 0
IsCertain text outcome =
    (cookie : Record) → cookie_of false text ≡ Some cookie → are_decoded cookie ≡ false
    → IsOk outcome

-- the raw forms of a cookie once it is decoded, of its record and its raw forms before
abbrev pub decoded_forms : Record → RawForms → RawForms
decoded_forms cookie raw =
    if are_decoded cookie then record raw { name = None; value = None } else raw

-- the raw forms of the cookie that the text is with decoding
abbrev pub LendsDecoded : List ℕ → RawForms → Type 0
LendsDecoded text raw =
    option_map (λ cookie. decoded_forms cookie (all_lent cookie)) (cookie_of false text) ≡ Some raw
