-- Mirrors private code: what the decoder's own answers mean.
use Rattle.std.specs.Prelude.{◌≡◌, ◌++◌, ℕ, List, IsUtf8, IsCharBoundary, length, true, Result, Ok, Err}
use Rattle.std.specs.Str.{valid_up_to, error_len}
use Rattle.cookie_core.specs.Decoding.{are_decoded, decoded_forms, IsFaultOf, blamed_text}
use Rattle.cookie_core.specs.Escapes.{unescape}
use Rattle.cookie_core.specs.Record.{Record, CookieView}
use Rattle.cookie_core.specs.declared.parse_error.ParseError.{ParseError}
use Rattle.cookie_core.specs.declared.parse_error.ParseError.TheVariants as refusal

-- the refusal is one that decoding the text can have
abbrev pub IsRefusedFor : List ℕ → ParseError → Type 0
IsRefusedFor text (refusal.Utf8Error error) =
    IsFaultOf (unescape text) (valid_up_to error) (error_len error)
IsRefusedFor text refusal.OutOfMemory = Unit {0}
IsRefusedFor text _ = ⊥

-- or decoding the name and the value
abbrev pub IsRefusedForPair : List ℕ → List ℕ → ParseError → Type 0
IsRefusedForPair name value (refusal.Utf8Error error) =
    IsFaultOf (blamed_text name value) (valid_up_to error) (error_len error)
IsRefusedForPair name value refusal.OutOfMemory = Unit {0}
IsRefusedForPair name value _ = ⊥

-- the text is the decoded name and, from this offset on, the decoded value
pub record IsJoined (name value text : List ℕ) (middle : ℕ) : Type 0 where
  pub joined : text ≡ unescape name ++ unescape value
  pub place : middle ≡ length (unescape name)
  pub apart : IsCharBoundary text middle

-- the record with the name and the value that its own stand for
abbrev pub decoded_record : Record → Record
decoded_record cookie = record cookie { name = unescape cookie.name; value = unescape cookie.value }

-- what becomes of a cookie whose name and value are decoded; it is refused only where one of them holds an escape
abbrev pub Decodes : CookieView → Result CookieView ParseError → Type 0
Decodes cookie (Ok decoded) =
    (decoded.fields ≡ decoded_record cookie.fields)
    × (decoded.raw ≡ decoded_forms cookie.fields cookie.raw)
    × IsUtf8 (unescape cookie.fields.name) × IsUtf8 (unescape cookie.fields.value)
Decodes cookie (Err error) =
    (are_decoded cookie.fields ≡ true)
    × IsRefusedForPair cookie.fields.name cookie.fields.value error

-- the same refusal, or the cookie with its name and value decoded
abbrev pub IsDecodedOutcome : Result CookieView ParseError → Result CookieView ParseError → Type 0
IsDecodedOutcome (Err error) outcome = outcome ≡ Err error
IsDecodedOutcome (Ok cookie) outcome = Decodes cookie outcome
