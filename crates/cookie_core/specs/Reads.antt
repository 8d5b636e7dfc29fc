-- What a text is read as: a record, or a refusal (RFC 6265 5.2).
use Rattle.std.specs.Prelude.{◌≡◌, ◌≢◌, ℕ, ◌⊎◌, IsUtf8, List, [], Result, Ok, Err, Bool, true, false}
use Rattle.std.specs.Result.{result_map_both}
use Rattle.cookie_core.specs.Attributes.{IsPair, SetsAttributes}
use Rattle.cookie_core.specs.Escapes.{unescape}
use Rattle.cookie_core.specs.Pieces.{Lacks, IsPieces}
use Rattle.cookie_core.specs.Record.{Record, CookieView}
use Rattle.cookie_core.specs.Separators.{equals_sign}
use Rattle.cookie_core.specs.declared.parse_error.ParseError.{ParseError}
use Rattle.cookie_core.specs.declared.parse_error.ParseError.TheVariants as refusal

-- what a raw text is read as: the text as it stands, or the text of its bytes without escapes
abbrev pub IsDecoded : Bool → List ℕ → List ℕ → Type 0
IsDecoded false raw text = text ≡ raw
IsDecoded true raw text = (text ≡ unescape raw) × IsUtf8 text

-- decoded, the name or the value is not UTF-8
abbrev pub IsUndecodable : Bool → List ℕ → List ℕ → Type 0
IsUndecodable false name value = ⊥
IsUndecodable true name value = (¬ (IsUtf8 (unescape name))) ⊎ (¬ (IsUtf8 (unescape value)))

-- what the first piece and the later ones are read as
abbrev pub ReadsPieces : Bool → List ℕ → List (List ℕ) → Result Record ParseError → Type 0
ReadsPieces decode piece later (Err refusal.MissingPair) = Lacks equals_sign piece
ReadsPieces decode piece later (Err refusal.EmptyName) = (value : List ℕ) × IsPair piece [] value
ReadsPieces decode piece later (Err (refusal.Utf8Error error)) =
    (name : List ℕ) × (value : List ℕ) × IsPair piece name value × (name ≢ [])
    × IsUndecodable decode name value
ReadsPieces decode piece later (Err refusal.OutOfMemory) = ⊥
ReadsPieces decode piece later (Ok cookie) =
    (name : List ℕ) × (value : List ℕ) × IsPair piece name value × (name ≢ [])
    × IsDecoded decode name cookie.name × IsDecoded decode value cookie.value
    × SetsAttributes later cookie

-- what the text is read as
abbrev pub Reads : Bool → List ℕ → Result Record ParseError → Type 0
Reads decode text outcome =
    (piece : List ℕ) × (later : List (List ℕ)) × IsPieces text piece later
    × ReadsPieces decode piece later outcome

-- the record of the cookie that was read, or the refusal
abbrev pub record_or_refusal : Result CookieView ParseError → Result Record ParseError
record_or_refusal outcome = result_map_both (λ cookie. cookie.fields) (λ error. error) outcome
