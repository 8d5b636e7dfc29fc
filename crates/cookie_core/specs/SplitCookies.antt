-- What the items of a header are; `texts_left`, `ReadsItem` and `LendsItem` are inner words.
use Rattle.std.specs.Prelude.{◌≡◌, ℕ, Bool, true, false, List, [], ◌∷◌, Option, Some, None, Result, IfOk, IfErr}
use Rattle.cookie_core.specs.Decoding.{ReadsInMemory, LendsDecoded, NamesFault, IsCertain}
use Rattle.cookie_core.specs.Header.{header_texts}
use Rattle.cookie_core.specs.Reads.{Reads, record_or_refusal}
use Rattle.cookie_core.specs.Record.{Record, CookieView, all_lent, no_raw_forms}
use Rattle.cookie_core.specs.declared.parse_error.ParseError.{ParseError}

-- a splitter: the texts that are left, whether they are decoded, and whether the cookies have texts of their own; it
-- takes memory where either is so
pub record SplitView : Type 0 where
  pub texts : List (List ℕ)
  pub is_decoded : Bool
  pub is_owned : Bool

-- the four splitters of these texts
abbrev pub plain_texts : List (List ℕ) → SplitView
plain_texts texts = record { texts = texts; is_decoded = false; is_owned = false }

abbrev pub encoded_texts : List (List ℕ) → SplitView
encoded_texts texts = record { texts = texts; is_decoded = true; is_owned = false }

abbrev pub owned_texts : List (List ℕ) → SplitView
owned_texts texts = record { texts = texts; is_decoded = false; is_owned = true }

abbrev pub encoded_owned_texts : List (List ℕ) → SplitView
encoded_owned_texts texts = record { texts = texts; is_decoded = true; is_owned = true }

-- the texts of the rest of a header, none where there is no rest
abbrev pub texts_left : Option (List ℕ) → List (List ℕ)
texts_left None = []
texts_left (Some rest) = header_texts rest

-- what the text is read as, decoded or not, where the cookie gets texts of its own or not
abbrev pub ReadsItem : Bool → Bool → List ℕ → Result Record ParseError → Type 0
ReadsItem false false text outcome = Reads false text outcome
ReadsItem true false text outcome = ReadsInMemory true text outcome
ReadsItem false true text outcome = ReadsInMemory false text outcome
ReadsItem true true text outcome = ReadsInMemory true text outcome

-- what its cookie borrows
abbrev pub LendsItem : Bool → Bool → List ℕ → CookieView → Type 0
LendsItem false false text cookie = cookie.raw ≡ all_lent cookie.fields
LendsItem true false text cookie = LendsDecoded text cookie.raw
LendsItem false true text cookie = cookie.raw ≡ no_raw_forms
LendsItem true true text cookie = cookie.raw ≡ no_raw_forms

-- both splitters read their texts alike
pub record IsAlike (old new : SplitView) : Type 0 where
  pub is_decoded : new.is_decoded ≡ old.is_decoded
  pub is_owned : new.is_owned ≡ old.is_owned

-- an item is what its text is read as; it is out of memory only where the cookie gets texts of its own, or an escape
-- is undone
pub record IsItem (splitter : SplitView) (text : List ℕ) (outcome : Result CookieView ParseError)
    : Type 0 where
  pub reads : ReadsItem splitter.is_decoded splitter.is_owned text (record_or_refusal outcome)
  pub fault : IfErr outcome (NamesFault text)
  pub certain : splitter.is_owned ≡ false → IsCertain text outcome
  pub lends : IfOk outcome (LendsItem splitter.is_decoded splitter.is_owned text)

-- the next item is the first text's, whether it is read or refused; with no text there is none, and none is left
abbrev pub NextCookie : SplitView → Option (Result CookieView ParseError) → SplitView → Type 0
NextCookie old None new = (old.texts ≡ []) × (new.texts ≡ [])
NextCookie old (Some outcome) new =
    (text : List ℕ) × (old.texts ≡ text ∷ new.texts) × IsItem old text outcome × IsAlike old new
