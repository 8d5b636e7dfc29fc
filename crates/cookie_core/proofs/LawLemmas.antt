-- The laws of printing and reading, as the calls say them.
use Rattle.std.proofs.Common.{◌≡◌, ℕ, List, [], ◌∷◌, true, map, All, Some, Ok, Err, Result, refl, ap, ◌∙◌}
use Rattle.std.proofs.lemmas.List.Elements.{All-head, All-tail}
use Rattle.std.proofs.lemmas.Option.{none-some, same_Some}
use Rattle.cookie_core.specs.CookieOf.{cookie_of}
use Rattle.cookie_core.specs.Decoding.{AgreesInMemory}
use Rattle.cookie_core.specs.Header.{header_texts, joined_texts}
use Rattle.cookie_core.specs.Memory.{Gives}
use Rattle.cookie_core.specs.Normal.{IsNamed}
use Rattle.cookie_core.specs.Reads.{record_or_refusal}
use Rattle.cookie_core.specs.Record.{Record, CookieView, plain}
use Rattle.cookie_core.specs.Text.{cookie_text}
use Rattle.cookie_core.specs.declared.parse_error.ParseError.{ParseError}
use Rattle.cookie_core.specs.declared.parse_error.ParseError.TheVariants as refusal
use Rattle.cookie_core.proofs.HeaderLemmas.{header_texts-joined}
use Rattle.cookie_core.proofs.NormalFormLemmas.{cookie_of-stripped}

-- a text that is the record r gives it, unless memory is wanting
pub agreed-gives : (t : List ℕ) (r : Record) (o : Result CookieView ParseError) → AgreesInMemory true t (record_or_refusal o) → cookie_of true t ≡ Some r → Gives refusal.OutOfMemory o (λ c. c.fields ≡ r)
agreed-gives t r (Ok c) h e = same_Some _ _ (h ∙ e)
agreed-gives t r (Err refusal.OutOfMemory) h e = refl
agreed-gives t r (Err refusal.MissingPair) h e = absurd (none-some _ (h ∙ e))
agreed-gives t r (Err refusal.EmptyName) h e = absurd (none-some _ (h ∙ e))
agreed-gives t r (Err (refusal.Utf8Error x)) h e = absurd (none-some _ (h ∙ e))

-- stripped texts are read as their names and values
pub stripped_texts-read : (rs : List Record) → All IsNamed rs → map (cookie_of true) (map (cookie_text true true) rs) ≡ map (λ r. Some (plain r.name r.value)) rs
stripped_texts-read [] h = refl
stripped_texts-read (r ∷ rs) h =
    let first = cookie_of-stripped r (All-head IsNamed r rs h) in
    rw first (ap (λ os. Some (plain r.name r.value) ∷ os) (stripped_texts-read rs (All-tail IsNamed r rs h)))

-- and so are those of the header that joins them
pub joined-read : (text : List ℕ) (rs : List Record) → All IsNamed rs → text ≡ joined_texts (map (cookie_text true true) rs) → map (cookie_of true) (header_texts text) ≡ map (λ r. Some (plain r.name r.value)) rs
joined-read text rs h e =
    ap (λ t. map (cookie_of true) (header_texts t)) e
    ∙ ap (map (cookie_of true)) (header_texts-joined rs)
    ∙ stripped_texts-read rs h
