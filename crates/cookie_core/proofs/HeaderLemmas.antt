-- Stripped texts, joined by `; `, are split into their cookies (RFC 6265 4.2.1).
use Rattle.std.proofs.Common.{◌≡◌, true, false, not, ◌==◌, map, ℕ, List, [], ◌∷◌, ◌++◌, None, length, refl, sym, ap, ◌∙◌, length-append, arith}
use Rattle.std.proofs.lemmas.Bool.Decides.{nat_tests}
use Rattle.std.proofs.lemmas.List.{append-nil}
use Rattle.std.proofs.lemmas.List.Elements.{All-nil, All-cons, All-head, All-tail}
use Rattle.std.specs.List.{list_all, All, filter_map}
use Rattle.std.specs.Str.{trim}
use Rattle.cookie_core.specs.Graphic.{is_graphic}
use Rattle.cookie_core.specs.CookieOf.{cookie_of, header_cookies}
use Rattle.cookie_core.specs.Escapes.{escape}
use Rattle.cookie_core.specs.Header.{kept_texts, IsHeaderTexts, header_texts, more_joined, joined_texts}
use Rattle.cookie_core.specs.Normal.{IsNamed}
use Rattle.cookie_core.specs.Pieces.{IsPieces, Lacks}
use Rattle.cookie_core.specs.Record.{Record, plain}
use Rattle.cookie_core.specs.Text.{cookie_text}
use Rattle.cookie_core.specs.Walk.{before_rest}
use Rattle.cookie_core.proofs.ByteLemmas.{all-append, Lacks-nil}
use Rattle.cookie_core.proofs.CookieOfLemmas.{header_cookies-texts}
use Rattle.cookie_core.proofs.EscapeTextLemmas.{escape_is_tokens}
use Rattle.cookie_core.proofs.GraphicLemmas.{tokens_are_graphic, trim-graphic, trim-space_graphic}
use Rattle.cookie_core.proofs.NormalFormLemmas.{escaped_pair, escaped_pair-apart, cookie_of-stripped}
use Rattle.cookie_core.proofs.PieceLemmas.{IsPieces-pieces}
use Rattle.cookie_core.proofs.ReadingLemmas.{Lacks-more, first_piece}
use Rattle.cookie_core.proofs.PieceWalkLemmas.{tails}

-- the stripped text of a cookie
abbrev pub stripped_text : Record → List ℕ
stripped_text r = cookie_text true true r

stripped_is_pair : (r : Record) → stripped_text r ≡ escaped_pair r
stripped_is_pair r = ap (λ t. escape r.name ++ (61 ∷ t)) (append-nil (escape r.value))

pair_is_graphic : (r : Record) → list_all is_graphic (escaped_pair r) ≡ true
pair_is_graphic r =
    all-append is_graphic (escape r.name) (61 ∷ escape r.value) (tokens_are_graphic (escape r.name) (escape_is_tokens r.name)) (tokens_are_graphic (escape r.value) (escape_is_tokens r.value))

trim-stripped : (r : Record) → trim (stripped_text r) ≡ stripped_text r
trim-stripped r = rw (stripped_is_pair r) (trim-graphic (escaped_pair r) (pair_is_graphic r))

trim-space_stripped : (r : Record) → trim (32 ∷ stripped_text r) ≡ stripped_text r
trim-space_stripped r = rw (stripped_is_pair r) (trim-space_graphic (escaped_pair r) (pair_is_graphic r))

stripped_some : (r : Record) → not (length (stripped_text r) == 0) ≡ true
stripped_some r =
    let n : (length (stripped_text r) == 0) ≡ false = rw (stripped_is_pair r) (grind (arith, nat_tests, length-append (escape r.name) (61 ∷ escape r.value))) in
    rw n refl

stripped_apart : (r : Record) → Lacks 59 (stripped_text r)
stripped_apart r = rw (stripped_is_pair r) (escaped_pair-apart r)

-- the pieces behind the first
abbrev pub spaced : List Record → List (List ℕ)
spaced rs = map (λ r. 32 ∷ stripped_text r) rs

more-tails : (rs : List Record) → more_joined (map stripped_text rs) ≡ tails (spaced rs)
more-tails [] = refl
more-tails (r ∷ rs) = ap (λ t. 59 ∷ 32 ∷ (stripped_text r ++ t)) (more-tails rs)

spaced_apart : (rs : List Record) → All (Lacks 59) (spaced rs)
spaced_apart [] = All-nil (Lacks 59)
spaced_apart (r ∷ rs) =
    All-cons (Lacks 59) (32 ∷ stripped_text r) (spaced rs) (Lacks-more 59 32 (stripped_text r) (λ e. omega arith) (stripped_apart r)) (spaced_apart rs)

kept_texts-spaced : (rs : List Record) → kept_texts (spaced rs) ≡ map stripped_text rs
kept_texts-spaced [] = refl
kept_texts-spaced (r ∷ rs) =
    rw (trim-space_stripped r, stripped_some r) (ap (λ ts. stripped_text r ∷ ts) (kept_texts-spaced rs))

kept_texts-first : (r : Record) (rs : List Record) → kept_texts (stripped_text r ∷ spaced rs) ≡ map stripped_text (r ∷ rs)
kept_texts-first r rs =
    rw (trim-stripped r, stripped_some r) (ap (λ ts. stripped_text r ∷ ts) (kept_texts-spaced rs))

-- the pieces of the joined header
pub joined_are_pieces : (r : Record) (rs : List Record) → IsPieces (joined_texts (map (cookie_text true true) (r ∷ rs))) (stripped_text r) (spaced rs)
joined_are_pieces r rs =
    first_piece _ (stripped_text r) (before_rest (spaced rs) None) (ap (λ t. stripped_text r ++ t) (more-tails rs)) (stripped_apart r) (spaced rs) refl (spaced_apart rs)

-- the texts of the joined header are the stripped texts, whatever the names and the values are
pub header_split : (rs : List Record) → IsHeaderTexts (joined_texts (map (cookie_text true true) rs)) (map (cookie_text true true) rs)
header_split [] =
    ([], [], record { joined = refl; first = Lacks-nil 59; later = All-nil (Lacks 59) }, rw (trim-graphic [] refl) refl)
header_split (r ∷ rs) = (
  stripped_text r,
  spaced rs,
  joined_are_pieces r rs,
  sym (kept_texts-first r rs),
)

-- a header has one list of texts
pub header_texts-only : (header : List ℕ) (texts : List (List ℕ)) → IsHeaderTexts header texts → texts ≡ header_texts header
header_texts-only header texts (p, ps, h, e) = e ∙ ap kept_texts (sym (IsPieces-pieces header p ps h))

pub header_texts-joined : (rs : List Record) → header_texts (joined_texts (map (cookie_text true true) rs)) ≡ map (cookie_text true true) rs
header_texts-joined rs = sym (header_texts-only (joined_texts (map (cookie_text true true) rs)) (map (cookie_text true true) rs) (header_split rs))

read_texts : (rs : List Record) → All IsNamed rs → filter_map (cookie_of true) (map (cookie_text true true) rs) ≡ map (λ r. plain r.name r.value) rs
read_texts [] h = refl
read_texts (r ∷ rs) h =
    let e = cookie_of-stripped r (All-head IsNamed r rs h) in
    rw e (ap (λ ns. plain r.name r.value ∷ ns) (read_texts rs (All-tail IsNamed r rs h)))

-- so the header's cookies are their names and values, in order
pub header_form : (rs : List Record) → All IsNamed rs → header_cookies true (joined_texts (map (cookie_text true true) rs)) ≡ map (λ r. plain r.name r.value) rs
header_form rs h =
    header_cookies-texts true (joined_texts (map (cookie_text true true) rs)) (map (cookie_text true true) rs) (header_split rs) ∙ read_texts rs h
