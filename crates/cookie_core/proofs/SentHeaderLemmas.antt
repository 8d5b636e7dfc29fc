-- What is printed is read under the name that is sent.
use Rattle.std.proofs.Common.{◌≡◌, Bool, true, false, not, ◌&&◌, ◌||◌, ◌==◌, ℕ, ◌+◌, ◌*◌, ◌/◌, ◌%◌, ◌<◌, List, [], ◌∷◌, ◌++◌, map, Some, refl, sym, ap, ◌∙◌, ⊎_elim, arith}
use Rattle.std.proofs.lemmas.Bool.{agree_below_at, and_parts, cases_Bool}
use Rattle.std.proofs.lemmas.Bool.Decides.{nat_tests, Decides-eqb}
use Rattle.std.proofs.lemmas.List.Elements.{All-head, All-tail}
use Rattle.std.proofs.lemmas.Slice.Eq.{bytes_eq-Decides}
use Rattle.std.specs.Char.{digit_value}
use Rattle.std.specs.Fmt.{digit_glyph}
use Rattle.std.specs.List.{All, before_first, list_all}
use Rattle.std.specs.Str.{bytes_eq, trim}
use mathlib.Core.Logic.{◌≢◌}
use Rattle.percent_encoding.specs.Percent.{is_escape, percent_encode_byte}
use Rattle.cookie_core.specs.CookieOf.{key_text}
use Rattle.cookie_core.specs.Escapes.{escape, is_escaped}
use Rattle.cookie_core.specs.Header.{joined_texts}
use Rattle.cookie_core.specs.Normal.{IsNamed}
use Rattle.cookie_core.specs.Pieces.{Lacks, pieces}
use Rattle.cookie_core.specs.Record.{Record}
use Rattle.cookie_core.specs.SentNames.{has_printed_escapes, is_named_as_sent, is_printed, sent_name}
use Rattle.cookie_core.specs.Text.{cookie_text}
use Rattle.cookie_core.specs.Wsp.{trim_wsp}
use Rattle.cookie_core.proofs.ByteLemmas.{Lacks-from_test, all-weaker}
use Rattle.cookie_core.proofs.EscapeTextLemmas.{escape-nil, escape_escaped, escape_kept, escape_is_tokens, is_byte, is_token, token_is_other_61, utf8_is_bytes}
use Rattle.cookie_core.proofs.GraphicLemmas.{trim-graphic, trim-tokens, trim-space_tokens}
use Rattle.cookie_core.proofs.HeaderLemmas.{joined_are_pieces, spaced, stripped_text}
use Rattle.cookie_core.proofs.PieceLemmas.{IsPieces-pieces}
use Rattle.cookie_core.proofs.ReadingLemmas.{Lacks-more}
use Rattle.cookie_core.proofs.SentNameLemmas.{before_mark, printed-past}
use Rattle.cookie_core.proofs.WspLemmas.{trim_wsp-space, trim_wsp-tokens}

-- ---- printed escapes are printed

glyph_value : (d : ℕ) → d < 16 → digit_value (digit_glyph true d) ≡ d
glyph_value d small =
    (Decides-eqb (digit_value (digit_glyph true d)) d).0 (agree_below_at (λ k. digit_value (digit_glyph true k) == k) (λ _. true) 16 d refl small)

glyph_other : (d : ℕ) → d < 16 → (digit_glyph true d == 37) ≡ false
glyph_other d small = agree_below_at (λ k. digit_glyph true k == 37) (λ _. false) 16 d refl small

is_other : (b : ℕ) → (b == 37) ≡ false → b ≢ 37
is_other b e same = grind (arith, nat_tests)

printed-escape : (b : ℕ) (t : List ℕ) → b < 256 → is_escaped b ≡ true → has_printed_escapes (percent_encode_byte b ++ t) ≡ has_printed_escapes t
unfolding percent_encode_byte
printed-escape b t small escaped =
    let high = b / 16 % 16 in
    let low = b % 16 in
    let first : high < 16 = omega arith in
    let second : low < 16 = omega arith in
    let value : 16 * digit_value (digit_glyph true high) + digit_value (digit_glyph true low) ≡ b = omega (arith, glyph_value high first, glyph_value low second) in
    let here : is_printed 37 (digit_glyph true high) (digit_glyph true low) ≡ true =
    ap (λ v. not (is_escape 37 (digit_glyph true high) (digit_glyph true low)) || is_escaped v) value
    ∙ ap (λ e. not (is_escape 37 (digit_glyph true high) (digit_glyph true low)) || e) escaped
    ∙ or_true (not (is_escape 37 (digit_glyph true high) (digit_glyph true low))) in
    ap (λ e. e && has_printed_escapes (digit_glyph true high ∷ digit_glyph true low ∷ t)) here
    ∙ printed-past (digit_glyph true high) (digit_glyph true low ∷ t) (is_other (digit_glyph true high) (glyph_other high first))
    ∙ printed-past (digit_glyph true low) t (is_other (digit_glyph true low) (glyph_other low second))
  where
    or_true : (x : Bool) → (x || true) ≡ true
    or_true true = refl
    or_true false = refl

pub escape-printed : (t : List ℕ) → list_all is_byte t ≡ true → has_printed_escapes (escape t) ≡ true
escape-printed [] bytes = ap has_printed_escapes escape-nil
escape-printed (b ∷ t) bytes =
    let at = and_parts (is_byte b) (list_all is_byte t) bytes in
    let small : b < 256 = grind (arith, nat_tests, at.0) in
    ⊎_elim
    (λ e. ap has_printed_escapes (escape_escaped b t e) ∙ printed-escape b (escape t) small e ∙ escape-printed t at.1)
    (λ e.
    let other : b ≢ 37 = λ same. grind (arith, nat_tests, ap is_escaped same) in
    ap has_printed_escapes (escape_kept b t e) ∙ printed-past b (escape t) other ∙ escape-printed t at.1)
    (cases_Bool (is_escaped b))

-- ---- a piece whose name is trimmed, with a space in front or without

-- the piece has this name before its first `=`, trimmed
abbrev Has : List ℕ → List ℕ → Type 0
Has piece name = (before : List ℕ) × (before ≡ before_first (λ byte. byte == 61) piece) × (trim before ≡ name) × (trim_wsp before ≡ name)

has-named : (piece name : List ℕ) → Has piece name → has_printed_escapes name ≡ true → is_named_as_sent piece ≡ true
has-named piece name (before, is, read, sent) printed =
    let key : key_text piece ≡ name = ap trim (sym is) ∙ read in
    let own : sent_name piece ≡ name = ap trim_wsp (sym is) ∙ sent in
    (λ i. bytes_eq (key i) (own i) && has_printed_escapes (own i))
    ∙ ap (λ b. b && has_printed_escapes name) ((bytes_eq-Decides name name).1 refl) ∙ printed

lacks_mark : (t : List ℕ) → list_all is_token t ≡ true → Lacks 61 t
lacks_mark t tokens = Lacks-from_test 61 t (all-weaker is_token _ token_is_other_61 t tokens)

-- what a cookie is printed as
first_named : (r : Record) → list_all is_byte r.name ≡ true → is_named_as_sent (stripped_text r) ≡ true
first_named r bytes =
    let name = escape r.name in
    let tokens = escape_is_tokens r.name in
    has-named (stripped_text r) name
    (name, before_mark (λ x. x) (stripped_text r) name (lacks_mark name tokens) (Some (escape r.value ++ [])) refl, trim-tokens name tokens, trim_wsp-tokens name tokens)
    (escape-printed r.name bytes)

-- and after a space
later_named : (r : Record) → list_all is_byte r.name ≡ true → is_named_as_sent (32 ∷ stripped_text r) ≡ true
later_named r bytes =
    let name = escape r.name in
    let tokens = escape_is_tokens r.name in
    has-named (32 ∷ stripped_text r) name (
      32 ∷ name,
      before_mark (λ x. x) (32 ∷ stripped_text r) (32 ∷ name) (Lacks-more 61 32 name (λ e. omega arith) (lacks_mark name tokens)) (Some (escape r.value ++ [])) refl,
      trim-space_tokens name tokens,
      trim_wsp-space name ∙ trim_wsp-tokens name tokens,
    )
    (escape-printed r.name bytes)

all_later_named : (rs : List Record) → All IsNamed rs → list_all is_named_as_sent (spaced rs) ≡ true
all_later_named [] named = refl
all_later_named (r ∷ rs) named =
    ap (λ b. b && list_all is_named_as_sent (spaced rs)) (later_named r (utf8_is_bytes r.name (All-head IsNamed r rs named).cookie.name))
    ∙ all_later_named rs (All-tail IsNamed r rs named)

-- each piece of a header of printed cookies is named as it was sent
pub joined_named : (rs : List Record) → All IsNamed rs → list_all is_named_as_sent (pieces (joined_texts (map (cookie_text true true) rs))) ≡ true
joined_named [] named = ap (λ b. b && true) (has-named [] [] ([], refl, trim-graphic [] refl, trim_wsp-tokens [] refl) refl)
joined_named (r ∷ rs) named =
    ap (list_all is_named_as_sent) (IsPieces-pieces (joined_texts (map (cookie_text true true) (r ∷ rs))) (stripped_text r) (spaced rs) (joined_are_pieces r rs))
    ∙ ap (λ b. b && list_all is_named_as_sent (spaced rs)) (first_named r (utf8_is_bytes r.name (All-head IsNamed r rs named).cookie.name))
    ∙ all_later_named rs (All-tail IsNamed r rs named)
