-- Texts of graphic ASCII are trimmed already.
use Rattle.std.proofs.Common.{◌≡◌, true, false, not, ◌||◌, ◌==◌, ℕ, ◌+◌, ◌-◌, ◌<◌, List, [], ◌∷◌, ◌++◌, length, get_or, take, drop, All, refl, sym, ap, subst, ◌∙◌, ⊎_elim, arith, length-append}
use Rattle.std.specs.Char.{encode_utf8, is_whitespace}
use Rattle.std.specs.List.{list_all}
use Rattle.std.specs.Str.{IsAscii, IsCharBoundary, IsUtf8, chars, trim, trim_start, trim_end, skip_leading_whitespace, drop_trailing_whitespace, encode_utf8_all}
use Rattle.std.proofs.lemmas.Bool.{and_parts, agree_below_at, cases_Bool, cond-false}
use Rattle.std.proofs.lemmas.Bool.Decides.{nat_tests}
use Rattle.std.proofs.Math.Seq.{get_or-append_seam}
use Rattle.std.proofs.lemmas.List.{append-nil, drop_all, drop_more, take-append-drop}
use Rattle.std.proofs.lemmas.Str.{IsCharBoundary-before_ascii, IsUtf8-nil, IsUtf8-take, chars-nil, chars-IsAscii, chars-append, encodes-IsAscii, encodes-chars, char_from_byte}
use Rattle.cookie_core.specs.Graphic.{HasGraphicEnds, is_graphic}
use Rattle.cookie_core.specs.Trim.{IsTrimmed, IsWhite}
use Rattle.cookie_core.proofs.ByteLemmas.{is_low, false_from_not, all-weaker, IsAscii-from_test}
use Rattle.cookie_core.proofs.EscapeTextLemmas.{is_token}

pub trim-same : (t : List ℕ) → IsAscii t → skip_leading_whitespace t ≡ t → drop_trailing_whitespace t ≡ t → trim t ≡ t
unfolding trim_start trim_end
trim-same t a s d =
    rw (chars-IsAscii t a, s, encodes-IsAscii t a, chars-IsAscii t a, d, encodes-IsAscii t a) refl

pub trim-space : (t : List ℕ) → IsAscii (32 ∷ t) → IsAscii t → skip_leading_whitespace t ≡ t → drop_trailing_whitespace t ≡ t → trim (32 ∷ t) ≡ t
unfolding trim_start trim_end
trim-space t w a s d =
    rw (chars-IsAscii (32 ∷ t) w, s, encodes-IsAscii t a, chars-IsAscii t a, d, encodes-IsAscii t a) refl

-- a text goes on to its end where its end does
pub drop_trailing-append : (a b : List ℕ) → 0 < length b → drop_trailing_whitespace b ≡ b → drop_trailing_whitespace (a ++ b) ≡ a ++ b
drop_trailing-append [] b some e = e
drop_trailing-append (x ∷ a) b some e =
    let ih = drop_trailing-append a b some e in
    let n : (length (a ++ b) == 0) ≡ false = grind (arith, nat_tests, length-append a b) in
    rw ih (⊎_elim (λ (h : is_whitespace x ≡ true). rw (h, n) refl) (λ (h : is_whitespace x ≡ false). rw h refl) (cases_Bool (is_whitespace x)))

-- ---- graphic ASCII, and tokens

graphic_is_low : (b : ℕ) → is_graphic b ≡ true → is_low b ≡ true
graphic_is_low b h = grind (arith, nat_tests)

graphic_is_dark : (b : ℕ) → is_graphic b ≡ true → is_whitespace b ≡ false
graphic_is_dark b h =
    let small : b < 128 = grind (arith, nat_tests) in
    let e : (not (is_graphic b) || not (is_whitespace b)) ≡ true = agree_below_at (λ d. not (is_graphic d) || not (is_whitespace d)) (λ _. true) 128 b refl small in
    let k : not (is_whitespace b) ≡ true = rw h at e in
    false_from_not _ k

pub graphic_are_ascii : (t : List ℕ) → list_all is_graphic t ≡ true → IsAscii t
graphic_are_ascii t h = IsAscii-from_test t (all-weaker is_graphic is_low graphic_is_low t h)

graphic_skip : (t : List ℕ) → list_all is_graphic t ≡ true → skip_leading_whitespace t ≡ t
graphic_skip [] h = refl
graphic_skip (b ∷ t) h = cond-false _ _ _ (graphic_is_dark b (and_parts (is_graphic b) (list_all is_graphic t) h).0)

graphic_drop : (t : List ℕ) → list_all is_graphic t ≡ true → drop_trailing_whitespace t ≡ t
graphic_drop [] h = refl
graphic_drop (b ∷ t) h =
    let k = and_parts (is_graphic b) (list_all is_graphic t) h in
    rw (graphic_is_dark b k.0, graphic_drop t k.1) refl

pub trim-graphic : (t : List ℕ) → list_all is_graphic t ≡ true → trim t ≡ t
trim-graphic t h = trim-same t (graphic_are_ascii t h) (graphic_skip t h) (graphic_drop t h)

pub trim-space_graphic : (t : List ℕ) → list_all is_graphic t ≡ true → trim (32 ∷ t) ≡ t
trim-space_graphic t h =
    let w = all-weaker is_graphic is_low graphic_is_low t h in
    trim-space t (IsAscii-from_test (32 ∷ t) w) (IsAscii-from_test t w) (graphic_skip t h) (graphic_drop t h)

token_is_graphic : (b : ℕ) → is_token b ≡ true → is_graphic b ≡ true
token_is_graphic b h = grind (arith, nat_tests)

pub tokens_are_graphic : (t : List ℕ) → list_all is_token t ≡ true → list_all is_graphic t ≡ true
tokens_are_graphic = all-weaker is_token is_graphic token_is_graphic

pub trim-tokens : (t : List ℕ) → list_all is_token t ≡ true → trim t ≡ t
trim-tokens t h = trim-graphic t (tokens_are_graphic t h)

pub trim-space_tokens : (t : List ℕ) → list_all is_token t ≡ true → trim (32 ∷ t) ≡ t
trim-space_tokens t h = trim-space_graphic t (tokens_are_graphic t h)

-- ---- a text that begins and ends with graphic ASCII

graphic_has_boundary : (t : List ℕ) (i : ℕ) → i < length t → is_graphic (get_or t i 0) ≡ true → IsCharBoundary t i
graphic_has_boundary t i below graphic = IsCharBoundary-before_ascii t i below (grind (arith, nat_tests, graphic))

one_char : (b : ℕ) → is_graphic b ≡ true → chars (b ∷ []) ≡ b ∷ []
one_char b graphic = chars-IsAscii (b ∷ []) (graphic_are_ascii (b ∷ []) (rw graphic refl))

abbrev last_of : List ℕ → ℕ
last_of cs = get_or cs (length cs - 1) 0

last_is : (front : List ℕ) (c : ℕ) → last_of (front ++ c ∷ []) ≡ c
last_is front c =
    let at : length (front ++ c ∷ []) - 1 ≡ length front = omega (arith, length-append front (c ∷ [])) in
    ap (λ n. get_or (front ++ c ∷ []) n 0) at ∙ get_or-append_seam front c [] 0

pub trimmed-graphic_ends : (t : List ℕ) → IsUtf8 t → HasGraphicEnds t → IsTrimmed t t
trimmed-graphic_ends t utf8 ends =
    let end = length t - 1 in
    let last = get_or t end 0 in
    let below : end < length t = omega (arith, ends.some) in
    let front = take end t in
    let rest : drop end t ≡ last ∷ [] = drop_more t end 0 below ∙ ap (λ l. last ∷ l) (drop_all (end + 1) t (omega (arith, ends.some))) in
    let whole : t ≡ front ++ last ∷ [] = sym (take-append-drop end t) ∙ ap (λ l. front ++ l) rest in
    let front_utf8 : IsUtf8 front = IsUtf8-take t end utf8 (graphic_has_boundary t end below ends.last) in
    let all : chars t ≡ chars front ++ last ∷ [] =
    ap chars whole ∙ chars-append front (last ∷ []) front_utf8 ∙ ap (λ l. chars front ++ l) (one_char last ends.last) in
    record {
      before = [];
      after = [];
      whole = sym (append-nil t);
      texts = (IsUtf8-nil, utf8, IsUtf8-nil);
      white = (none_white, none_white);
      begins = λ char more same.
          let text : t ≡ encode_utf8 char ++ encode_utf8_all more = sym (encodes-chars t utf8) ∙ ap encode_utf8_all same in
          let is : char ≡ get_or t 0 0 = char_from_byte t (encode_utf8_all more) char text (low ends.first) ends.some in
          ap is_whitespace is ∙ graphic_is_dark (get_or t 0 0) ends.first;
      ends = λ before char same.
          let is : char ≡ last = sym (last_is before char) ∙ ap last_of (sym same ∙ all) ∙ last_is (chars front) last in
          ap is_whitespace is ∙ graphic_is_dark last ends.last;
    }
  where
    low : {b : ℕ} → is_graphic b ≡ true → b < 128
    low {b} h = grind (arith, nat_tests, h)

    none_white : IsWhite []
    none_white = subst (All (λ char. is_whitespace char ≡ true)) (sym chars-nil) (λ i d none. absurd (omega (arith, none)))
