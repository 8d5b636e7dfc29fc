-- Escaped texts.
use Rattle.std.proofs.Common.{◌≡◌, Bool, true, false, cond, ◌&&◌, ◌||◌, ℕ, ◌/◌, ◌%◌, ◌<◌, List, [], ◌∷◌, ◌++◌, length, refl, sym, ap, ◌∙◌, ⊎_elim, nat_lt, arith}
use Rattle.std.specs.List.{list_all, list_any}
use Rattle.std.specs.Str.{IsUtf8, encode_utf8_all, all_scalars}
use Rattle.std.specs.Fmt.{digit_glyph}
use Rattle.std.proofs.lemmas.Bool.{and_parts, agree_below_at, cases_lt, cases_Bool, cond-true, cond-false, both_ways}
use Rattle.std.proofs.lemmas.Bool.Decides.{nat_tests}
use Rattle.std.proofs.Math.Utf8.{encode, scalar, scalar_cases}
use Rattle.percent_encoding.specs.Percent.{is_escape, percent_decode, percent_encode_byte}
use Rattle.percent_encoding.proofs.PercentLemmas.{percent_decode-nil, percent_decode-percent_encode_byte, percent_decode_not_percent}
use Rattle.cookie_core.specs.Escapes.{is_escaped, escape, unescape}
use Rattle.cookie_core.proofs.EscapeLemmas.{or_false}
use Rattle.cookie_core.proofs.ByteLemmas.{is_other, all-append}
use mathlib.Core.Logic.{◌≢◌}

-- a byte that an escaped text can hold: graphic ASCII, neither `;` nor `=`
abbrev pub is_token : ℕ → Bool
is_token b = nat_lt 32 b && (nat_lt b 127 && (is_other 59 b && is_other 61 b))

abbrev pub is_byte : ℕ → Bool
is_byte b = nat_lt b 256

-- ---- what is kept, and what an escape is made of

escaped_or_token : (b : ℕ) → (is_escaped b || is_token b) ≡ true
escaped_or_token b =
    ⊎_elim
    (λ small. agree_below_at (λ d. is_escaped d || is_token d) (λ _. true) 128 b refl small)
    (λ large. let e : is_escaped b ≡ true = grind (arith, nat_tests) in rw e refl)
    (cases_lt b 128)

kept_is_token : (b : ℕ) → is_escaped b ≡ false → is_token b ≡ true
kept_is_token b e = rw e at (escaped_or_token b)

glyph_is_token : (d : ℕ) → d < 16 → is_token (digit_glyph true d) ≡ true
glyph_is_token d small = agree_below_at (λ k. is_token (digit_glyph true k)) (λ _. true) 16 d refl small

escape_is_token : (b : ℕ) → list_all is_token (percent_encode_byte b) ≡ true
unfolding percent_encode_byte
escape_is_token b =
    rw (glyph_is_token (b / 16 % 16) (omega arith), glyph_is_token (b % 16) (omega arith)) refl

-- ---- the whole text

pub escape-nil : escape [] ≡ []
unfolding escape
escape-nil = refl

pub escape_escaped : (b : ℕ) (t : List ℕ) → is_escaped b ≡ true → escape (b ∷ t) ≡ percent_encode_byte b ++ escape t
unfolding escape
escape_escaped b t e = ap (λ x. x ++ escape t) (cond-true _ _ _ e)

pub escape_kept : (b : ℕ) (t : List ℕ) → is_escaped b ≡ false → escape (b ∷ t) ≡ b ∷ escape t
unfolding escape
escape_kept b t e = ap (λ x. x ++ escape t) (cond-false _ _ _ e)

-- a text without a byte that is escaped stays
pub escape-same : (t : List ℕ) → list_any is_escaped t ≡ false → escape t ≡ t
escape-same [] none = escape-nil
escape-same (b ∷ t) none =
    let both = or_false (is_escaped b) (list_any is_escaped t) none in
    escape_kept b t both.0 ∙ ap (λ rest. b ∷ rest) (escape-same t both.1)

pub escape_is_tokens : (t : List ℕ) → list_all is_token (escape t) ≡ true
escape_is_tokens [] = rw escape-nil refl
escape_is_tokens (b ∷ t) =
    let rest = escape_is_tokens t in
    ⊎_elim
    (λ e. rw (escape_escaped b t e) (all-append is_token (percent_encode_byte b) (escape t) (escape_is_token b) rest))
    (λ e. rw (escape_kept b t e, kept_is_token b e, rest) refl)
    (cases_Bool (is_escaped b))

pub unescape-escape : (t : List ℕ) → list_all is_byte t ≡ true → unescape (escape t) ≡ t
unescape-escape [] h = rw escape-nil percent_decode-nil
unescape-escape (b ∷ t) h =
    let k = and_parts (is_byte b) (list_all is_byte t) h in
    let small : b < 256 = grind (arith, nat_tests, k.0) in
    let rest = ap (λ x. b ∷ x) (unescape-escape t k.1) in
    ⊎_elim
    (λ e. rw (escape_escaped b t e) (percent_decode-percent_encode_byte b (escape t) small ∙ rest))
    (λ e. rw (escape_kept b t e) (percent_decode_not_percent b (escape t) (λ p. both_ways _ e (rw p refl)) ∙ rest))
    (cases_Bool (is_escaped b))

pub escape_some : (t : List ℕ) → t ≢ [] → escape t ≢ []
unfolding percent_encode_byte
escape_some [] h = absurd (h refl)
escape_some (b ∷ t) h =
    ⊎_elim
    (λ e z. let q : percent_encode_byte b ++ escape t ≡ [] = sym (escape_escaped b t e) ∙ z in absurd (omega (arith, ap length q)))
    (λ e z. let q : b ∷ escape t ≡ [] = sym (escape_kept b t e) ∙ z in absurd (omega (arith, ap length q)))
    (cases_Bool (is_escaped b))

-- ---- UTF-8 is bytes

encode_is_bytes : (c : ℕ) → scalar c ≡ true → list_all is_byte (encode c) ≡ true
unfolding encode
encode_is_bytes c e =
    ⊎_elim
    (λ h. grind (arith, nat_tests))
    (λ h. grind (arith, nat_tests, h.0, h.1))
    (scalar_cases c e)

encodes_is_bytes : (cs : List ℕ) → all_scalars cs ≡ true → list_all is_byte (encode_utf8_all cs) ≡ true
encodes_is_bytes [] h = refl
encodes_is_bytes (c ∷ cs) h =
    let k = and_parts (scalar c) (all_scalars cs) h in
    all-append is_byte (encode c) (encode_utf8_all cs) (encode_is_bytes c k.0) (encodes_is_bytes cs k.1)

pub utf8_is_bytes : (t : List ℕ) → IsUtf8 t → list_all is_byte t ≡ true
utf8_is_bytes t (cs, (h, e)) = rw (sym e) (encodes_is_bytes cs h)

pub token_is_other_59 : (b : ℕ) → is_token b ≡ true → is_other 59 b ≡ true
token_is_other_59 b h = grind (arith, nat_tests)

pub token_is_other_61 : (b : ℕ) → is_token b ≡ true → is_other 61 b ≡ true
token_is_other_61 b h = grind (arith, nat_tests)

-- a text that isn't empty is decoded to one that isn't
pub unescape_some : (t : List ℕ) → t ≢ [] → unescape t ≢ []
unfolding percent_decode
unescape_some [] some = some
unescape_some (b ∷ []) some = λ empty. cc
unescape_some (b ∷ c ∷ []) some = λ empty. cc
unescape_some (b ∷ high ∷ low ∷ rest) some = first (is_escape b high low) _ _ _ _
  where
    first : (is : Bool) (x y : ℕ) (xs ys : List ℕ) → cond is (x ∷ xs) (y ∷ ys) ≢ []
    first true x y xs ys = λ empty. cc
    first false x y xs ys = λ empty. cc
