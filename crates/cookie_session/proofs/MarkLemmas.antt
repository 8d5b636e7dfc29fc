-- A form with no more escapes than its reader needs: the reader gives its pairs back.
use Rattle.std.proofs.Common.{◌≡◌, ◌≢◌, ℕ, ◌+◌, ◌*◌, ◌/◌, ◌%◌, ◌^◌, ◌<◌, ◌≤◌, true, false, ltb, ⊎_elim, List, [], ◌∷◌, ◌++◌, map, length, get_or, All, refl, sym, ap, subst, ◌∙◌, append_assoc, append-nil, arith, length-append, fold}
use Rattle.std.proofs.Math.ListN.{get_or-eq_default}
use Rattle.std.proofs.lemmas.Bool.{cases_lt, cond-true, cond-false, cond_both, lt-ltb, ltb-true, ne_eqb, or_parts}
use Rattle.std.proofs.lemmas.Bool.Decides.{nat_tests}
use Rattle.std.proofs.lemmas.Fmt.{decimal_is_IsNumeral}
use Rattle.std.proofs.lemmas.Grind.{flat_map-append}
use Rattle.std.proofs.lemmas.List.{map-append}
use Rattle.std.proofs.lemmas.List.Elements.{All-nil, All-cons, All-head, All-tail, All-append, All-get_or, All-from_get_or, All-weaker}
use Rattle.std.proofs.lemmas.Str.{encode_ascii}
use Rattle.std.proofs.lemmas.Str.Parse.{digit_at}
use Rattle.std.specs.Fmt.{decimal}
use Rattle.std.specs.List.{list_any}
use Rattle.std.specs.Prelude.{slice_index}
use lib.Utf8.{encode, next}
use Rattle.base64.specs.Engines.{url_safe_no_pad}
use Rattle.base64.specs.GeneralPurpose.{engine_symbols}
use Rattle.base64.specs.Rfc4648.{encode_group, encode_symbols}
use Rattle.percent_encoding.specs.Percent.{percent_encode_byte}
use Rattle.percent_encoding.proofs.PercentLemmas.{IsByte, IsEscapeByte, All-percent_encode_byte, percent_decode-nil, percent_decode_not_percent, percent_decode-percent_encode_byte}
use Rattle.form_urlencoded.specs.Form.{decode, plus_to_space, separator}
use Rattle.form_urlencoded.proofs.FormLemmas.{map-plus_to_space}
use Rattle.cookie_session.specs.Form.{compact_form, compact_pair, escape_mark, escape_marks, is_mark, with_pair}
use Rattle.cookie_session.specs.Id.{id_text}
use Rattle.cookie_session.specs.Reading.{later_pairs, pairs_text}

-- ---- escapes

pub escape_marks-nil : escape_marks [] ≡ []
unfolding escape_marks
escape_marks-nil = refl

escape_marks-cons : (b : ℕ) (bs : List ℕ) → escape_marks (b ∷ bs) ≡ escape_mark b ++ escape_marks bs
unfolding escape_marks
escape_marks-cons b bs = refl

pub escape_marks-append : (xs ys : List ℕ) → escape_marks (xs ++ ys) ≡ escape_marks xs ++ escape_marks ys
unfolding escape_marks
escape_marks-append xs ys = flat_map-append escape_mark xs ys

-- bytes that aren't marks stay
escape_marks-plain : (bs : List ℕ) → All (λ b. is_mark b ≡ false) bs → escape_marks bs ≡ bs
escape_marks-plain [] plain = escape_marks-nil
escape_marks-plain (b ∷ bs) plain =
    escape_marks-cons b bs
    ∙ ap (λ front. front ++ escape_marks bs) (cond-false _ _ _ (All-head (λ x. is_mark x ≡ false) b bs plain))
    ∙ ap (λ rest. b ∷ rest) (escape_marks-plain bs (All-tail (λ x. is_mark x ≡ false) b bs plain))

unmarked : (bs : List ℕ) → list_any is_mark bs ≡ false → All (λ b. is_mark b ≡ false) bs
unmarked [] none = All-nil (λ b. is_mark b ≡ false)
unmarked (b ∷ bs) none =
    let both = or_parts (is_mark b) (list_any is_mark bs) none in
    All-cons (λ x. is_mark x ≡ false) b bs both.0 (unmarked bs both.1)

-- so a text without marks stays
pub escape_marks_unmarked : (bs : List ℕ) → list_any is_mark bs ≡ false → escape_marks bs ≡ bs
escape_marks_unmarked bs none = escape_marks-plain bs (unmarked bs none)

-- and so does a number's
pub escape_marks-decimal : (n : ℕ) → n < 2 ^ 64 → escape_marks (decimal n) ≡ decimal n
escape_marks-decimal n small = escape_marks-plain (decimal n) (All-from_get_or (λ b. is_mark b ≡ false) (decimal n) 0 (λ i inside.
    let digit = digit_at (decimal n) i (decimal_is_IsNumeral n small).0.1 inside in
    digit_unmarked (get_or (decimal n) i 0) digit.0 digit.1))
  where
    digit_unmarked : (b : ℕ) → 48 ≤ b → b ≤ 57 → is_mark b ≡ false
    digit_unmarked b low high = grind (arith, nat_tests)

-- ---- the text of an id

-- the symbols of base64url
abbrev symbols : List ℕ
symbols = engine_symbols url_safe_no_pad

-- no symbol is a mark, nor is what is read past the symbols
symbol_unmarked : (i : ℕ) → is_mark (slice_index symbols i) ≡ false
symbol_unmarked i =
    let P = λ (b : ℕ). is_mark b ≡ false in
    ⊎_elim (λ (inside : i < length symbols). All-get_or P symbols i 0 inside (unmarked symbols refl))
    (λ (past : length symbols ≤ i). subst P (sym (get_or-eq_default symbols 0 past)) refl) (cases_lt i (length symbols))

symbols_at : (places : List ℕ) → All (λ b. is_mark b ≡ false) (map (slice_index symbols) places)
symbols_at [] = All-nil (λ b. is_mark b ≡ false)
symbols_at (place ∷ places) = All-cons (λ b. is_mark b ≡ false) (slice_index symbols place) (map (slice_index symbols) places) (symbol_unmarked place) (symbols_at places)

symbols_unmarked : (m : List ℕ) → All (λ b. is_mark b ≡ false) (encode_symbols symbols m)
unfolding encode_symbols
symbols_unmarked [] = All-nil (λ b. is_mark b ≡ false)
symbols_unmarked (a ∷ []) = symbols_at ((a / 4) ∷ (a % 4 * 16) ∷ [])
symbols_unmarked (a ∷ b ∷ []) = symbols_at ((a / 4) ∷ (a % 4 * 16 + b / 16) ∷ (b % 16 * 4) ∷ [])
symbols_unmarked (a ∷ b ∷ c ∷ rest) =
    All-append (λ x. is_mark x ≡ false) (encode_group symbols a b c) (encode_symbols symbols rest)
    (symbols_at ((a / 4) ∷ (a % 4 * 16 + b / 16) ∷ (b % 16 * 4 + c / 64) ∷ (c % 64) ∷ [])) (symbols_unmarked rest)

-- so an id's text stays
pub escape_marks-id_text : (id : List ℕ) → escape_marks (id_text id) ≡ id_text id
escape_marks-id_text id = subst (λ t. escape_marks t ≡ t) (sym (append-nil (encode_symbols symbols id))) (escape_marks-plain (encode_symbols symbols id) (symbols_unmarked id))

-- ---- a character

pub past_ascii : (b : ℕ) → 128 ≤ b → is_mark b ≡ false
past_ascii b large = grind (arith, nat_tests)

marks_are_ascii : (b : ℕ) → is_mark b ≡ true → b < 128
marks_are_ascii b is = grind (arith, nat_tests)

-- the bytes of a character past ASCII are past ASCII
All-past : (c : ℕ) → 128 ≤ c → All (λ b. 128 ≤ b) (encode c)
unfolding encode
All-past c large =
    let P = λ (b : ℕ). 128 ≤ b in
    let one : List ℕ = next c ∷ [] in
    let two : List ℕ = next (c / 64) ∷ one in
    let three : List ℕ = next (c / 4096) ∷ two in
    let last : All P one = All-cons P (next c) [] (omega arith) (All-nil P) in
    let second : All P two = All-cons P (next (c / 64)) one (omega arith) last in
    let first : All P three = All-cons P (next (c / 4096)) two (omega arith) second in
    cond_both (ltb c 128) (c ∷ []) _ (All P) (λ e. let small = ltb-true c 128 e in absurd (omega (arith, small, large)))
    (λ _. cond_both (ltb c 2048) ((192 + c / 64) ∷ one) _ (All P) (λ _. All-cons P (192 + c / 64) one (omega arith) last)
    (λ _. cond_both (ltb c 65536) ((224 + c / 4096) ∷ two) ((240 + c / 262144) ∷ three) (All P)
    (λ _. All-cons P (224 + c / 4096) two (omega arith) second)
    (λ _. All-cons P (240 + c / 262144) three (omega arith) first)))

-- a mark is escaped
pub marked_character : (c : ℕ) → is_mark c ≡ true → escape_marks (encode c) ≡ percent_encode_byte c
marked_character c is =
    ap escape_marks (encode_ascii c (marks_are_ascii c is)) ∙ escape_marks-cons c [] ∙ ap (λ rest. escape_mark c ++ rest) escape_marks-nil
    ∙ append-nil (escape_mark c) ∙ cond-true _ _ _ is

-- and each other character stays
pub unmarked_character : (c : ℕ) → is_mark c ≡ false → escape_marks (encode c) ≡ encode c
unmarked_character c is = ⊎_elim small large (cases_lt c 128)
  where
    small : c < 128 → escape_marks (encode c) ≡ encode c
    small below =
        let alone = encode_ascii c below in
        ap escape_marks alone ∙ escape_marks-plain (c ∷ []) (All-cons (λ b. is_mark b ≡ false) c [] is (All-nil (λ b. is_mark b ≡ false))) ∙ sym alone

    large : 128 ≤ c → escape_marks (encode c) ≡ encode c
    large past = escape_marks-plain (encode c) (All-weaker (λ b. 128 ≤ b) (λ b. is_mark b ≡ false) past_ascii (encode c) (All-past c past))

-- ---- the reader

not_plus : (b : ℕ) → IsEscapeByte b → b ≢ 43
not_plus b escape e = grind arith

not_separator : (b : ℕ) → IsEscapeByte b → (b ≢ 38) × (b ≢ 61)
not_separator b escape = (λ e. grind arith, λ e. grind arith)

not_mark : (b : ℕ) → is_mark b ≡ false → (b ≢ 37) × (b ≢ 38) × (b ≢ 43) × (b ≢ 61)
not_mark b is =
    (λ e. grind (arith, nat_tests), λ e. grind (arith, nat_tests), λ e. grind (arith, nat_tests), λ e. grind (arith, nat_tests))

decode-escape_mark : (b : ℕ) (rest : List ℕ) → b < 256 → decode (escape_mark b ++ rest) ≡ b ∷ decode rest
decode-escape_mark b rest small =
    let P = λ (x : List ℕ). decode (x ++ rest) ≡ b ∷ decode rest in
    cond_both (is_mark b) (percent_encode_byte b) (b ∷ []) P
    (λ _.
    let no_plus = All-weaker IsEscapeByte (λ x. x ≢ 43) not_plus (percent_encode_byte b) (All-percent_encode_byte b) in
    rw (map-append plus_to_space (percent_encode_byte b) rest, map-plus_to_space _ no_plus) (percent_decode-percent_encode_byte b _ small))
    (λ is. let other = not_mark b is in rw (ne_eqb b 43 other.2) (percent_decode_not_percent b _ other.0))

-- decoding undoes the escapes
pub decode-escape_marks : (bs : List ℕ) → All IsByte bs → decode (escape_marks bs) ≡ bs
decode-escape_marks [] small = rw escape_marks-nil percent_decode-nil
decode-escape_marks (b ∷ bs) small =
    rw escape_marks-cons (decode-escape_mark b _ (All-head IsByte b bs small) ∙ ap (λ l. b ∷ l) (decode-escape_marks bs (All-tail IsByte b bs small)))

-- what holds of `%`, of the digits and of each byte that isn't a mark
All-escape_marks : (P : ℕ → Type 0) (bs : List ℕ) → ((b : ℕ) → is_mark b ≡ false → P b) → ((b : ℕ) → IsEscapeByte b → P b) → All P (escape_marks bs)
All-escape_marks P [] kept escape = rw escape_marks-nil (All-nil P)
All-escape_marks P (b ∷ bs) kept escape =
    rw escape_marks-cons (All-append P (escape_mark b) (escape_marks bs)
    (cond_both (is_mark b) (percent_encode_byte b) (b ∷ []) (All P)
    (λ _. All-weaker IsEscapeByte P escape (percent_encode_byte b) (All-percent_encode_byte b)) (λ is. All-cons P b [] (kept b is) (All-nil P)))
    (All-escape_marks P bs kept escape))

pub no_equals : (bs : List ℕ) → All (λ b. b ≢ 61) (escape_marks bs)
no_equals bs = All-escape_marks (λ b. b ≢ 61) bs (λ b is. (not_mark b is).3) (λ b escape. (not_separator b escape).1)

pub no_ampersand : (bs : List ℕ) → All (λ b. b ≢ 38) (escape_marks bs)
no_ampersand bs = All-escape_marks (λ b. b ≢ 38) bs (λ b is. (not_mark b is).1) (λ b escape. (not_separator b escape).0)

pub compact_pair_nonempty : (pair : List ℕ × List ℕ) → 0 < length (compact_pair pair)
compact_pair_nonempty pair = simp length-append (omega arith)

pub compact_nonempty : (form : List ℕ) (pairs : List (List ℕ × List ℕ)) → 0 < length form → fold with_pair form pairs ≡ form ++ later_pairs pairs
compact_nonempty form [] nonempty = sym (append-nil form)
compact_nonempty form (pair ∷ pairs) nonempty =
    let longer : 0 < length (with_pair form pair) = simp length-append (omega arith) in
    let joined : separator form ≡ 38 ∷ [] = cond-true _ _ _ (lt-ltb 0 _ nonempty) in
    compact_nonempty (with_pair form pair) pairs longer ∙ simp (joined, append_assoc)

-- a form is read from the front
pub compact_form-read : (pairs : List (List ℕ × List ℕ)) → compact_form pairs ≡ pairs_text pairs
compact_form-read [] = refl
compact_form-read (pair ∷ pairs) = compact_nonempty (compact_pair pair) pairs (compact_pair_nonempty pair)
