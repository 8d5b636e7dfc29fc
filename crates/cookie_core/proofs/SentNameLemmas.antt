-- Names of pieces, as user agents have them.
use Rattle.std.proofs.Common.{◌≡◌, Bool, true, false, cond, not, ◌&&◌, ◌||◌, ◌==◌, ℕ, ◌+◌, ◌*◌, ◌<◌, List, [], ◌∷◌, ◌++◌, length, eqb, Option, Some, None, take, take_all, refl, sym, ap, subst, ◌∙◌, ⊎_elim, arith}
use Rattle.std.proofs.Math.Seq.{take-append_seam}
use Rattle.std.proofs.lemmas.Bool.{agree_below_at, and_parts, cases_lt, false≢true}
use Rattle.std.proofs.lemmas.Bool.Decides.{nat_tests, Decides-eqb}
use Rattle.std.proofs.lemmas.Slice.Eq.{bytes_eq-Decides}
use Rattle.std.specs.Char.{digit_value, to_ascii_lowercase}
use Rattle.std.specs.List.{before_first, list_all}
use Rattle.std.specs.Option.{MatchOption}
use Rattle.std.specs.Str.{bytes_eq}
use mathlib.Core.Logic.{◌≢◌}
use Rattle.percent_encoding.specs.Percent.{is_escape, percent_decode}
use Rattle.cookie_core.specs.CookieOf.{key_text}
use Rattle.cookie_core.specs.Escapes.{is_escaped, unescape}
use Rattle.cookie_core.specs.Pieces.{Lacks}
use Rattle.cookie_core.specs.SentNames.{KeepsPrefixes, begins_in_any_case, has_printed_escapes, is_printed, sent_name}
use Rattle.cookie_core.proofs.ByteLemmas.{false_from_not}
use Rattle.cookie_core.proofs.OffsetLemmas.{offset_of-none, offset_of-first}

-- ---- what stands before the first `=`

pub before_mark : {X : Type 0} (shown : X → List ℕ) (piece name : List ℕ) → Lacks 61 name → (after : Option X)
    → MatchOption after (name ≡ piece) (λ rest. piece ≡ name ++ 61 ∷ shown rest) → name ≡ before_first (λ byte. byte == 61) piece
before_mark shown piece name lacks None same =
    let all : Lacks 61 piece = subst (Lacks 61) same lacks in
    same ∙ sym (ap (λ n. take n piece) (offset_of-none 61 piece all) ∙ take_all (length piece) piece (omega arith))
before_mark shown piece name lacks (Some rest) whole =
    let then : List ℕ = 61 ∷ shown rest in
    sym (ap (before_first (λ byte. byte == 61)) whole
    ∙ ap (λ n. take n (name ++ then)) (offset_of-first 61 name (shown rest) lacks)
    ∙ take-append_seam name then)

-- ---- a prefix is kept

lower_escaped : (b : ℕ) → is_escaped (to_ascii_lowercase b) ≡ is_escaped b
lower_escaped b =
    ⊎_elim
    (λ small. agree_below_at (λ d. is_escaped (to_ascii_lowercase d)) is_escaped 128 b refl small)
    (λ large. let same : to_ascii_lowercase b ≡ b = grind (arith, nat_tests) in ap is_escaped same)
    (cases_lt b 128)

-- a byte that printing escapes is no byte of the prefix, in any case
apart : (q v : ℕ) → is_escaped q ≡ false → is_escaped v ≡ true → eqb (to_ascii_lowercase q) (to_ascii_lowercase v) ≡ false
apart q v kept escaped = by (eqb (to_ascii_lowercase q) (to_ascii_lowercase v)) refl
  where
    by : (b : Bool) → eqb (to_ascii_lowercase q) (to_ascii_lowercase v) ≡ b → b ≡ false
    by false e = refl
    by true e =
        let same : to_ascii_lowercase q ≡ to_ascii_lowercase v = (Decides-eqb (to_ascii_lowercase q) (to_ascii_lowercase v)).0 e in
        absurd (false≢true (sym kept ∙ sym (lower_escaped q) ∙ ap is_escaped same ∙ lower_escaped v ∙ escaped))

is_escape-percent : (b high low : ℕ) → is_escape b high low ≡ true → b ≡ 37
is_escape-percent b high low e = grind (arith, nat_tests)

pub is_escape-digits : (b high low : ℕ) → b ≡ 37 → digit_value high < 16 → digit_value low < 16 → is_escape b high low ≡ true
is_escape-digits b high low percent first second = grind (arith, nat_tests)

pub keeps_prefix : (prefix name : List ℕ) → list_all (λ byte. not (is_escaped byte)) prefix ≡ true → has_printed_escapes name ≡ true
    → begins_in_any_case prefix (unescape name) ≡ begins_in_any_case prefix name
unfolding percent_decode
keeps_prefix [] name kept printed = refl
keeps_prefix (q ∷ qs) [] kept printed = refl
keeps_prefix (q ∷ qs) (b ∷ []) kept printed = refl
keeps_prefix (q ∷ qs) (b ∷ c ∷ []) kept printed = refl
keeps_prefix (q ∷ qs) (b ∷ high ∷ low ∷ rest) kept printed =
    let at = and_parts (not (is_escaped q)) (list_all (λ byte. not (is_escaped byte)) qs) kept in
    let ones = and_parts (is_printed b high low) (has_printed_escapes (high ∷ low ∷ rest)) printed in
    by (is_escape b high low) refl (false_from_not (is_escaped q) at.0) ones.0 (keeps_prefix qs (high ∷ low ∷ rest) at.1 ones.1)
  where
    value : ℕ
    value = 16 * digit_value high + digit_value low

    by : (is : Bool) → is_escape b high low ≡ is → is_escaped q ≡ false → (not is || is_escaped value) ≡ true
        → begins_in_any_case qs (unescape (high ∷ low ∷ rest)) ≡ begins_in_any_case qs (high ∷ low ∷ rest)
        → begins_in_any_case (q ∷ qs) (cond is (value ∷ unescape rest) (b ∷ unescape (high ∷ low ∷ rest))) ≡ begins_in_any_case (q ∷ qs) (b ∷ high ∷ low ∷ rest)
    by true e plain escaped later =
        let sign : is_escaped b ≡ true = ap is_escaped (is_escape-percent b high low e) in
        ap (λ x. x && begins_in_any_case qs (unescape rest)) (apart q value plain escaped)
        ∙ sym (ap (λ x. x && begins_in_any_case qs (high ∷ low ∷ rest)) (apart q b plain sign))
    by false e plain escaped later = ap (λ x. eqb (to_ascii_lowercase q) (to_ascii_lowercase b) && x) later

-- ---- texts without an escape

-- a byte that isn't `%` begins no escape
pub printed-past : (b : ℕ) (t : List ℕ) → b ≢ 37 → has_printed_escapes (b ∷ t) ≡ has_printed_escapes t
printed-past b [] other = refl
printed-past b (c ∷ []) other = refl
printed-past b (high ∷ low ∷ t) other =
    let none : is_escape b high low ≡ false = grind (arith, nat_tests) in
    ap (λ e. (not e || is_escaped (16 * digit_value high + digit_value low)) && has_printed_escapes (high ∷ low ∷ t)) none

-- a text of fewer than three bytes

pub short_printed : (t : List ℕ) → length t < 3 → has_printed_escapes t ≡ true
short_printed [] short = refl
short_printed (b ∷ []) short = refl
short_printed (b ∷ c ∷ []) short = refl
short_printed (b ∷ c ∷ d ∷ t) short = absurd (omega (arith, short))

-- ---- the law

pub keeps_prefixes : (piece : List ℕ) → KeepsPrefixes piece
keeps_prefixes piece named prefix kept =
    let both = and_parts (bytes_eq (key_text piece) (sent_name piece)) (has_printed_escapes (sent_name piece)) named in
    let same : key_text piece ≡ sent_name piece = (bytes_eq-Decides (key_text piece) (sent_name piece)).0 both.0 in
    ap (λ name. begins_in_any_case prefix (unescape name)) same ∙ keeps_prefix prefix (sent_name piece) kept both.1
