-- Escapes: the crate's set of ASCII bytes is the one of the definition, and a text without an escape stands for itself.
use Rattle.std.proofs.Common.{◌≡◌, ℕ, zero, suc, ◌+◌, ◌-◌, ◌<◌, ◌≤◌, Bool, true, false, ◌||◌, List, [], ◌∷◌, ◌++◌, length, get_or, take, drop, slice_range, length-drop, nat_eq, refl, sym, ap, subst, ◌∙◌, arith, ⊎_elim}
use Rattle.std.proofs.Math.Seq.{drop-length}
use Rattle.std.proofs.lemmas.Bool.{agree_below_at, cases_lt, cond-false, eq-eqb, false≢true}
use Rattle.std.proofs.lemmas.Bool.Decides.{nat_tests}
use Rattle.std.proofs.lemmas.List.{drop_more, get_or-drop, take_all}
use mathlib.Core.Logic.{◌≢◌}
use Rattle.std.specs.List.{list_any}
use Rattle.memchr.specs.Find.{Nowhere, NoneBefore, Passes, is_byte}
use Rattle.percent_encoding.proofs.PercentLemmas.{percent_decode_kept_more}
use Rattle.percent_encoding.specs.AsciiSet.{should_percent_encode}
use Rattle.percent_encoding.specs.Percent.{percent_encode, percent_decode, is_escape, KeepsFirst}
use Rattle.cookie_core.specs.declared.encoding.TheConstants.{ESCAPED}
use Rattle.cookie_core.specs.EscapeTest.{starts_with_escape, has_escape}
use Rattle.cookie_core.specs.Escapes.{is_escaped, escape, unescape}

low : (b : ℕ) → b < 128 → should_percent_encode ESCAPED b ≡ is_escaped b
unfolding should_percent_encode
low b small = agree_below_at (should_percent_encode ESCAPED) is_escaped 128 b refl small

past_ascii : (b : ℕ) → 128 ≤ b → should_percent_encode ESCAPED b ≡ is_escaped b
unfolding should_percent_encode
past_ascii b large = grind (arith, nat_tests)

pub same_set : (b : ℕ) → should_percent_encode ESCAPED b ≡ is_escaped b
same_set b = ⊎_elim (low b) (past_ascii b) (cases_lt b 128)

pub percent_encode_is : (text : List ℕ) → percent_encode ESCAPED text ≡ escape text
unfolding percent_encode escape
percent_encode_is [] = refl
percent_encode_is (b ∷ bs) = rw (same_set b, percent_encode_is bs)

pub or_false : (a b : Bool) → (a || b) ≡ false → (a ≡ false) × (b ≡ false)
or_false true b e = absurd (false≢true (sym e))
or_false false b e = (refl, e)

-- a text without an escape stands for itself
pub unescape-same : (t : List ℕ) → has_escape t ≡ false → unescape t ≡ t
unfolding percent_decode
unescape-same [] e = refl
unescape-same (b ∷ []) e = refl
unescape-same (b ∷ c ∷ []) e = refl
unescape-same (b ∷ h ∷ l ∷ rest) e =
    let q = or_false (is_escape b h l) (has_escape (h ∷ l ∷ rest)) e in
    rw q.0 (ap (λ (s : List ℕ). b ∷ s) (unescape-same (h ∷ l ∷ rest) q.1))

-- a text without `%` holds no escape
pub no_percent_no_escape : (t : List ℕ) → list_any (λ b. nat_eq b 37) t ≡ false → has_escape t ≡ false
no_percent_no_escape [] e = refl
no_percent_no_escape (b ∷ []) e = refl
no_percent_no_escape (b ∷ c ∷ []) e = refl
no_percent_no_escape (b ∷ h ∷ l ∷ rest) e =
    let q = or_false (nat_eq b 37) (list_any (λ c. nat_eq c 37) (h ∷ l ∷ rest)) e in
    rw q.0 (no_percent_no_escape (h ∷ l ∷ rest) q.1)

-- ---- the front of a text, before an escape

keeps_first : (t : List ℕ) → starts_with_escape t ≡ false → KeepsFirst t
unfolding percent_decode
keeps_first [] e = tt
keeps_first (b ∷ []) e = refl
keeps_first (b ∷ c ∷ []) e = refl
keeps_first (b ∷ h ∷ l ∷ rest) e = cond-false _ _ _ e

has_escape-behind : (t : List ℕ) (b : ℕ) (rest : List ℕ) → t ≡ b ∷ rest → starts_with_escape t ≡ false → has_escape t ≡ has_escape rest
has_escape-behind t b rest is e = ap has_escape is ∙ ap (λ x. x || has_escape rest) (sym (ap starts_with_escape is) ∙ e)

has_escape-here : (t : List ℕ) → starts_with_escape t ≡ true → has_escape t ≡ true
has_escape-here [] e = e
has_escape-here (b ∷ rest) e = ap (λ x. x || has_escape rest) e

no_percent : (t : List ℕ) → get_or t 0 0 ≢ 37 → starts_with_escape t ≡ false
no_percent [] h = refl
no_percent (b ∷ []) h = refl
no_percent (b ∷ c ∷ []) h = refl
no_percent (b ∷ high ∷ low ∷ rest) h = grind (arith, nat_tests)

-- ---- a part of a text without a byte has none

any-take : (p : ℕ → Bool) (t : List ℕ) (n : ℕ) → list_any p t ≡ false → list_any p (take n t) ≡ false
any-take p t zero none = refl
any-take p [] (suc n) none = refl
any-take p (b ∷ t) (suc n) none =
    let both = or_false (p b) (list_any p t) none in
    rw (both.0, any-take p t n both.1) refl

any-drop : (p : ℕ → Bool) (t : List ℕ) (n : ℕ) → list_any p t ≡ false → list_any p (drop n t) ≡ false
any-drop p t zero none = none
any-drop p [] (suc n) none = refl
any-drop p (b ∷ t) (suc n) none = any-drop p t n (or_false (p b) (list_any p t) none).1

pub no_percent_no_escape_within : (t : List ℕ) (m n : ℕ) → list_any (λ b. nat_eq b 37) t ≡ false → has_escape (take n (drop m t)) ≡ false
no_percent_no_escape_within t m n none =
    no_percent_no_escape (take n (drop m t)) (any-take (λ b. nat_eq b 37) (drop m t) n (any-drop (λ b. nat_eq b 37) t m none))

-- no escape begins in the first n bytes of t
pub record IsPlainTo (t : List ℕ) (n : ℕ) : Type 0 where
  pub kept : unescape t ≡ take n t ++ unescape (drop n t)
  pub same : has_escape t ≡ has_escape (drop n t)

-- nor at the next
pub IsPlainTo-more : (t : List ℕ) (n : ℕ) → n < length t → starts_with_escape (drop n t) ≡ false → IsPlainTo t n → IsPlainTo t (n + 1)
IsPlainTo-more t n inside e h =
    record {
      kept = percent_decode_kept_more t n inside (keeps_first (drop n t) e) h.kept;
      same = h.same ∙ has_escape-behind (drop n t) (get_or t n 0) (drop (n + 1) t) (drop_more t n 0 inside) e;
    }

-- nor at bytes that aren't `%`
pub IsPlainTo-past : (t : List ℕ) (n k : ℕ) → n + k ≤ length t → ((i : ℕ) → i < k → get_or (drop n t) i 0 ≢ 37) → IsPlainTo t n → IsPlainTo t (n + k)
IsPlainTo-past t n zero inside other h = let same : n + 0 ≡ n = omega arith in subst (IsPlainTo t) (sym same) h
IsPlainTo-past t n (suc k) inside other h =
    let before = IsPlainTo-past t n k (omega arith) (λ i lt. other i (omega arith)) h in
    let here : n + k + 0 ≡ n + k = omega arith in
    let apart : get_or (drop (n + k) t) 0 0 ≢ 37 = λ e. other k (omega arith) (get_or-drop n t k 0 ∙ ap (λ j. get_or t j 0) (sym here) ∙ sym (get_or-drop (n + k) t 0 0) ∙ e) in
    let next : n + k + 1 ≡ n + suc k = omega arith in
    subst (IsPlainTo t) next (IsPlainTo-more t (n + k) (omega arith) (no_percent (drop (n + k) t) apart) before)

-- nor before the first `%` behind them, nor anywhere if there is none
not_percent : (hay : List ℕ) (i : ℕ) → ¬ (Passes (is_byte 37) hay i) → get_or hay i 0 ≢ 37
not_percent hay i h e = h (eq-eqb (get_or hay i 0) 37 e)

-- the rest of a text, as a slice of it
pub rest_slice : (t : List ℕ) (n : ℕ) → slice_range t n (length t) ≡ drop n t
rest_slice t n = take_all (length t - n) (drop n t) (omega (arith, length-drop n t))

pub IsPlainTo-found : (t : List ℕ) (n k : ℕ) → n ≤ length t → NoneBefore (Passes (is_byte 37) (slice_range t n (length t))) 0 (length (slice_range t n (length t))) k → IsPlainTo t n → (n + k < length t) × IsPlainTo t (n + k)
IsPlainTo-found t n k inside seen h =
    let found = subst (λ s. NoneBefore (Passes (is_byte 37) s) 0 (length s) k) (rest_slice t n) seen in
    let short : k < length (drop n t) = found.high in
    let below : n + k < length t = omega (arith, length-drop n t) in
    (below, IsPlainTo-past t n k (omega arith) (λ i lt. not_percent (drop n t) i (found.before i (omega arith) lt)) h)

pub IsPlainTo-all : (t : List ℕ) (n : ℕ) → n ≤ length t → Nowhere (Passes (is_byte 37) (slice_range t n (length t))) 0 (length (slice_range t n (length t))) → IsPlainTo t n → IsPlainTo t (length t)
IsPlainTo-all t n inside seen h =
    let nowhere = subst (λ s. Nowhere (Passes (is_byte 37) s) 0 (length s)) (rest_slice t n) seen in
    let size : length (drop n t) ≡ length t - n = length-drop n t in
    let whole : n + length (drop n t) ≡ length t = omega arith in
    subst (IsPlainTo t) whole (IsPlainTo-past t n (length (drop n t)) (omega arith) (λ i lt. not_percent (drop n t) i (nowhere i (omega arith) lt)) h)

pub IsPlainTo-end : (t : List ℕ) → IsPlainTo t (length t) → has_escape t ≡ false
IsPlainTo-end t h = h.same ∙ ap has_escape (drop-length t)

-- an escape stands there
pub IsPlainTo-escape : (t : List ℕ) (n : ℕ) → starts_with_escape (drop n t) ≡ true → IsPlainTo t n → has_escape t ≡ true
IsPlainTo-escape t n e h = h.same ∙ has_escape-here (drop n t) e
