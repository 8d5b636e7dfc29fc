-- The offset of the first byte of a kind.
use Rattle.std.proofs.Common.{◌≡◌, ◌==◌, ◌+◌, ◌-◌, ◌<◌, ◌≤◌, true, false, ℕ, List, ◌∷◌, ◌++◌, length, get_or, take, drop, slice_range, MatchOption, Option, Some, None, refl, sym, ap, ◌∙◌, inl, inr, subst, arith, length-append}
use Rattle.std.proofs.lemmas.Bool.{cases_lt}
use Rattle.std.proofs.lemmas.Bool.Decides.{nat_tests}
use Rattle.std.proofs.lemmas.List.{append_assoc, get_or_append_left, get_or-append_right, get_or-take, get_or-drop, length-take, length-take-le, take-append-drop}
use Rattle.std.proofs.lemmas.List.Sums.{position_or_len_is, fails_before_first, passes_at_first}
use Rattle.std.proofs.lemmas.Bool.{true≢false}
use Rattle.std.proofs.lemmas.Str.{NoCharPasses-byte}
use Rattle.std.specs.Char.{is_not_whitespace}
use Rattle.std.specs.Str.{NoCharPasses}
use Rattle.cookie_core.specs.Parts.{part_text, IsCut, IsPartOf}
use Rattle.cookie_core.specs.Pieces.{Lacks, offset_of}
use Rattle.cookie_core.specs.Spans.{StandsIn, span_text}
use Rattle.cookie_core.specs.declared.part.Part.{Part}
use Rattle.cookie_core.specs.declared.span.Span.{Span}
use Rattle.cookie_core.proofs.SpanLemmas.{length-span_text, slice_range-front, span_text-part}

differs : (x c : ℕ) → (x ≡ c → ⊥) → (x == c) ≡ false
differs x c h = grind (arith, nat_tests)

equals : (x c : ℕ) → x ≡ c → (x == c) ≡ true
equals x c h = grind (arith, nat_tests)

pub offset_of-none : (c : ℕ) (t : List ℕ) → Lacks c t → offset_of c t ≡ length t
offset_of-none c t lacks =
    position_or_len_is (λ b. b == c) t (length t) 0 (omega arith) (λ k lt. differs (get_or t k 0) c (lacks k lt)) (λ lt. absurd (omega (arith, lt)))

pub offset_of-first : (c : ℕ) (a b : List ℕ) → Lacks c a → offset_of c (a ++ c ∷ b) ≡ length a
offset_of-first c a b lacks =
    let all : length (a ++ c ∷ b) ≡ length a + length (c ∷ b) = length-append a (c ∷ b) in
    let zero : length a - length a ≡ 0 = omega arith in
    let here : get_or (a ++ c ∷ b) (length a) 0 ≡ c =
    get_or-append_right a (c ∷ b) (length a) (length a) 0 refl (omega arith) ∙ ap (λ i. get_or (c ∷ b) i 0) zero in
    position_or_len_is (λ x. x == c) (a ++ c ∷ b) (length a) 0 (omega (arith, all))
    (λ k lt. differs (get_or (a ++ c ∷ b) k 0) c (λ same. lacks k lt (sym (get_or_append_left a (c ∷ b) 0 k lt) ∙ same)))
    (λ lt. equals (get_or (a ++ c ∷ b) (length a) 0) c here)

-- of a text whose front, up to a, has no such byte, where the part from a to b has one
pub offset_of-within : (c : ℕ) (s : List ℕ) (a b : ℕ) → b ≤ length s → Lacks c (take a s)
    → offset_of c (slice_range s a b) < length (slice_range s a b) → offset_of c s ≡ a + offset_of c (slice_range s a b)
offset_of-within c s a b last lacks found =
    let part = slice_range s a b in
    let k = offset_of c part in
    let wide : length part ≤ b - a = omega (arith, length-take (b - a) (drop a s)) in
    let at : (j : ℕ) → j < length part → get_or part j 0 ≡ get_or s (a + j) 0 =
    λ j lt. get_or-take (b - a) (drop a s) j 0 (omega (arith, wide, lt)) ∙ get_or-drop a s j 0 in
    let front : length (take a s) ≡ a = length-take-le a s (omega (arith, wide, found, last)) in
    position_or_len_is (λ x. x == c) s (a + k) 0 (omega (arith, wide, found, last))
    (λ j lt. elim (cases_lt j a) [
      | inl below ↦ differs (get_or s j 0) c (λ same. lacks j (omega (arith, front, below)) (get_or-take a s j 0 below ∙ same))
      | inr from ↦
          let there : a + (j - a) ≡ j = omega arith in
          ap (λ x. x == c) (ap (λ i. get_or s i 0) (sym there) ∙ sym (at (j - a) (omega (arith, lt, found))))
          ∙ fails_before_first (λ x. x == c) part (j - a) 0 (omega (arith, lt))
    ])
    (λ lt. ap (λ x. x == c) (sym (at k found)) ∙ passes_at_first (λ x. x == c) part 0 found)

-- ---- parts

end-front : (s : List ℕ) (p : Span) → StandsIn s p → p.start ≡ 0 → length (span_text s p) ≡ p.end
end-front s p stands front = length-span_text s p stands ∙ omega (arith, front)

-- of a text that begins with a part that is cut at the first such byte
pub offset_of-front : (c : ℕ) (s : List ℕ) (all first : Part) (rest : List ℕ) → IsPartOf s all → IsPartOf s first
    → all.span.start ≡ 0 → first.span.start ≡ 0 → part_text all ≡ part_text first ++ c ∷ rest → Lacks c (part_text first)
    → offset_of c s ≡ first.span.end
offset_of-front c s all first rest here there front start cut lacks =
    let stands : StandsIn s first.span = subst (λ t. StandsIn t first.span) there first.stands in
    let whole : s ≡ part_text all ++ drop all.span.end s =
    sym (take-append-drop all.span.end s)
    ∙ ap (λ t. t ++ drop all.span.end s) (sym (slice_range-front s all.span.end) ∙ ap (λ n. slice_range s n all.span.end) (sym front) ∙ span_text-part s all here) in
    let split : s ≡ part_text first ++ c ∷ (rest ++ drop all.span.end s) =
    whole ∙ ap (λ t. t ++ drop all.span.end s) cut ∙ append_assoc (part_text first) (c ∷ rest) (drop all.span.end s) in
    ap (offset_of c) split
    ∙ offset_of-first c (part_text first) (rest ++ drop all.span.end s) lacks
    ∙ ap length (sym (span_text-part s first there))
    ∙ end-front s first.span stands start

-- where the first part of a whole text stands
pub first_span : (c : ℕ) (s : List ℕ) (all first : Part) (later : Option Part) → IsPartOf s all → IsPartOf s first
    → all.span.start ≡ 0 → all.span.end ≡ length s → part_text all ≡ s → IsCut all.span first.span later
    → MatchOption later (part_text first ≡ part_text all) (λ after. part_text all ≡ part_text first ++ c ∷ part_text after)
    → Lacks c (part_text first) → (first.span.start ≡ 0) × (first.span.end ≡ offset_of c s)
first_span c s all first None here there front end is same whole lacks = (
  ap (λ (p : Span). p.start) same ∙ front,
  ap (λ (p : Span). p.end) same ∙ end ∙ sym (offset_of-none c s (subst (Lacks c) (whole ∙ is) lacks)),
)
first_span c s all first (Some after) here there front end is (start, _, _) cut lacks = (
  start ∙ front,
  sym (offset_of-front c s all first (part_text after) here there front (start ∙ front) cut lacks),
)

-- ---- white space

-- white space has no other byte of ASCII
pub white-Lacks : (c : ℕ) → c < 128 → is_not_whitespace c ≡ true → (t : List ℕ) → NoCharPasses is_not_whitespace t → Lacks c t
white-Lacks c low dark t white k lt same =
    true≢false (sym dark ∙ ap is_not_whitespace (sym same) ∙ NoCharPasses-byte is_not_whitespace t k white lt (omega (arith, low, same)))
