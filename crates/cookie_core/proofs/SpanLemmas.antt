-- Spans of a text, and spans within them.
use Rattle.std.proofs.Common.{◌≡◌, ℕ, ◌+◌, ◌-◌, ◌<◌, ◌≤◌, List, ◌∷◌, ◌++◌, length, get_or, take, drop, slice_range, suc, Option, Some, None, IfSome, MatchOption, option_map, refl, sym, ap, ◌∙◌, subst, inl, inr, arith, length-drop, length-append}
use Rattle.std.proofs.lemmas.Bool.{cases_lt}
use Rattle.std.proofs.lemmas.List.{length-take, length-take-le, get_or-take, take-take, drop-take, drop-drop, drop_all, take_all}
use Rattle.std.proofs.lemmas.Str.{IsCharBoundary-start, IsCharBoundary-end, IsCharBoundary-from_drop, IsCharBoundary-from_take, IsCharBoundary-from_rest}
use Rattle.std.proofs.Math.Seq.{drop-length}
use Rattle.std.specs.Char.{is_not_whitespace}
use Rattle.std.specs.Str.{IsUtf8, IsCharBoundary, IsTrimStart, IsTrimEnd, NoCharPasses}
use mathlib.Core.Logic.{◌≢◌}
use Rattle.cookie_core.specs.Pieces.{Lacks}
use Rattle.cookie_core.specs.Parts.{part_text, IsPartOf, IsOptionalPartOf}
use Rattle.cookie_core.specs.Spans.{StandsIn, span_text}
use Rattle.cookie_core.specs.Walk.{behind}
use Rattle.cookie_core.specs.declared.part.Part.{Part}
use Rattle.cookie_core.specs.declared.span.Span.{Span}
use Rattle.cookie_core.proofs.ReadingLemmas.{behind-cut}

-- the span at these places
abbrev pub span : ℕ → ℕ → Span
span i j = record { start = i; end = j }

-- a span's text is as long as the span
pub length-span_text : (s : List ℕ) (p : Span) → StandsIn s p → length (span_text s p) ≡ p.end - p.start
length-span_text s p (le, a, b) =
    let last : p.end ≤ length s = b.0 in
    length-take-le (p.end - p.start) (drop p.start s) (omega (arith, length-drop p.start s))

-- what stands in a span ends where the span does, or before
pub within_end : (s : List ℕ) (p q : Span) → StandsIn s p → StandsIn (span_text s p) q → p.start + q.end ≤ p.end
within_end s p q h (le, a, b) =
    let low : q.end ≤ length (span_text s p) = b.0 in
    let forward : p.start ≤ p.end = h.0 in
    omega (arith, length-span_text s p h)

-- the span q of the span p, in the whole text
abbrev within : Span → Span → Span
within p q = span (p.start + q.start) (p.start + q.end)

pub span_text-within : (s : List ℕ) (p q : Span) → StandsIn s p → StandsIn (span_text s p) q → span_text s (within p q) ≡ span_text (span_text s p) q
span_text-within s p q h k =
    let forward : q.start ≤ q.end = k.0 in
    let end : p.start + q.end ≤ p.end = within_end s p q h k in
    let width : p.start + q.end - (p.start + q.start) ≡ q.end - q.start = omega arith in
    let rest : q.start + (p.end - p.start - q.start) ≡ p.end - p.start = omega arith in
    let short : q.end - q.start ≤ p.end - p.start - q.start = omega arith in
    let inner : drop q.start (span_text s p) ≡ take (p.end - p.start - q.start) (drop q.start (drop p.start s)) =
    ap (λ n. drop q.start (take n (drop p.start s))) (sym rest) ∙ drop-take q.start (p.end - p.start - q.start) (drop p.start s) in
    let inside : span_text (span_text s p) q ≡ take (q.end - q.start) (drop (p.start + q.start) s) =
    ap (take (q.end - q.start)) inner ∙ take-take (q.end - q.start) (p.end - p.start - q.start) (drop q.start (drop p.start s)) short ∙ ap (take (q.end - q.start)) (drop-drop q.start p.start s) in
    ap (λ n. take n (drop (p.start + q.start) s)) width ∙ sym inside

-- ---- all of a text, and its parts before and behind a mark

pub StandsIn-all : (t : List ℕ) → IsUtf8 t → StandsIn t (span 0 (length t))
StandsIn-all t u = (omega arith, IsCharBoundary-start t u, IsCharBoundary-end t)

pub slice_range-front : (t : List ℕ) (n : ℕ) → slice_range t 0 n ≡ take n t
slice_range-front t n = let z : n - 0 ≡ n = omega arith in rw z refl

pub Lacks-front : (c : ℕ) (t : List ℕ) (n : ℕ) (r : List ℕ) → r ≡ take n t → ((i : ℕ) → i < n → get_or t i 0 ≢ c) → Lacks c r
Lacks-front c t n r e h i lt q =
    let below : i < n = omega (arith, ap length e, length-take n t) in
    h i below (sym (get_or-take n t i 0 below) ∙ ap (λ x. get_or x i 0) (sym e) ∙ q)

pub Lacks-before : (c : ℕ) (t : List ℕ) (n : ℕ) → ((i : ℕ) → i < n → get_or t i 0 ≢ c) → Lacks c (span_text t (span 0 n))
Lacks-before c t n h = Lacks-front c t n _ (slice_range-front t n) h

-- ---- a text without the white space at its ends

drop_by_length : (t : List ℕ) (n : ℕ) (r : List ℕ) → r ≡ drop n t → r ≡ drop (length t - length r) t
drop_by_length t n r e =
    let k : length r ≡ length t - n = ap length e ∙ length-drop n t in
    elim (cases_lt n (length t)) [
      | inl lt ↦ let m : length t - length r ≡ n = omega arith in rw m e
      | inr ge ↦ let m : length t - length r ≡ length t = omega arith in rw (m, drop-length t) (e ∙ drop_all n t ge)
    ]

-- what was cut off the front is white space
pub white_before : (t kept : List ℕ) → IsTrimStart t kept → NoCharPasses is_not_whitespace (take (length t - length kept) t)
white_before t kept (n, e, white, _, bound) =
    let k : length kept ≡ length t - n = ap length e ∙ length-drop n t in
    elim (cases_lt n (length t)) [
      | inl lt ↦ let m : n ≡ length t - length kept = omega arith in subst (λ i. NoCharPasses is_not_whitespace (take i t)) m white
      | inr ge ↦
          let low : length t ≤ length t - length kept = omega arith in
          subst (NoCharPasses is_not_whitespace) (take_all n t ge ∙ sym (take_all (length t - length kept) t low)) white
    ]

-- what is left of t where what is left of its front is `kept`, and what is left of that is r
pub span_text-trimmed : (t kept r : List ℕ) → IsTrimStart t kept → IsTrimEnd kept r → span_text t (span (length t - length kept) (length t - length kept + length r)) ≡ r
span_text-trimmed t kept r (n, e, _, _, bound) (m, f, _, _, l, le) =
    let start = length t - length kept in
    let width : start + length r - start ≡ m = omega (arith, l) in
    rw (width, ← drop_by_length t n kept e) (sym f)

pub StandsIn-trimmed : (t kept r : List ℕ) → IsTrimStart t kept → IsUtf8 kept → IsTrimEnd kept r → IsUtf8 r → StandsIn t (span (length t - length kept) (length t - length kept + length r))
StandsIn-trimmed t kept r (n, e, _, _, bound) u (m, f, _, _, l, le) w =
    let here : kept ≡ drop (length t - length kept) t = drop_by_length t n kept e in
    let low : length t - length kept ≤ length t = omega arith in
    let last : IsCharBoundary kept (length r) = rw l (IsCharBoundary-from_take kept m u le (rw f at w)) in (
      omega arith,
      IsCharBoundary-from_drop t (length t - length kept) low (subst IsUtf8 here u),
      IsCharBoundary-from_rest t (length t - length kept) (length r) low (subst (λ k. IsCharBoundary k (length r)) here last),
    )

-- ---- parts

pub StandsIn-part : (s : List ℕ) (p : Part) → IsPartOf s p → StandsIn s p.span
StandsIn-part s p e = subst (λ t. StandsIn t p.span) e p.stands

-- a part has the same bytes in its text
pub span_text-part : (s : List ℕ) (p : Part) → IsPartOf s p → span_text s p.span ≡ part_text p
span_text-part s p e = ap (λ t. span_text t p.span) (sym e)

-- so does the rest behind a part
rest_text : (s : List ℕ) (o : Option Part) → IsOptionalPartOf s o → option_map (span_text s) (option_map (λ (p : Part). p.span) o) ≡ option_map part_text o
rest_text s None h = refl
rest_text s (Some p) h = ap Some (span_text-part s p h)

rest_stands : (s : List ℕ) (o : Option Part) → IsOptionalPartOf s o → IfSome (option_map (λ (p : Part). p.span) o) (StandsIn s)
rest_stands s None h = tt
rest_stands s (Some p) h = StandsIn-part s p h

-- what stands behind a part, where it is passed on as a span
pub rest-part : (s : List ℕ) (o : Option Part) (rest : Option Span) → IsOptionalPartOf s o → rest ≡ option_map (λ (q : Part). q.span) o → (option_map part_text o ≡ option_map (span_text s) rest) × IfSome rest (StandsIn s)
rest-part s o rest here is =
    (sym (ap (option_map (span_text s)) is ∙ rest_text s o here), subst (λ r. IfSome r (StandsIn s)) (sym is) (rest_stands s o here))

-- what a cut of a part leaves, where its rest is passed on as a span
pub after-cut : (s : List ℕ) (p : Span) (all first : Part) (o : Option Part) (rest : Option Span) → IsPartOf s all → part_text all ≡ span_text s p → MatchOption o (part_text first ≡ part_text all) (λ after. part_text all ≡ part_text first ++ 59 ∷ part_text after) → IsOptionalPartOf all.whole.now o → rest ≡ option_map (λ (q : Part). q.span) o
    → (span_text s p ≡ part_text first ++ behind (option_map (span_text s) rest)) × IfSome rest (StandsIn s)
after-cut s p all first o rest e text cut h is =
    let here : IsOptionalPartOf s o = subst (λ t. IsOptionalPartOf t o) e h in
    let same : option_map (span_text s) rest ≡ option_map part_text o = ap (option_map (span_text s)) is ∙ rest_text s o here in
    (sym text ∙ behind-cut _ _ o cut ∙ ap (λ r. part_text first ++ behind r) (sym same), subst (λ r. IfSome r (StandsIn s)) (sym is) (rest_stands s o here))

-- how much of a text is left
abbrev pub left_length : List ℕ → Option Span → ℕ
left_length s None = 0
left_length s (Some p) = suc (length (span_text s p))

pub left_length-cut : (s : List ℕ) (p : Span) (piece : List ℕ) (rest : Option Span) → span_text s p ≡ piece ++ behind (option_map (span_text s) rest) → left_length s rest < left_length s (Some p)
left_length-cut s p piece None e = omega arith
left_length-cut s p piece (Some q) e = omega (arith, ap length e, length-append piece (59 ∷ span_text s q))
