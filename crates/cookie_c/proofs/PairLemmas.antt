-- The pieces of a header of bytes, from an offset on.
use Rattle.std.proofs.Common.{◌≡◌, ◌==◌, ◌||◌, not, ℕ, ◌+◌, ◌-◌, ◌<◌, ◌≤◌, List, [], ◌∷◌, ◌++◌, true, false, length, get_or, take, drop, slice_range, ◌⊎◌, Some, None, refl, sym, ap, subst, ◌∙◌, inl, inr, arith, length-drop}
use Rattle.std.proofs.lemmas.Bool.{cases_lt, and_from, and_left, and_right, or_from, or_left, or_right, not_from_true, not_from_false, cond-true, cond-false, false_from_ne_true}
use Rattle.std.proofs.lemmas.Bool.Decides.{nat_tests}
use Rattle.std.proofs.lemmas.List.{get_or-take, get_or-drop, length-take-le, take-append-drop, drop-drop, drop-take, take-take, drop_all, drop_more}
use Rattle.std.proofs.lemmas.Str.{is_utf8-from_IsUtf8, IsUtf8-from_is_utf8, IsUtf8-nil}
use Rattle.std.specs.Char.{is_not_whitespace}
use Rattle.std.specs.Str.{is_utf8, trim, IsUtf8, NoCharPasses}
use Rattle.cookie.proofs.GraphicLemmas.{trim-graphic}
use Rattle.cookie.proofs.PieceLemmas.{pieces-cut}
use Rattle.cookie.proofs.OffsetLemmas.{offset_of-within, white-Lacks}
use Rattle.cookie.specs.Layout.{IsLayoutIn}
use Rattle.cookie.specs.Pieces.{Lacks, offset_of, pieces}
use Rattle.cookie.specs.SentNames.{is_named_as_sent}
use Rattle.cookie.specs.Spans.{StandsIn, span_text}
use Rattle.cookie.specs.declared.Layout.{Layout}
use Rattle.cookie.specs.declared.Span.{Span}
use Rattle.cookie_c.specs.NextPiece.{IsTextOf}
use Rattle.cookie_c.specs.Pairs.{HeaderPiece, end_of, is_blank, is_skipped, mark_of, next_in, next_piece}
use Rattle.cookie_c.specs.Spans.{IsAt, IsBetween, span_after}
use mathlib.Core.Logic.{◌≢◌}

pub length-piece : (h : List ℕ) (s e : ℕ) → s ≤ e → e ≤ length h → length (slice_range h s e) ≡ e - s
length-piece h s e le last = length-take-le (e - s) (drop s h) (omega (arith, length-drop s h))

-- a text is skipped if it is blank
skipped-blank : (t : List ℕ) → IsUtf8 t → is_blank t ≡ true → is_skipped t ≡ true
skipped-blank t utf8 blank =
    and_from (is_utf8 t) (is_blank t || not (is_named_as_sent t)) (is_utf8-from_IsUtf8 t utf8) (or_left (is_blank t) (not (is_named_as_sent t)) blank)

-- or if it isn't read under the name that was sent
skipped-hidden : (t : List ℕ) → IsUtf8 t → is_named_as_sent t ≡ false → is_skipped t ≡ true
skipped-hidden t utf8 hidden =
    and_from (is_utf8 t) (is_blank t || not (is_named_as_sent t)) (is_utf8-from_IsUtf8 t utf8)
    (or_right (is_blank t) (not (is_named_as_sent t)) (not_from_false (is_named_as_sent t) hidden))

-- and else not
kept-named : (t : List ℕ) → is_blank t ≡ false → is_named_as_sent t ≡ true → is_skipped t ≡ false
kept-named t filled named =
    and_right (is_utf8 t) (is_blank t || not (is_named_as_sent t))
    (or_from (is_blank t) (not (is_named_as_sent t)) filled (not_from_true (is_named_as_sent t) named))

-- a text without a byte is skipped
no_piece : (at : ℕ) → next_in at (pieces []) ≡ None
no_piece at =
    let empty : HeaderPiece = record { start = at; bytes = [] } in
    cond-true (is_skipped []) None (Some empty) (skipped-blank [] IsUtf8-nil (ap (λ t. length t == 0) (trim-graphic [] refl)))

-- no byte of the piece is a semicolon
piece_apart : (h : List ℕ) (s e : ℕ) → s ≤ e → e ≤ length h → ((i : ℕ) → s ≤ i → i < e → get_or h i 0 ≢ 59) → Lacks 59 (slice_range h s e)
piece_apart h s e le last apart i lt q =
    let below : i < e - s = omega (arith, length-piece h s e le last) in
    apart (s + i) (omega arith) (omega arith) (sym (get_or-drop s h i 0) ∙ sym (get_or-take (e - s) (drop s h) i 0 below) ∙ q)

-- the piece, and what stands behind it: a semicolon and the rest, or nothing
behind_piece : (h : List ℕ) (s e : ℕ) → s ≤ e → e ≤ length h → (e < length h → get_or h e 0 ≡ 59)
    → (drop s h ≡ slice_range h s e ++ 59 ∷ drop (e + 1) h) ⊎ ((drop s h ≡ slice_range h s e ++ []) × (drop (e + 1) h ≡ []))
behind_piece h s e le last mark =
    let there : s + (e - s) ≡ e = omega arith in
    let split : drop s h ≡ slice_range h s e ++ drop e h =
    sym (take-append-drop (e - s) (drop s h)) ∙ ap (λ t. slice_range h s e ++ t) (drop-drop (e - s) s h ∙ ap (λ n. drop n h) there) in
    elim (cases_lt e (length h)) [
      | inl lt ↦ inl (split ∙ ap (λ t. slice_range h s e ++ t) (drop_more h e 0 lt ∙ ap (λ c. c ∷ drop (e + 1) h) (mark lt)))
      | inr ge ↦ inr (split ∙ ap (λ t. slice_range h s e ++ t) (drop_all e h ge), drop_all (e + 1) h (omega arith))
    ]

-- a part of a part
within_stands : (h : List ℕ) (s n a b : ℕ) → a ≤ b → b ≤ n → take (b - a) (drop a (take n (drop s h))) ≡ take (b - a) (drop (s + a) h)
within_stands h s n a b forward within =
    let rest : a + (n - a) ≡ n = omega arith in
    let short : b - a ≤ n - a = omega arith in
    ap (λ m. take (b - a) (drop a (take m (drop s h)))) (sym rest)
    ∙ ap (take (b - a)) (drop-take a (n - a) (drop s h) ∙ ap (take (n - a)) (drop-drop a s h))
    ∙ take-take (b - a) (n - a) (drop (s + a) h) short

differs : {n : ℕ} → n ≢ 0 → (n == 0) ≡ false
differs {n} h = grind (arith, nat_tests)

-- a span of a text that stands in the header, between two offsets
pub IsBetween-behind : (h text : List ℕ) (first start last : ℕ) (p : Span)
    → IsAt h (record { start = start; length = length text }) text → StandsIn text p
    → first ≤ start + p.start → start + p.end ≤ last → IsBetween h first last (span_after start p) (span_text text p)
IsBetween-behind h text first start last p (room, here) (forward, _, end) begins ends =
    let within : p.end ≤ length text = end.0 in
    let width : start + p.start + (p.end - p.start) ≡ start + p.end = omega arith in
    record {
      bytes = (omega arith, sym (within_stands h start (length text) p.start p.end forward within) ∙ ap (λ t. take (p.end - p.start) (drop p.start t)) here);
      begins = begins;
      ends = omega (arith, width, ends);
    }

-- the spans of a pair's layout in the header
module _ (h : List ℕ) (p : HeaderPiece) (text : List ℕ) (start next : ℕ) (is : IsTextOf h p text start next)
    (layout : Layout) (place : IsLayoutIn text layout) where
  mark : mark_of p ≡ start + offset_of 61 text
  mark = is.mark (omega (arith, place.after, place.value.0, place.value.2.0))

  pub name_span : IsBetween h p.start (mark_of p) (span_after start layout.name) (span_text text layout.name)
  name_span =
      IsBetween-behind h text p.start start (mark_of p) layout.name is.place.bytes place.name
      (omega (arith, is.place.begins)) (omega (arith, mark, place.before))

  pub value_span : IsBetween h (mark_of p + 1) (end_of p) (span_after start layout.value) (span_text text layout.value)
  value_span =
      IsBetween-behind h text (mark_of p + 1) start (end_of p) layout.value is.place.bytes place.value
      (omega (arith, mark, place.after)) (omega (arith, is.place.ends, place.value.2.0))

module _ (h : List ℕ) (s e : ℕ) (le : s ≤ e) (last : e ≤ length h)
    (apart : (i : ℕ) → s ≤ i → i < e → get_or h i 0 ≢ 59) (mark : e < length h → get_or h e 0 ≡ 59) where
  -- the piece that begins here
  abbrev pub this_piece : HeaderPiece
  this_piece = record { start = s; bytes = slice_range h s e }

  pub end-this_piece : e ≡ end_of this_piece
  end-this_piece = omega (arith, length-piece h s e le last)

  -- the pieces from here on are this one and later ones
  first_piece : (later : List (List ℕ)) × (pieces (drop s h) ≡ this_piece.bytes ∷ later)
      × (next_in (e + 1) later ≡ next_piece h (e + 1))
  unfolding next_piece
  first_piece =
      let lacks = piece_apart h s e le last apart in
      elim (behind_piece h s e le last mark) [
        | inl more ↦ (pieces (drop (e + 1) h), pieces-cut (drop s h) this_piece.bytes (Some (drop (e + 1) h)) more lacks, refl)
        | inr (all, none) ↦ ([], pieces-cut (drop s h) this_piece.bytes None all lacks, sym (ap (λ t. next_in (e + 1) (pieces t)) none ∙ no_piece (e + 1)))
      ]

  -- this one is skipped
  skipped_piece : is_skipped this_piece.bytes ≡ true → next_piece h s ≡ next_piece h (e + 1)
  unfolding next_piece
  skipped_piece b =
      let (later, is, rest) = first_piece in
      ap (next_in s) is
      ∙ cond-true (is_skipped this_piece.bytes) (next_in (s + length this_piece.bytes + 1) later) (Some this_piece) b
      ∙ ap (λ n. next_in (n + 1) later) (sym end-this_piece)
      ∙ rest

  -- or is the next one
  kept_piece : is_skipped this_piece.bytes ≡ false → next_piece h s ≡ Some this_piece
  unfolding next_piece
  kept_piece b =
      let (later, is, rest) = first_piece in
      ap (next_in s) is
      ∙ cond-false (is_skipped this_piece.bytes) (next_in (s + length this_piece.bytes + 1) later) (Some this_piece) b

  -- as it is where it isn't UTF-8
  pub other_piece : ¬ (IsUtf8 this_piece.bytes) → next_piece h s ≡ Some this_piece
  other_piece not_utf8 =
      kept_piece (and_left (is_utf8 this_piece.bytes) (is_blank this_piece.bytes || not (is_named_as_sent this_piece.bytes))
      (false_from_ne_true (is_utf8 this_piece.bytes) (λ utf8. not_utf8 (IsUtf8-from_is_utf8 this_piece.bytes utf8))))

  -- what a part of the piece is that is the whole of it, trimmed
  module _ (piece : List ℕ) (a b : ℕ) (is : piece ≡ this_piece.bytes) (utf8 : IsUtf8 this_piece.bytes)
      (trimmed : slice_range piece a b ≡ trim piece) (white : NoCharPasses is_not_whitespace (take a piece)) (within : b ≤ length piece) where
    size : a ≤ b → length (trim this_piece.bytes) ≡ b - a
    size forward = ap (λ t. length (trim t)) (sym is) ∙ ap length (sym trimmed) ∙ length-piece piece a b forward within

    -- it is blank
    pub blank_piece : a ≤ b → b ≤ a → next_piece h s ≡ next_piece h (e + 1)
    blank_piece forward back =
        let none : length (trim this_piece.bytes) ≡ 0 = size forward ∙ omega arith in
        skipped_piece (skipped-blank this_piece.bytes utf8 (ap (λ n. n == 0) none))

    -- or isn't read under the name that was sent
    pub hidden_piece : is_named_as_sent piece ≡ false → next_piece h s ≡ next_piece h (e + 1)
    hidden_piece hidden = skipped_piece (skipped-hidden this_piece.bytes utf8 (ap is_named_as_sent (sym is) ∙ hidden))

    -- or it is the text of the next piece
    pub next_text : (text : List ℕ) → text ≡ slice_range piece a b → a < b → is_named_as_sent piece ≡ true
        → (next_piece h s ≡ Some this_piece) × IsTextOf h this_piece text (s + a) (e + 1)
    next_text text same lt named =
        let forward : a ≤ b = omega arith in
        let some : length (trim this_piece.bytes) ≢ 0 = λ none. omega (arith, size forward, none) in
        let wide : length piece ≡ e - s = ap length is ∙ length-piece h s e le last in
        let here : text ≡ slice_range this_piece.bytes a b = same ∙ ap (λ t. slice_range t a b) is in
        let long : length text ≡ b - a = ap length same ∙ length-piece piece a b forward within in (
          kept_piece (kept-named this_piece.bytes (differs some) (ap is_named_as_sent (sym is) ∙ named)),
          record {
            trimmed = same ∙ trimmed ∙ ap trim is;
            place = record {
              bytes = (omega arith, ap (λ n. take n (drop (s + a) h)) long ∙ sym (within_stands h s (e - s) a b forward (omega arith)) ∙ sym here);
              begins = omega arith;
              ends = omega (arith, end-this_piece);
            };
            mark = λ found.
                let in_piece = offset_of-within 61 piece a b within (white-Lacks 61 (omega arith) refl (take a piece) white) (subst (λ t. offset_of 61 t < length t) same found) in
                omega (arith, ap (offset_of 61) (sym is) ∙ in_piece, ap (offset_of 61) same);
            next = ap (λ n. n + 1) end-this_piece;
          },
        )

-- after the end of the header there is no piece
pub none_behind : (h : List ℕ) (s : ℕ) → length h < s → next_piece h s ≡ None
unfolding next_piece
none_behind h s lt = ap (λ t. next_in s (pieces t)) (drop_all s h (omega arith)) ∙ no_piece s
