-- All pairs of a header, taken in one after the other.
use Rattle.std.proofs.Common.{◌≡◌, ℕ, ◌+◌, ◌<◌, ◌≤◌, List, [], ◌∷◌, ◌++◌, length, Option, Some, None, Err, true, IsUtf8, inl, inr, refl, sym, ap, subst, ◌∙◌, arith}
use Rattle.std.proofs.lemmas.Bool.{cases_Bool, cases_lt, cond-true, cond-false}
use Rattle.std.proofs.lemmas.List.{append-nil}
use Rattle.std.proofs.lemmas.Option.{none-some, same_Some}
use Rattle.std.specs.Str.{trim}
use Rattle.cookie.specs.Decoding.{ReadsInMemory}
use Rattle.cookie.specs.Reads.{Reads as Reading}
use Rattle.cookie.specs.declared.ParseError.{ParseError}
use Rattle.cookie.specs.declared.ParseError.TheVariants as errors
use Rattle.cookie_c.specs.AllPairs.{ArePairsFrom, TakesNext, TakesPiece}
use Rattle.cookie_c.specs.Codes.{refusal_status}
use Rattle.cookie_c.specs.Pairs.{HeaderPiece, is_skipped, next_in, next_piece, refused_pair, rest_after}
use Rattle.cookie_c.specs.declared.all_pairs.decoded_pairs.DecodedPairs.{DecodedPairs}
use Rattle.cookie_c.specs.declared.pair.Pair.{Pair}
use Rattle.cookie_c.specs.declared.status.Status.{Status}
use Rattle.cookie_c.specs.declared.status.Status.TheVariants as status
use Rattle.cookie_c.proofs.PairLemmas.{none_behind}

-- the first piece that isn't skipped begins no earlier than the pieces
next_in-forward : (start : ℕ) (ps : List (List ℕ)) (p : HeaderPiece) → next_in start ps ≡ Some p → start ≤ p.start
next_in-forward start [] p e = absurd (none-some p e)
next_in-forward start (b ∷ later) p e =
    let rest = next_in (start + length b + 1) later in
    let this : HeaderPiece = record { start = start; bytes = b } in
    elim (cases_Bool (is_skipped b)) [
      | inl skipped ↦ let begins = next_in-forward (start + length b + 1) later p (sym (cond-true (is_skipped b) rest (Some this) skipped) ∙ e) in omega (arith, begins)
      | inr kept ↦ let same = same_Some this p (sym (cond-false (is_skipped b) rest (Some this) kept) ∙ e) in omega (arith, ap (λ (x : HeaderPiece). x.start) same)
    ]

-- the next piece begins at the offset or after it, and the offset is within the header
pub next_piece-forward : (h : List ℕ) (from : ℕ) (p : HeaderPiece) → next_piece h from ≡ Some p → (from < rest_after p) × (from ≤ length h)
unfolding next_piece
next_piece-forward h from p e = (
  let begins = next_in-forward from _ p e in omega (arith, begins),
  elim (cases_lt (length h) from) [
    | inl past ↦ absurd (none-some p (sym (none_behind h from past) ∙ e))
    | inr within ↦ within
  ],
)

-- the pairs so far, with those that are read from here on, are the header's
abbrev pub ReadsSoFar : List ℕ → ℕ → List Pair → List ℕ → Type 0
ReadsSoFar header from taken text =
    (pairs : List Pair) (rest : List ℕ) → ArePairsFrom header from (length text) pairs rest
    → ArePairsFrom header 0 0 (taken ++ pairs) (text ++ rest)

pub reads_all : (header : List ℕ) (from : ℕ) (taken : List Pair) (text : List ℕ) → ReadsSoFar header from taken text → next_piece header from ≡ None
    → ArePairsFrom header 0 0 taken text
reads_all header from taken text so_far none =
    subst (λ ps. ArePairsFrom header 0 0 ps text) (append-nil taken)
    (subst (λ t. ArePairsFrom header 0 0 (taken ++ []) t) (append-nil text) (so_far [] [] (none, refl)))

-- nothing more is taken in
pub reads_end : (header : List ℕ) (from : ℕ) (old new : DecodedPairs) (next : Option ℕ) → ReadsSoFar header from old.pairs.items old.text.items
    → TakesNext header from old new next → ((n : ℕ) → ¬ (next ≡ Some n)) → ArePairsFrom header 0 0 new.pairs.items new.text.items
reads_end header from old new None so_far (none, same) _ =
    subst (λ (d : DecodedPairs). ArePairsFrom header 0 0 d.pairs.items d.text.items) (sym same) (reads_all header from old.pairs.items old.text.items so_far none)
reads_end header from old new (Some n) so_far taken never = absurd (never n refl)

-- what a text is refused as, if memory didn't run out
reads_sure : (text : List ℕ) (error : ParseError) → ReadsInMemory true text (Err error) → ¬ (refusal_status error ≡ status.OutOfMemory)
    → Reading true text (Err error)
reads_sure text errors.MissingPair reads sure = reads
reads_sure text errors.EmptyName reads sure = reads
reads_sure text (errors.Utf8Error e) reads sure = reads
reads_sure text errors.OutOfMemory reads sure = absurd (sure refl)

module _ (piece : HeaderPiece) (next : ℕ) (old new : DecodedPairs) (at : next ≡ rest_after piece) where
  -- a piece that isn't UTF-8 is taken in
  pub takes_other : ¬ (IsUtf8 piece.bytes) → new.pairs.items ≡ old.pairs.items ++ refused_pair status.NotUtf8 next ∷ []
      → new.text.items ≡ old.text.items → TakesPiece piece old new
  takes_other bad added same =
      (refused_pair status.NotUtf8 next, [], inr (inl (bad, ap (refused_pair status.NotUtf8) at), refl), added, same ∙ sym (append-nil old.text.items))

  -- a text that is refused is
  pub takes_refused : (text : List ℕ) (error : ParseError) (why : Status) → text ≡ trim piece.bytes → IsUtf8 piece.bytes → why ≡ refusal_status error
      → ¬ (why ≡ status.OutOfMemory) → ReadsInMemory true text (Err error) → new.pairs.items ≡ old.pairs.items ++ refused_pair why next ∷ []
      → new.text.items ≡ old.text.items → TakesPiece piece old new
  takes_refused text error why is utf8 said sure reads added same =
      let certain = reads_sure text error reads (λ e. sure (said ∙ e)) in (
        refused_pair why next,
        [],
        inr (
          inr (utf8, (error, subst (λ t. Reading true t (Err error)) is certain, ap (λ w. refused_pair w next) said ∙ ap (refused_pair (refusal_status error)) at)),
          refl,
        ),
        added,
        same ∙ sym (append-nil old.text.items),
      )
