-- The one list of pieces of a text, and the texts of a header.
use Rattle.std.proofs.Common.{◌≡◌, ◌==◌, ◌≤◌, true, false, not, cond, ℕ, suc, List, [], ◌∷◌, ◌++◌, length, map, get_or, Option, Some, None, refl, sym, ap, ◌∙◌, arith}
use Rattle.std.proofs.lemmas.Bool.Decides.{nat_tests}
use Rattle.std.proofs.lemmas.List.{append-nil, get_or_default, length-map}
use Rattle.std.proofs.lemmas.List.Sums.{count_by-le-length, length-filter}
use Rattle.std.proofs.lemmas.List.Splits.{slice_split_none, slice_split_at, length-slice_split}
use Rattle.std.specs.List.{All, count_by}
use Rattle.std.specs.Str.{trim}
use Rattle.cookie_core.specs.Header.{kept_texts, header_texts, IsHeaderTexts}
use Rattle.cookie_core.specs.Pieces.{Lacks, joined_pieces, IsPieces, pieces}
use Rattle.cookie_core.specs.SplitCookies.{texts_left}
use Rattle.cookie_core.specs.Walk.{behind, before_rest}
use Rattle.cookie_core.proofs.ReadingLemmas.{first_piece, pieces_of, tail_pieces}

differs : (x c : ℕ) → (x ≡ c → ⊥) → (x == c) ≡ false
differs x c h = grind (arith, nat_tests)

All-Lacks : (c : ℕ) (s : List ℕ) → Lacks c s → All (λ x. (x == c) ≡ false) s
All-Lacks c s h i d lt = rw (get_or_default s i d 0 lt) (differs (get_or s i 0) c (h i lt))

-- the pieces of the rest of a text
abbrev pub pieces_left : Option (List ℕ) → List (List ℕ)
pieces_left None = []
pieces_left (Some t) = pieces t

pub pieces-cut : (t p : List ℕ) (o : Option (List ℕ)) → t ≡ p ++ behind o → Lacks 59 p → pieces t ≡ p ∷ pieces_left o
pieces-cut t p None e l = rw (e, append-nil p) (slice_split_none (λ b. b == 59) p (All-Lacks 59 p l))
pieces-cut t p (Some u) e l = rw e (slice_split_at (λ b. b == 59) p 59 u (All-Lacks 59 p l) refl)

pub IsPieces-pieces : (t p : List ℕ) (ps : List (List ℕ)) → IsPieces t p ps → pieces t ≡ p ∷ ps
IsPieces-pieces t p [] h = rw h.joined (slice_split_none (λ b. b == 59) p (All-Lacks 59 p h.first))
IsPieces-pieces t p (q ∷ qs) h =
    rw h.joined (slice_split_at (λ b. b == 59) p 59 (joined_pieces 59 q qs) (All-Lacks 59 p h.first) refl ∙ ap (λ us. p ∷ us) (IsPieces-pieces (joined_pieces 59 q qs) q qs (tail_pieces t p q qs h)))

pub IsHeaderTexts-header_texts : (t : List ℕ) → IsHeaderTexts t (header_texts t)
IsHeaderTexts-header_texts t =
    let q = pieces_of t in
    let i : IsPieces t q.0 q.1 = first_piece t q.0 (before_rest q.1 None) q.2 q.3 q.1 refl q.4 in
    (q.0, q.1, i, ap kept_texts (IsPieces-pieces t q.0 q.1 i))

kept_texts-length : (ps : List (List ℕ)) → length (kept_texts ps) ≤ length ps
kept_texts-length ps =
    omega (arith, length-filter (λ x. not (length x == 0)) (map trim ps), count_by-le-length (λ x. not (length x == 0)) (map trim ps), length-map ps trim)

pub header_texts-count : (t : List ℕ) → length (header_texts t) ≤ suc (count_by (λ b. b == 59) t)
header_texts-count t = omega (arith, kept_texts-length (pieces t), length-slice_split (λ b. b == 59) t)

texts_left-kept_texts : (o : Option (List ℕ)) → texts_left o ≡ kept_texts (pieces_left o)
texts_left-kept_texts None = refl
texts_left-kept_texts (Some t) = refl

-- a blank piece is skipped
pub header_texts-blank : (t p : List ℕ) (o : Option (List ℕ)) → t ≡ p ++ behind o → Lacks 59 p → (length (trim p) == 0) ≡ true → header_texts t ≡ texts_left o
header_texts-blank t p o e l b =
    ap kept_texts (pieces-cut t p o e l) ∙ ap (λ x. cond (not x) (trim p ∷ kept_texts (pieces_left o)) (kept_texts (pieces_left o))) b ∙ sym (texts_left-kept_texts o)

-- another piece is the first text
pub header_texts-filled : (t p : List ℕ) (o : Option (List ℕ)) → t ≡ p ++ behind o → Lacks 59 p → (length (trim p) == 0) ≡ false → header_texts t ≡ trim p ∷ texts_left o
header_texts-filled t p o e l b =
    ap kept_texts (pieces-cut t p o e l) ∙ ap (λ x. cond (not x) (trim p ∷ kept_texts (pieces_left o)) (kept_texts (pieces_left o))) b ∙ ap (λ us. trim p ∷ us) (sym (texts_left-kept_texts o))
