-- Rows whose rowids rise when a query shows them have a rowid each.
use Rattle.std.proofs.Common.{◌≡◌, ℕ, ◌+◌, ◌<◌, add-one, drop-cons, get_or, length, inl, inr, ℤ, List, [], ◌∷◌, drop, Some, None, Option, IsTrue, int_lt, refl, sym, ap, subst, ◌∙◌, arith}
use Rattle.std.proofs.lemmas.Int.{ints}
use Rattle.sqlite.specs.Order.{Row, column}
use Rattle.sqlite.specs.Tree.{rowid}
use Rattle.sqlite.specs.declared.types.Value.TheVariants.{Int}
use Rattle.sqlite_rules.specs.Lists.{Has}
use Rattle.session_revocations.specs.Rowids.{AreRising, HasRowids, IsAfter}
use Rattle.session_revocations.proofs.AnswerLemmas.{Shows}
use Rattle.session_revocations.proofs.TextLemmas.{keyed}

-- a row shown begins with two integers
numbers_of : (last : Option ℤ) (found : List Row) (f : Row) → AreRising last found → Has found f → (n : ℤ) × (until : ℤ) × (column f 0 ≡ Int n) × (column f 1 ≡ Int until)
numbers_of last [] f up h = absurd h
numbers_of last (g ∷ found) f up (inl same) = (up.0, up.1, ap (λ (r : Row). column r 0) same ∙ up.2, ap (λ (r : Row). column r 1) same ∙ up.3)
numbers_of last (g ∷ found) f up (inr later) = numbers_of (Some up.0) found f up.5 later

int_same : (m n : ℤ) → Int m ≡ Int n → m ≡ n
int_same m n e = cc

lt_trans : (a b c : ℤ) → IsTrue (int_lt a b) → IsTrue (int_lt b c) → IsTrue (int_lt a c)
lt_trans a b c p q = grind (arith, ints)

lt_never : (a : ℤ) → IsTrue (int_lt a a) → ⊥
lt_never a p = grind (arith, ints)

-- and each after the number that the rows rise from
above : (last : ℤ) (found : List Row) (f : Row) (n : ℤ) → AreRising (Some last) found → Has found f → column f 0 ≡ Int n → IsTrue (int_lt last n)
above last [] f n up h is = absurd h
above last (g ∷ found) f n up (inl same) is =
    subst (λ m. IsTrue (int_lt last m)) (int_same up.0 n (sym up.2 ∙ ap (λ (r : Row). column r 0) (sym same) ∙ is)) up.4
above last (g ∷ found) f n up (inr later) is = lt_trans last up.0 n up.4 (above up.0 found f n up.5 later is)

-- so rows of one rowid are one row
same_shown : (last : Option ℤ) (found : List Row) (f g : Row) → AreRising last found → Has found f → Has found g → column f 0 ≡ column g 0 → f ≡ g
same_shown last [] f g up h k e = absurd h
same_shown last (x ∷ found) f g up (inl p) (inl q) e = p ∙ sym q
same_shown last (x ∷ found) f g up (inl p) (inr k) e =
    absurd (lt_never up.0 (above up.0 found g up.0 up.5 k (sym e ∙ ap (λ (r : Row). column r 0) p ∙ up.2)))
same_shown last (x ∷ found) f g up (inr h) (inl q) e =
    absurd (lt_never up.0 (above up.0 found f up.0 up.5 h (e ∙ ap (λ (r : Row). column r 0) q ∙ up.2)))
same_shown last (x ∷ found) f g up (inr h) (inr k) e = same_shown (Some up.0) found f g up.5 h k e

-- a table of which the query shows such rows
pub rowids_from : (rows found : List Row) → Shows [] keyed [] rows found → AreRising None found → HasRowids rows
rowids_from rows found shows up = record {
  numbers = λ r h. numbers_of None found (rowid r ∷ column r 2 ∷ []) up (shows.all r h refl);
  alike = λ r s h k e.
      ap (λ (x : Row). column x 1) (same_shown None found (rowid r ∷ column r 2 ∷ []) (rowid s ∷ column s 2 ∷ []) up (shows.all r h refl) (shows.all s k refl) e);
}

-- one more row of the list rises
pub rises_on : (last : Option ℤ) (rows : List Row) (at : ℕ) (r : Row) (n until : ℤ) → at < length rows → r ≡ get_or rows at r → column r 0 ≡ Int n → column r 1 ≡ Int until → IsAfter last n
    → AreRising (Some n) (drop (at + 1) rows) → AreRising last (drop at rows)
rises_on last rows at r n until within is first second after later =
    let all : drop at rows ≡ get_or rows at r ∷ drop (at + 1) rows = drop-cons rows at r within ∙ ap (λ k. get_or rows at r ∷ drop k rows) (sym (add-one at)) in
    subst (AreRising last) (sym all) (subst (λ (x : Row). AreRising last (x ∷ drop (at + 1) rows)) is (n, until, first, second, after, later))
