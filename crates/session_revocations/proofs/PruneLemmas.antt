-- The rows without those whose rowids a query shows.
use Rattle.std.proofs.Common.{◌≡◌, inl, inr, ℕ, ℤ, pos, negsuc, ◌+ℤ◌, List, [], ◌∷◌, Bool, true, false, not, ◌&&◌, int_le, refl, sym, ap, subst, ◌∙◌, arith}
use Rattle.std.proofs.lemmas.Bool.{and_from, and_parts, cases_Bool, false_from_ne_true, not-true, true≢false}
use Rattle.std.proofs.lemmas.Bool.Decides.{nat_tests}
use Rattle.std.proofs.lemmas.Cmp.{tied_itself}
use Rattle.std.specs.List.{list_all, list_any}
use Rattle.std.specs.Ordering.{int_cmp, is_eq, is_le}
use Rattle.sqlite.specs.Collation.TheVariants.{Binary}
use Rattle.sqlite.specs.Edit.{id_in, without_all}
use Rattle.sqlite.specs.Ops.{binary, is_true}
use Rattle.sqlite.specs.Order.{Row, column}
use Rattle.sqlite.specs.Term.{col, holds}
use Rattle.sqlite.specs.Tree.{has_rowid, rowid, without_rowid}
use Rattle.sqlite.specs.declared.types.Value.TheVariants.{Int}
use Rattle.sqlite_rules.proofs.ListLemmas.{has_filtered, has_kept, some_from, some_has}
use Rattle.sqlite_rules.proofs.ProbeLemmas.{has_mapped, mapped_has}
use Rattle.sqlite_rules.specs.Calls.{ids_of}
use Rattle.sqlite_rules.specs.Lists.{Has}
use Rattle.sqlite_sql.specs.declared.ops.BinaryOp.TheVariants.{Compare}
use Rattle.sqlite_sql.specs.declared.ops.CompareOp.TheVariants.{Le}
use Rattle.sqlite_value.proofs.OrderLemmas.{value_cmp-Int, value_cmp_total}
use Rattle.sqlite_value.specs.Order.{value_cmp}
use Rattle.session_revocations.specs.Revoked.{IsPruned, has_id, is_since, lasts}
use Rattle.session_revocations.specs.Rowids.{HasRowids}
use Rattle.session_revocations.proofs.AnswerLemmas.{Shows}
use Rattle.session_revocations.proofs.RowLemmas.{and_true, since_earlier, since_int, truth_is}
use Rattle.session_revocations.proofs.TextLemmas.{past}

same_test : (a b : Bool) → (a ≡ true → b ≡ true) → (b ≡ true → a ≡ true) → a ≡ b
same_test true b f g = sym (f refl)
same_test false true f g = g refl
same_test false false f g = refl

-- no row has one of these rowids
abbrev Lacks : List ℤ → Row → Type 0
Lacks ids x = (id : ℤ) → Has ids id → has_rowid id x ≡ false

left_from : (ids : List ℤ) (rows : List Row) (x : Row) → Has (without_all rows ids) x → Has rows x × Lacks ids x
left_from [] rows x h = (h, λ id none. absurd none)
left_from (id ∷ ids) rows x h =
    let r = left_from ids (without_rowid id rows) x h in
    let was = has_filtered (λ y. not (has_rowid id y)) rows x r.0 in
    (was.0, λ other k. elim k [ inl e ↦ rw e (not-true _ was.1) | inr more ↦ r.1 other more ])

left_has : (ids : List ℤ) (rows : List Row) (x : Row) → Has rows x → Lacks ids x → Has (without_all rows ids) x
left_has [] rows x h lacks = h
left_has (id ∷ ids) rows x h lacks = left_has ids (without_rowid id rows) x (has_kept (λ y. not (has_rowid id y)) rows x h (ap not (lacks id (inl refl)))) (λ other k. lacks other (inr k))

is_le-int_cmp : (m n : ℤ) → is_le (int_cmp m n) ≡ int_le m n
is_le-int_cmp (pos m) (pos n) = grind (arith, nat_tests)
is_le-int_cmp (pos m) (negsuc n) = refl
is_le-int_cmp (negsuc m) (pos n) = refl
is_le-int_cmp (negsuc m) (negsuc n) = grind (arith, nat_tests)

int_cmp-same : (m n : ℤ) → is_eq (int_cmp m n) ≡ true → m ≡ n
int_cmp-same (pos m) (pos n) h = ap pos (grind (arith, nat_tests))
int_cmp-same (pos m) (negsuc n) h = absurd cc
int_cmp-same (negsuc m) (pos n) h = absurd cc
int_cmp-same (negsuc m) (negsuc n) h = ap negsuc (grind (arith, nat_tests))

-- SQL's <= of two integers
past_int : (n now : ℤ) → is_true (binary (Compare Le Binary) (Int n) (Int now)) ≡ int_le n now
unfolding binary
past_int n now = truth_is (is_le (value_cmp (Int n) (Int now))) ∙ ap is_le (value_cmp-Int n now) ∙ is_le-int_cmp n now

pub next_above : (n now : ℤ) → int_le (now +ℤ pos 1) n ≡ not (int_le n now)
next_above n now = grind (arith, nat_tests)

le_total : (a b : ℤ) → int_le a b ≡ false → int_le b a ≡ true
le_total a b h = grind (arith, nat_tests)

-- Of rows with rowids of their own, those are deleted that have passed.
module _ (now : ℤ) (rows found : List Row) (has : HasRowids rows) (s : Shows past (col 1 0 ∷ []) (Int now ∷ []) rows found) where
  abbrev from : ℤ
  from = now +ℤ pos 1

  abbrev is_intact : Row → Bool
  is_intact r = is_since from (column r 2)

  passes : (r : Row) → Has rows r → list_all (holds ((Int now ∷ []) ∷ r ∷ [])) past ≡ not (is_intact r)
  passes r h =
      let it = has.numbers r h in
      let test : is_true (binary (Compare Le Binary) (column r 2) (Int now)) ≡ int_le it.1 now = rw it.3 (past_int it.1 now) in
      let kept : is_intact r ≡ not (int_le it.1 now) = rw it.3 (since_int it.1 from) ∙ next_above it.1 now in
      and_true _ ∙ test ∙ twice (int_le it.1 now) ∙ ap not (sym kept)
    where
      twice : (b : Bool) → b ≡ not (not b)
      twice true = refl
      twice false = refl

  own : (r : Row) → Has rows r → has_rowid (id_in (rowid r)) r ≡ true
  own r h = let it = has.numbers r h in rw (it.2, tied_itself value_cmp_total (Int it.0))

  gone : (x : Row) → Has (without_all rows (ids_of found)) x → Has rows x × (is_intact x ≡ true)
  gone x h =
      let it = left_from (ids_of found) rows x h in (
        it.0,
        elim (cases_Bool (is_intact x)) [
          | inl t ↦ t
          | inr f ↦ absurd (
              let shown = s.all x it.0 (passes x it.0 ∙ ap not f) in
              let taken = mapped_has (λ (y : Row). id_in (rowid y)) found (rowid x ∷ []) shown in
              true≢false (sym (own x it.0) ∙ it.1 (id_in (rowid x)) taken))
        ],
      )

  same_id : (r x : Row) → Has rows r → Has rows x → has_rowid (id_in (rowid r)) x ≡ true → rowid x ≡ rowid r
  same_id r x h k t =
      let a = has.numbers r h in
      let b = has.numbers x k in
      let tie : is_eq (int_cmp b.0 a.0) ≡ true = ap is_eq (sym (value_cmp-Int b.0 a.0)) ∙ (rw (b.2, a.2) at t) in
      b.2 ∙ ap Int (int_cmp-same b.0 a.0 tie) ∙ sym a.2

  stays : (x : Row) → Has rows x → is_intact x ≡ true → Has (without_all rows (ids_of found)) x
  stays x h kept = left_has (ids_of found) rows x h (λ id k. false_from_ne_true _ (λ t.
      let f = has_mapped (λ (y : Row). id_in (rowid y)) found id k in
      let r = s.only f.0 f.1 in
      let is : id ≡ id_in (rowid r.0) = f.2 ∙ ap (λ (y : Row). id_in (rowid y)) r.3 in
      let one = same_id r.0 x r.1 h (subst (λ i. has_rowid i x ≡ true) is t) in
      let same : is_intact x ≡ is_intact r.0 = ap (is_since from) (has.alike x r.0 h r.1 one) in
      let past : not (is_intact r.0) ≡ true = sym (passes r.0 r.1) ∙ r.2 in
      true≢false (sym kept ∙ same ∙ not-true _ past)))

  any_left : (q : Row → Bool) → list_any q (without_all rows (ids_of found)) ≡ list_any (λ r. q r && is_intact r) rows
  any_left q = same_test _ _
      (λ h. let x = some_has q _ h in let it = gone x.0 x.1 in some_from (λ r. q r && is_intact r) rows x.0 it.0 (and_from _ _ x.2 it.1))
      (λ h. let x = some_has (λ r. q r && is_intact r) rows h in let it = and_parts _ _ x.2 in some_from q _ x.0 (stays x.0 x.1 it.1) it.0)

  both_any : (id : List ℕ) (second : ℤ) → list_any (λ r. lasts id second r && is_intact r) rows ≡ (list_any (lasts id from) rows && list_any (lasts id second) rows)
  both_any id second = same_test _ _
      (λ h. let x = some_has (λ r. lasts id second r && is_intact r) rows h in
      let r = x.0 in
      let it = and_parts (lasts id second r) (is_intact r) x.2 in
      let named = and_parts (has_id id r) (is_since second (column r 2)) it.0 in
      and_from _ _ (some_from (lasts id from) rows r x.1 (and_from (has_id id r) (is_intact r) named.0 it.1)) (some_from (lasts id second) rows r x.1 it.0))
      (λ h. let two = and_parts (list_any (lasts id from) rows) (list_any (lasts id second) rows) h in
      elim (cases_Bool (int_le second from)) [
        | inl le ↦ let x = some_has (lasts id from) rows two.0 in
            let r = x.0 in
            let it = and_parts (has_id id r) (is_intact r) x.2 in
            let long = since_earlier second from (column r 2) le it.1 in
            some_from (λ r. lasts id second r && is_intact r) rows r x.1 (and_from (lasts id second r) (is_intact r) (and_from (has_id id r) (is_since second (column r 2)) it.0 long) it.1)
        | inr above ↦ let x = some_has (lasts id second) rows two.1 in
            let r = x.0 in
            let it = and_parts (has_id id r) (is_since second (column r 2)) x.2 in
            let long = since_earlier from second (column r 2) (le_total second from above) it.1 in
            some_from (λ r. lasts id second r && is_intact r) rows r x.1 (and_from (lasts id second r) (is_intact r) x.2 long)
      ])

  pub pruned : IsPruned rows from (without_all rows (ids_of found))
  pruned = record {
    ids = λ x. any_left (has_id x);
    untils = λ x second. any_left (lasts x second) ∙ both_any x second;
  }
