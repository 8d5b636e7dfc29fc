-- SQL's comparisons on the rows of the table, and one more row.
use Rattle.std.proofs.Common.{◌≡◌, inl, inr, ℕ, ℤ, pos, negsuc, List, [], ◌∷◌, Bool, true, false, ◌&&◌, ◌||◌, Some, int_le, bytes_eq, refl, sym, ap, subst, ◌∙◌, arith}
use Rattle.std.proofs.lemmas.Bool.{cases_Bool}
use Rattle.std.proofs.lemmas.Bool.Decides.{nat_tests}
use Rattle.std.proofs.lemmas.Slice.Eq.{bytes_eq-Decides}
use Rattle.std.proofs.lemmas.Map.Text.{is_eq-slice_cmp}
use Rattle.std.specs.Cmp.{IsTotalOrder}
use Rattle.std.specs.Cmp.Lexicographic.{slice_cmp}
use Rattle.std.specs.List.{list_all, list_any}
use Rattle.std.specs.Ordering.{is_eq, is_ge, int_cmp, match_ordering, nat_cmp, ordering_reverse}
use Rattle.std.specs.declared.cmp.Ordering.{Ordering}
use Rattle.std.specs.declared.cmp.Ordering.TheVariants.{Equal, Greater, Less}
use Rattle.sqlite.specs.Collation.TheVariants.{Binary}
use Rattle.sqlite.specs.Edit.{is_taken}
use Rattle.sqlite.specs.Ops.{binary, from_truth, is_null, is_true}
use Rattle.sqlite.specs.Order.{Row, column}
use Rattle.sqlite.specs.Term.{holds}
use Rattle.sqlite.specs.Tree.{put_row, rowid}
use Rattle.sqlite.specs.declared.types.Value.{Value}
use Rattle.sqlite.specs.declared.types.Value.TheVariants.{Blob, Int, Null, Real, Text}
use Rattle.sqlite_sql.specs.declared.ops.BinaryOp.TheVariants.{Compare}
use Rattle.sqlite_sql.specs.declared.ops.CompareOp.TheVariants.{Eq}
use Rattle.sqlite_value.proofs.OrderLemmas.{value_cmp-Blob, value_cmp-Int, value_cmp_total}
use Rattle.sqlite_value.specs.Order.{value_cmp}
use Rattle.session_revocations.specs.Revoked.{IsAdded, IsExtended, entry, has_id, is_among, is_among_until, is_blob, is_since, lasts}
use Rattle.session_revocations.proofs.TextLemmas.{id_is, until_since}

pub truth_is : (b : Bool) → is_true (from_truth (Some b)) ≡ b
truth_is true = refl
truth_is false = refl

-- SQL's = with a blob
pub equals_blob : (id : List ℕ) (v : Value) → is_true (binary (Compare Eq Binary) v (Blob id)) ≡ is_blob id v
unfolding binary value_cmp
equals_blob id Null = refl
equals_blob id (Int n) = refl
equals_blob id (Real x) = refl
equals_blob id (Text t) = refl
equals_blob id (Blob b) = ap (λ o. is_true (from_truth (Some (is_eq o)))) (value_cmp-Blob b id) ∙ truth_is (is_eq (slice_cmp nat_cmp b id)) ∙ is_eq-slice_cmp b id

pub and_true : (b : Bool) → (b && true) ≡ b
and_true true = refl
and_true false = refl

-- the two filters
pub passes_id : (id : List ℕ) (r : Row) → list_all (holds ((Blob id ∷ []) ∷ r ∷ [])) (id_is ∷ []) ≡ has_id id r
passes_id id r = and_true _ ∙ equals_blob id (column r 1)

pub passes_until : (id : List ℕ) (until : ℤ) (r : Row) → list_all (holds ((Blob id ∷ Int until ∷ []) ∷ r ∷ [])) (id_is ∷ until_since ∷ []) ≡ lasts id until r
passes_until id until r = ap (λ b. b && (is_since until (column r 2) && true)) (equals_blob id (column r 1)) ∙ ap (λ b. has_id id r && b) (and_true _)

pub is_ge-int_cmp : (m n : ℤ) → is_ge (int_cmp m n) ≡ int_le n m
is_ge-int_cmp (pos m) (pos n) = grind (arith, nat_tests)
is_ge-int_cmp (pos m) (negsuc n) = refl
is_ge-int_cmp (negsuc m) (pos n) = refl
is_ge-int_cmp (negsuc m) (negsuc n) = grind (arith, nat_tests)

-- SQL's >= of two integers
pub since_int : (n second : ℤ) → is_since second (Int n) ≡ int_le second n
unfolding binary
since_int n second = truth_is (is_ge (value_cmp (Int n) (Int second))) ∙ ap is_ge (value_cmp-Int n second) ∙ is_ge-int_cmp n second

swap : (a b c : Bool) → (a || (b || c)) ≡ (b || (a || c))
swap true true c = refl
swap true false c = refl
swap false true c = refl
swap false false c = refl

-- with one more row, what passes a test is it, or passed before
pub any_put : (p : Row → Bool) (new : Row) (rows : List Row) → is_taken rows new ≡ false → list_any p (put_row new rows) ≡ (p new || list_any p rows)
any_put p new [] free = refl
any_put p new (r ∷ rows) free = go (value_cmp (rowid r) (rowid new)) free (λ none. any_put p new rows none)
  where
    go : (o : Ordering) → (is_eq o || is_taken rows new) ≡ false → (is_taken rows new ≡ false → list_any p (put_row new rows) ≡ (p new || list_any p rows))
        → list_any p (match_ordering o (r ∷ put_row new rows) (new ∷ rows) (new ∷ r ∷ rows)) ≡ (p new || (p r || list_any p rows))
    go Less none more = ap (λ b. p r || b) (more none) ∙ swap (p r) (p new) (list_any p rows)
    go Equal none more = absurd cc
    go Greater none more = refl

-- with one more row, the id is revoked until its second, and nothing else changes
pub added_extends : (rows after : List Row) (id : List ℕ) (until : ℤ) → IsAdded rows id until after → IsExtended rows id until after
added_extends rows after id until h = record {
  ids = λ x. ap (λ r. is_among r x) h.2 ∙ any_put (has_id x) (entry h.0 id until) rows h.1;
  untils = λ x u. ap (λ r. is_among_until r x u) h.2 ∙ any_put (lasts x u) (entry h.0 id until) rows h.1
      ∙ ap (λ b. (bytes_eq id x && b) || is_among_until rows x u) (since_int until u);
}

module _ {K : Type 0} {R : K → K → Ordering} (o : IsTotalOrder R) (x y z : K) (after : is_ge (R y z) ≡ true) where
  not_below : (r : Ordering) → R x z ≡ r → R x y ≡ Greater → is_ge (R x z) ≡ true
  not_below Less f e = absurd (
      let below : R y z ≡ Less = o.trans y x z (o.antisymm y x ∙ ap ordering_reverse e) f in
      let bad : false ≡ true = sym (ap is_ge below) ∙ after in
      cc)
  not_below Equal f e = ap is_ge f
  not_below Greater f e = ap is_ge f

  -- what is not below what is not below
  pub ge_then : (r : Ordering) → R x y ≡ r → is_ge r ≡ true → is_ge (R x z) ≡ true
  ge_then Less e h = absurd cc
  ge_then Equal e h = ap is_ge (o.congr x y z e) ∙ after
  ge_then Greater e h = not_below (R x z) refl e

not_null : (second : ℤ) (v : Value) → is_null v ≡ false → is_since second v ≡ is_ge (value_cmp v (Int second))
unfolding binary
not_null second Null e = absurd cc
not_null second (Int n) e = truth_is _
not_null second (Real x) e = truth_is _
not_null second (Text t) e = truth_is _
not_null second (Blob b) e = truth_is _

null_never : (second : ℤ) → is_since second Null ≡ false
unfolding binary
null_never second = refl

since_by : (early late : ℤ) (v : Value) → is_null v ≡ false → int_le early late ≡ true → is_since late v ≡ true → is_since early v ≡ true
since_by early late v full le h =
    let second : is_ge (value_cmp (Int late) (Int early)) ≡ true = ap is_ge (value_cmp-Int late early) ∙ is_ge-int_cmp late early ∙ le in
    not_null early v full ∙ ge_then value_cmp_total v (Int late) (Int early) second (value_cmp v (Int late)) refl (sym (not_null late v full) ∙ h)

-- what lasts until a second lasts until each earlier one
pub since_earlier : (early late : ℤ) (v : Value) → int_le early late ≡ true → is_since late v ≡ true → is_since early v ≡ true
since_earlier early late Null le h = absurd (let bad = sym (null_never late) ∙ h in cc)
since_earlier early late (Int n) le h = since_by early late (Int n) refl le h
since_earlier early late (Real x) le h = since_by early late (Real x) refl le h
since_earlier early late (Text t) le h = since_by early late (Text t) refl le h
since_earlier early late (Blob b) le h = since_by early late (Blob b) refl le h

pub both_first : (a b : Bool) → (a && b) ≡ true → a ≡ true
both_first true b h = refl
both_first false b h = h

pub both_second : (a b : Bool) → (a && b) ≡ true → b ≡ true
both_second true b h = h
both_second false b h = absurd cc

pub both : (a b : Bool) → a ≡ true → b ≡ true → (a && b) ≡ true
both a b p q = rw (p, q) refl

or_second : (a b : Bool) → b ≡ true → (a || b) ≡ true
or_second true b h = refl
or_second false b h = h

pub any_weaker : (p q : Row → Bool) → ((r : Row) → p r ≡ true → q r ≡ true) → (rows : List Row) → list_any p rows ≡ true → list_any q rows ≡ true
any_weaker p q weaker [] h = h
any_weaker p q weaker (r ∷ rs) h = elim (cases_Bool (p r)) [
  | inl t ↦ rw (weaker r t) refl
  | inr f ↦ or_second (q r) (list_any q rs) (any_weaker p q weaker rs (rw f at h))
]

lasts_id : (id : List ℕ) (until : ℤ) (r : Row) → lasts id until r ≡ true → has_id id r ≡ true
lasts_id id until r h = both_first (has_id id r) (is_since until (column r 2)) h

lasts_earlier : (id : List ℕ) (early late : ℤ) → int_le early late ≡ true → (r : Row) → lasts id late r ≡ true → lasts id early r ≡ true
lasts_earlier id early late le r h =
    both _ _ (both_first (has_id id r) _ h) (since_earlier early late (column r 2) le (both_second (has_id id r) _ h))

absorbs : (a b : Bool) → (a ≡ true → b ≡ true) → b ≡ (a || b)
absorbs true b h = h refl
absorbs false b h = refl

-- an id that is revoked as long is revoked as before
pub stays_extends : (rows : List Row) (id : List ℕ) (until : ℤ) → is_among_until rows id until ≡ true → IsExtended rows id until rows
stays_extends rows id until h = record {
  ids = λ x. absorbs (bytes_eq id x) (is_among rows x)
      (λ e. subst (λ y. is_among rows y ≡ true) (same x e) (any_weaker (lasts id until) (has_id id) (lasts_id id until) rows h));
  untils = λ x second. absorbs (bytes_eq id x && int_le second until) (is_among_until rows x second)
      (λ e. subst (λ y. is_among_until rows y second ≡ true) (same x (both_first _ _ e))
      (any_weaker (lasts id until) (lasts id second) (lasts_earlier id second until (both_second _ _ e)) rows h));
}
  where
    same : (x : List ℕ) → bytes_eq id x ≡ true → id ≡ x
    same x e = (bytes_eq-Decides id x).0 e

-- what is revoked until a second is revoked
pub until_is_revoked : (rows : List Row) (id : List ℕ) (until : ℤ) → is_among_until rows id until ≡ true → is_among rows id ≡ true
until_is_revoked rows id until = any_weaker (lasts id until) (has_id id) (lasts_id id until) rows
