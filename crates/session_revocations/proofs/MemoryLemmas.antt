-- The finite map that a `BTreeMap` of ids shows, through its calls.
use Rattle.std.proofs.Common.{◌≡◌, ◌↔◌, ◌⊎◌, ◌≤◌, inl, inr, ℕ, Bool, true, false, List, [], ◌∷◌, Option, None, Some, Result, Ok, Err, OnOk, cond, filter, nat_lt, refl, sym, ap, subst, ◌∙◌, arith}
use Rattle.std.proofs.lemmas.Bool.Decides.{leb_tells}
use Rattle.std.proofs.lemmas.Map.Entries.{lookup-filter-values, option_filter}
use Rattle.std.proofs.lemmas.Map.Keys.{IsDistinct-from_sorted}
use Rattle.std.proofs.lemmas.Map.Lookups.{exact_bytes}
use Rattle.std.specs.BTreeMap.{BTreeMap, IsOrdered, UpdatesBy, is_at}
use Rattle.std.specs.Cmp.{eq_by_cmp_equiv}
use Rattle.std.specs.Cmp.Lexicographic.{bytes_decides, nat_list_cmp_total, texts_ties}
use Rattle.std.specs.FinMap.{find, get, get-from_entries, get-insert, insert, same_map}
use Rattle.std.specs.Map.{keys_of, lookup}
use Rattle.std.specs.Ordering.{eq_by_cmp, is_eq}
use Rattle.session_revocations.specs.Memory.{Untils, id_cmp, if_after, lasts_until, later, untils_of}

find_lookup : (es : List (List ℕ × ℕ)) (q : List ℕ) → find id_cmp q es ≡ lookup (is_at (id_cmp q)) es
find_lookup [] q = refl
find_lookup (e ∷ es) q = ap (λ rest. cond (is_eq (id_cmp q e.0)) (Some e.1) rest) (find_lookup es q)

-- what `get` finds
pub get-by_id : (es : List (List ℕ × ℕ)) (q : List ℕ) → get (untils_of es) q ≡ lookup (is_at (id_cmp q)) es
get-by_id es q = get-from_entries nat_list_cmp_total es q ∙ find_lookup es q

-- what `insert` leaves
pub by_id-insert : (m n : BTreeMap (List ℕ) ℕ) (id : List ℕ) (until : ℕ) → UpdatesBy id_cmp (id_cmp id) m n (Some until)
    → untils_of n.entries ≡ insert (untils_of m.entries) id until
by_id-insert m n id until u = same_map nat_list_cmp_total exact_bytes _ _ (λ q.
    grind (arith, get-by_id n.entries q, u.0 q, (eq_by_cmp_equiv nat_list_cmp_total).symm id q, get-by_id m.entries q, get-insert nat_list_cmp_total (untils_of m.entries) id until q))

filtered : (now : ℕ) (o : Option ℕ) → option_filter (λ until. nat_lt now until) o ≡ if_after now o
filtered now None = refl
filtered now (Some until) = refl

-- what `forget` leaves
pub by_id-after : (m n : BTreeMap (List ℕ) ℕ) (now : ℕ) → IsOrdered id_cmp m → n.entries ≡ filter (λ e. nat_lt now e.1) m.entries
    → (q : List ℕ) → get (untils_of n.entries) q ≡ if_after now (get (untils_of m.entries) q)
by_id-after m n now ordered is q =
    get-by_id n.entries q ∙ ap (λ es. lookup (is_at (id_cmp q)) es) is
    ∙ lookup-filter-values (eq_by_cmp_equiv nat_list_cmp_total) (λ until. nat_lt now until) q m.entries (IsDistinct-from_sorted id_cmp (keys_of m.entries) ordered)
    ∙ filtered now _ ∙ ap (if_after now) (sym (get-by_id m.entries q))

-- which ids are revoked once one more is
later_lasts : (second until : ℕ) (o : Option ℕ) → lasts_until second (Some (later o until)) ↔ ((second ≤ until) ⊎ lasts_until second o)
later_lasts second until None = (inl, λ either. elim either [ inl here ↦ here | inr never ↦ absurd never ])
later_lasts second until (Some old) = (
  λ lasts. elim (leb_tells second until) [ inl early ↦ inl early.1 | inr late ↦ inr (omega (arith, late.1, lasts)) ],
  λ either. elim either [ inl here ↦ omega (arith, here) | inr before ↦ omega (arith, before) ],
)

pub revokes : (m : Untils) (id : List ℕ) (until : ℕ) (other : List ℕ) (second : ℕ)
    → lasts_until second (get (insert m id (later (get m id) until)) other) ↔ (((other ≡ id) × (second ≤ until)) ⊎ lasts_until second (get m other))
revokes m id until other second =
    subst (λ o. lasts_until second o ↔ (((other ≡ id) × (second ≤ until)) ⊎ lasts_until second (get m other)))
    (sym (get-insert nat_list_cmp_total m id (later (get m id) until) other)) (by (eq_by_cmp id_cmp other id) refl)
  where
    by : (b : Bool) → eq_by_cmp id_cmp other id ≡ b
        → lasts_until second (cond b (Some (later (get m id) until)) (get m other)) ↔ (((other ≡ id) × (second ≤ until)) ⊎ lasts_until second (get m other))
    by true same =
        let is : other ≡ id = (bytes_decides other id).0 (texts_ties other id ∙ same) in
        let both = later_lasts second until (get m id) in (
          λ lasts. elim (both.0 lasts) [ inl here ↦ inl (is, here) | inr before ↦ inr (subst (λ k. lasts_until second (get m k)) (sym is) before) ],
          λ either. elim either [ inl here ↦ both.1 (inl here.1) | inr before ↦ both.1 (inr (subst (λ k. lasts_until second (get m k)) is before)) ],
        )
    by false apart = (
      inr,
      λ either. elim either [
        | inl here ↦
            let same : eq_by_cmp id_cmp other id ≡ true = subst (λ k. eq_by_cmp id_cmp k id ≡ true) (sym here.0) ((eq_by_cmp_equiv nat_list_cmp_total).refl id) in
            let clash : true ≡ false = sym same ∙ apart in
            absurd cc
        | inr before ↦ before
      ],
    )

-- so it is once a call returned
pub on_revoked : {T E : Type 0} (old new : Untils) (id : List ℕ) (until : ℕ) (result : Result T E) → OnOk result (new ≡ insert old id (later (get old id) until))
    → OnOk result ((other : List ℕ) (second : ℕ) → lasts_until second (get new other) ↔ (((other ≡ id) × (second ≤ until)) ⊎ lasts_until second (get old other)))
on_revoked old new id until (Ok value) is = λ other second.
    subst (λ m. lasts_until second (get m other) ↔ (((other ≡ id) × (second ≤ until)) ⊎ lasts_until second (get old other))) (sym is) (revokes old id until other second)
on_revoked old new id until (Err error) is = tt

pub ruleset by_id_calls = (get-by_id, by_id-insert)
