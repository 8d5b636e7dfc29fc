-- Entries in a row, which are looked up by comparing.
use Rattle.std.proofs.Common.{◌≡◌, ℕ, zero, suc, ◌+◌, ◌<◌, ◌⊎◌, ⊎_elim, Bool, true, false, cond, ◌||◌, List, [], ◌∷◌, ◌++◌, set, get_or, position, length, Option, None, Some, is_none, Ok, Result, ◌≤◌, arith, refl, sym, ap, subst, ◌∙◌, true≢false}
use Rattle.std.proofs.lemmas.Iterator.Adapters.{position_from-zero}
use Rattle.std.proofs.lemmas.List.{append-nil, append_assoc, nil_from_length}
use Rattle.std.proofs.lemmas.Map.Keys.{IsDistinct-push}
use Rattle.std.proofs.lemmas.Option.{slice_get-get_or}
use Rattle.std.proofs.lemmas.Slice.Eq.{bytes_eq-Decides}
use Rattle.std.specs.Cmp.Lexicographic.{nat_list_cmp_total, nat_list_eq_equiv}
use Rattle.std.specs.FinMap.{get, insert, remove, same_map}
use Rattle.std.specs.List.{AllByRecursion, IsDistinct, list_any, position_from, swap_remove}
use Rattle.std.specs.Map.{keys_of, lookup}
use Rattle.std.specs.Option.{option_map, unwrap_or}
use Rattle.std.specs.Str.{bytes_eq}
use Rattle.indexmap.proofs.RemoveLemmas.{swap_out}
use Rattle.indexmap.proofs.CallerLemmas.{insert_entry-new}
use Rattle.indexmap.specs.IndexMap.{IndexMap, hasher_of, insert_entry, spare}
use Rattle.std.proofs.lemmas.Result.{IfOk-at_ok}
use Rattle.std.specs.Result.{OnOk}
use Rattle.std.specs.Vec.Iter.{into_iter_items, into_iter_len}
use Rattle.std.specs.declared.vec.IntoIter.{IntoIter}
use Rattle.indexmap.specs.Layout.{hash_map}
use Rattle.cookie.specs.Table.{by_name, key_eq, key_name}
use Rattle.cookie.proofs.NameLemmas.{get-by_name, get_inserted, get_removed, key_equiv, names_apart, option_map-cond, remove_shows}
use Rattle.cookie.specs.declared.name_key.NameKey.{NameKey}

-- whether a key has this name
abbrev pub has_name : List ℕ → NameKey → Bool
has_name q key = bytes_eq q (key_name key)

twice : {A : Type 0} (b : Bool) (x y o : A) → cond b x o ≡ cond b x (cond b y o)
twice true x y o = refl
twice false x y o = refl

apart_none : {A : Type 0} (b : Bool) (y : A) (o : Option A) → cond b (Some y) o ≡ None → (b ≡ false) × (o ≡ None)
apart_none true y o e = absurd (true≢false (ap is_none (sym e)))
apart_none false y o e = (refl, e)

pub distinct_none : IsDistinct key_eq []
unfolding IsDistinct
distinct_none = tt

-- the tests of two names that differ change places
turn : {A : Type 0} (r q k : List ℕ) (y x o : A) → bytes_eq q k ≡ false
    → cond (bytes_eq r k) y (cond (bytes_eq r q) x o) ≡ cond (bytes_eq r q) x (cond (bytes_eq r k) y o)
turn {A} r q k y x o other = by (bytes_eq r q) refl
  where
    by : (b : Bool) → bytes_eq r q ≡ b → cond (bytes_eq r k) y (cond (bytes_eq r q) x o) ≡ cond (bytes_eq r q) x (cond (bytes_eq r k) y o)
    by true h =
        let apart : bytes_eq r k ≡ false = ap (λ n. bytes_eq n k) ((bytes_eq-Decides r q).0 h) ∙ other in
        ap (λ b. cond b y (cond (bytes_eq r q) x o)) apart ∙ ap (λ b. cond b x o) h
        ∙ sym (ap (λ b. cond b x (cond (bytes_eq r k) y o)) h)
    by false h =
        ap (λ b. cond (bytes_eq r k) y (cond b x o)) h ∙ sym (ap (λ b. cond b x (cond (bytes_eq r k) y o)) h)

module _ {X : Type 0} where
  -- the first entry of this name has this place
  abbrev pub FirstAt : List ℕ → List (NameKey × X) → ℕ → Type 0
  FirstAt q [] i = true ≡ false
  FirstAt q (e ∷ es) zero = bytes_eq q (key_name e.0) ≡ true
  FirstAt q (e ∷ es) (suc i) = (bytes_eq q (key_name e.0) ≡ false) × FirstAt q es i

  found_from : (q : List ℕ) (es : List (NameKey × X)) (n i : ℕ) → position_from (has_name q) n (keys_of es) ≡ Some i
      → (j : ℕ) × (i ≡ n + j) × FirstAt q es j
  found_from q [] n i p = absurd (true≢false (ap is_none p))
  found_from q (e ∷ es) n i p = by (bytes_eq q (key_name e.0)) refl (λ r. found_from q es (n + 1) i r)
    where
      is : (b : Bool) → bytes_eq q (key_name e.0) ≡ b → cond b (Some n) (position_from (has_name q) (n + 1) (keys_of es)) ≡ Some i
      is b h = sym (ap (λ b. cond b (Some n) (position_from (has_name q) (n + 1) (keys_of es))) h) ∙ p

      by : (b : Bool) → bytes_eq q (key_name e.0) ≡ b
          → (position_from (has_name q) (n + 1) (keys_of es) ≡ Some i → (j : ℕ) × (i ≡ n + 1 + j) × FirstAt q es j)
          → (j : ℕ) × (i ≡ n + j) × FirstAt q (e ∷ es) j
      by true h rest = (0, omega (arith, ap (λ u. unwrap_or u n) (is true h)), h)
      by false h rest = let later = rest (is false h) in (suc later.0, omega (arith, later.1), (h, later.2))

  pub found_at : (q : List ℕ) (es : List (NameKey × X)) (i : ℕ) → position (has_name q) (keys_of es) ≡ Some i → FirstAt q es i
  found_at q es i p =
      let at = found_from q es 0 i (sym (position_from-zero (has_name q) (keys_of es)) ∙ p) in
      let same : at.0 ≡ i = omega (arith, at.1) in
      subst (FirstAt q es) same at.2

  none_from : (q : List ℕ) (es : List (NameKey × X)) (n : ℕ) → position_from (has_name q) n (keys_of es) ≡ None → lookup (has_name q) es ≡ None
  none_from q [] n p = refl
  none_from q (e ∷ es) n p =
      let a = apart_none (bytes_eq q (key_name e.0)) n (position_from (has_name q) (n + 1) (keys_of es)) p in
      ap (λ b. cond b (Some e.1) (lookup (has_name q) es)) a.0 ∙ none_from q es (n + 1) a.1

  pub none_at : (q : List ℕ) (es : List (NameKey × X)) → position (has_name q) (keys_of es) ≡ None → lookup (has_name q) es ≡ None
  none_at q es p = none_from q es 0 (sym (position_from-zero (has_name q) (keys_of es)) ∙ p)

  pub within : (q : List ℕ) (es : List (NameKey × X)) (i : ℕ) → FirstAt q es i → i < length es
  within q [] i f = absurd (true≢false f)
  within q (e ∷ es) zero f = omega arith
  within q (e ∷ es) (suc i) f = omega (arith, within q es i f.1)

  pub value_at : (q : List ℕ) (es : List (NameKey × X)) (i : ℕ) (p : NameKey × X) → FirstAt q es i → p ≡ get_or es i p
      → lookup (has_name q) es ≡ Some p.1
  value_at q [] i p f same = absurd (true≢false f)
  value_at q (e ∷ es) zero p f same = ap (λ b. cond b (Some e.1) (lookup (has_name q) es)) f ∙ ap (λ u. Some u.1) (sym same)
  value_at q (e ∷ es) (suc i) p f same =
      ap (λ b. cond b (Some e.1) (lookup (has_name q) es)) f.0 ∙ value_at q es i p f.1 same

  -- a value that is replaced leaves the keys
  pub keys_set : (es : List (NameKey × X)) (i : ℕ) (p : NameKey × X) (x : X) → p ≡ get_or es i p → keys_of (set es i (p.0, x)) ≡ keys_of es
  keys_set [] i p x same = refl
  keys_set (e ∷ es) zero p x same = ap (λ u. u.0 ∷ keys_of es) same
  keys_set (e ∷ es) (suc i) p x same = ap (λ ks. e.0 ∷ ks) (keys_set es i p x same)

  -- the look-ups after that
  pub set_at : (q : List ℕ) (es : List (NameKey × X)) (i : ℕ) (p : NameKey × X) (x : X) → FirstAt q es i → p ≡ get_or es i p
      → (r : List ℕ) → lookup (has_name r) (set es i (p.0, x)) ≡ cond (bytes_eq r q) (Some x) (lookup (has_name r) es)
  set_at q [] i p x f same r = absurd (true≢false f)
  set_at q (e ∷ es) zero p x f same r =
      let rest = lookup (has_name r) es in
      ap (λ u. cond (bytes_eq r (key_name u.0)) (Some x) rest) same
      ∙ twice (bytes_eq r (key_name e.0)) (Some x) (Some e.1) rest
      ∙ ap (λ n. cond (bytes_eq r n) (Some x) (cond (bytes_eq r (key_name e.0)) (Some e.1) rest)) (sym ((bytes_eq-Decides q (key_name e.0)).0 f))
  set_at q (e ∷ es) (suc i) p x f same r =
      ap (cond (bytes_eq r (key_name e.0)) (Some e.1)) (set_at q es i p x f.1 same r)
      ∙ turn r q (key_name e.0) (Some e.1) (Some x) (lookup (has_name r) es) f.0

  -- and those after an entry of a new name
  pub push_at : (es : List (NameKey × X)) (k : NameKey) (x : X) → lookup (has_name (key_name k)) es ≡ None
      → (r : List ℕ) → lookup (has_name r) (es ++ (k, x) ∷ []) ≡ cond (bytes_eq r (key_name k)) (Some x) (lookup (has_name r) es)
  push_at [] k x none r = refl
  push_at (e ∷ es) k x none r =
      let a = apart_none (bytes_eq (key_name k) (key_name e.0)) e.1 (lookup (has_name (key_name k)) es) none in
      ap (cond (bytes_eq r (key_name e.0)) (Some e.1)) (push_at es k x a.1 r)
      ∙ turn r (key_name k) (key_name e.0) (Some e.1) (Some x) (lookup (has_name r) es) a.0

  absent_keys : (q : List ℕ) (es : List (NameKey × X)) → lookup (has_name q) es ≡ None → list_any (has_name q) (keys_of es) ≡ false
  absent_keys q [] none = refl
  absent_keys q (e ∷ es) none =
      let a = apart_none (bytes_eq q (key_name e.0)) e.1 (lookup (has_name q) es) none in
      ap (λ b. b || list_any (has_name q) (keys_of es)) a.0 ∙ absent_keys q es a.1

  keys_push : (es : List (NameKey × X)) (k : NameKey) (x : X) → keys_of es ++ k ∷ [] ≡ keys_of (es ++ (k, x) ∷ [])
  keys_push [] k x = refl
  keys_push (e ∷ es) k x = ap (λ ks. e.0 ∷ ks) (keys_push es k x)

  pub distinct_push : (es : List (NameKey × X)) (k : NameKey) (x : X) → lookup (has_name (key_name k)) es ≡ None
      → IsDistinct key_eq (keys_of es) → IsDistinct key_eq (keys_of (es ++ (k, x) ∷ []))
  distinct_push es k x none distinct =
      subst (IsDistinct key_eq) (keys_push es k x) (IsDistinct-push key_equiv (keys_of es) k distinct (absent_keys (key_name k) es none))

  fact_at : (P : NameKey → Type 0) (es rest : List (NameKey × X)) (k : NameKey) (x : X) → AllByRecursion P (keys_of (es ++ (k, x) ∷ rest)) → P k
  fact_at P [] rest k x each = each.0
  fact_at P (e ∷ es) rest k x each = fact_at P es rest k x each.1

  -- an entry's name isn't among those before it
  none_before : (es rest : List (NameKey × X)) (k : NameKey) (x : X) → IsDistinct key_eq (keys_of (es ++ (k, x) ∷ rest)) → lookup (key_eq k) es ≡ None
  unfolding IsDistinct
  none_before [] rest k x distinct = refl
  none_before (e ∷ es) rest k x distinct =
      ap (λ b. cond b (Some e.1) (lookup (key_eq k) es)) (key_equiv.symm k e.0 ∙ fact_at (λ other. key_eq e.0 other ≡ false) es rest k x distinct.0)
      ∙ none_before es rest k x distinct.1

  -- one more entry goes over to a table that has those before it
  moved_more : {S : Type 0} (old new : IndexMap NameKey X S) (k : NameKey) (x : X) (all left rest : List (NameKey × X))
      → IsDistinct key_eq (keys_of all) → old.entries ++ left ≡ all → left ≡ (k, x) ∷ rest → new.entries ≡ insert_entry key_eq old.entries k x
      → new.entries ++ rest ≡ all
  moved_more old new k x all left rest distinct whole at put =
      let here : old.entries ++ (k, x) ∷ rest ≡ all = ap (λ l. old.entries ++ l) (sym at) ∙ whole in
      let none = none_before old.entries rest k x (subst (λ es. IsDistinct key_eq (keys_of es)) (sym here) distinct) in
      ap (λ es. es ++ rest) (put ∙ insert_entry-new key_eq old k x none) ∙ append_assoc old.entries ((k, x) ∷ []) rest ∙ here

  -- Of all entries the table has the first, and has room for those that are left. It hashes names as before.
  pub record IsMoving {S Z : Type 0} (all : List (NameKey × X)) (before table : IndexMap NameKey X S) (left : IntoIter (NameKey × X) Z) : Type 0 where
    pub whole : table.entries ++ into_iter_items left ≡ all
    pub counted : into_iter_len left ≡ length (into_iter_items left)
    pub room : into_iter_len left ≤ spare table
    pub hash : hasher_of table ≡ hasher_of before

  pub IsMoving-next : {S Z E : Type 0} (all : List (NameKey × X)) (before old new : IndexMap NameKey X S) (left rest : IntoIter (NameKey × X) Z) (k : NameKey) (x : X) (put : Result (Option X) E) (was : Option X)
      → IsDistinct key_eq (keys_of all) → IsMoving all before old left
      → (into_iter_items left ≡ (k, x) ∷ into_iter_items rest) × (into_iter_len rest + 1 ≡ into_iter_len left)
      → put ≡ Ok was → OnOk put (new.entries ≡ insert_entry key_eq old.entries k x) → spare old ≤ spare new + 1 → hasher_of new ≡ hasher_of old
      → IsMoving all before new rest
  IsMoving-next all before old new left rest k x put was distinct moving step done entries room hash =
      let shorter = ap length step.0 in
      record {
        whole = moved_more old new k x all (into_iter_items left) (into_iter_items rest) distinct moving.whole step.0
            (IfOk-at_ok (λ _. new.entries ≡ insert_entry key_eq old.entries k x) done entries);
        counted = omega (arith, shorter, step.1, moving.counted);
        room = omega (arith, step.1, moving.room, room);
        hash = hash ∙ moving.hash;
      }

  -- of the two parts of a table one is empty
  pub all_few : (few many : List (NameKey × X)) → length many ≡ 0 → few ++ many ≡ few
  all_few few many none = ap (λ l. few ++ l) (nil_from_length many none) ∙ append-nil few

  pub no_few : (few many : List (NameKey × X)) → (few ≡ []) ⊎ (many ≡ []) → (length many ≡ 0 → true ≡ false) → few ≡ []
  no_few few many either some = ⊎_elim (λ none. none) (λ none. absurd (true≢false (some (ap length none)))) either

  pub no_many : (few many : List (NameKey × X)) → (few ≡ []) ⊎ (many ≡ []) → 0 < length few → few ++ many ≡ few
  no_many few many either some =
      ⊎_elim (λ none. absurd (omega (arith, some, ap length none))) (λ none. ap (λ l. few ++ l) none ∙ append-nil few) either

module _ {X Z : Type 0} (shows : X → Z) where
  -- a change of the look-ups at one name puts a value there
  pub put_shows : (es fs : List (NameKey × X)) (q : List ℕ) (x : X)
      → ((r : List ℕ) → lookup (has_name r) fs ≡ cond (bytes_eq r q) (Some x) (lookup (has_name r) es))
      → by_name shows fs ≡ insert (by_name shows es) q (shows x)
  put_shows es fs q x changed = same_map nat_list_cmp_total names_apart _ _ (λ r.
      get-by_name shows fs r ∙ ap (option_map shows) (changed r)
      ∙ option_map-cond shows (bytes_eq r q) (Some x) (lookup (has_name r) es)
      ∙ ap (cond (bytes_eq r q) (Some (shows x))) (sym (get-by_name shows es r))
      ∙ sym (get_inserted (by_name shows es) q (shows x) r))

  -- a name that isn't there is removed by doing nothing
  pub absent_shows : (es : List (NameKey × X)) (q : List ℕ) → lookup (has_name q) es ≡ None → by_name shows es ≡ remove (by_name shows es) q
  absent_shows es q none = same_map nat_list_cmp_total names_apart _ _ (λ r.
      sym (get_removed (by_name shows es) q r ∙ by r (bytes_eq r q) refl))
    where
      by : (r : List ℕ) (b : Bool) → bytes_eq r q ≡ b → cond b None (get (by_name shows es) r) ≡ get (by_name shows es) r
      by r true h =
          sym (get-by_name shows es r ∙ ap (option_map shows) (ap (λ n. lookup (has_name n) es) ((bytes_eq-Decides r q).0 h) ∙ none))
      by r false h = refl

  -- what stays after a removal by place
  pub removed_at : (es fs : List (NameKey × X)) (q : List ℕ) (i : ℕ) (p : NameKey × X) → position (has_name q) (keys_of es) ≡ Some i
      → p ≡ get_or es i p → IsDistinct key_eq (keys_of es) → fs ≡ swap_remove es i p
      → (by_name shows fs ≡ remove (by_name shows es) q) × IsDistinct key_eq (keys_of fs)
  removed_at es fs q i p place same distinct after =
      let at = slice_get-get_or es i p (within q es i (found_at q es i place)) ∙ ap Some (sym same) in
      let out = swap_out key_eq key_equiv (has_name q) (λ x y. nat_list_eq_equiv.congr q (key_name x) (key_name y)) es i p place at distinct fs after in
      (remove_shows shows (table es) (table fs) q out.updated, out.unique)
    where
      table : List (NameKey × X) → IndexMap NameKey X ℕ
      table entries = hash_map entries 0 0
