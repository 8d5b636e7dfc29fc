-- The finite map that a table of cookies shows, through the table's calls.
use Rattle.std.proofs.Common.{◌≡◌, ℕ, Bool, true, false, cond, Bor, List, [], ◌∷◌, map, Option, None, Some, IfSome, length, arith, refl, sym, ap, subst, ◌∙◌}
use Rattle.std.proofs.lemmas.Map.Text.{is_eq-slice_cmp}
use Rattle.std.proofs.lemmas.Slice.Eq.{bytes_eq-Decides}
use Rattle.std.specs.Cmp.{IsEquivalence, eq_by_cmp_equiv, on_equiv}
use Rattle.std.specs.Cmp.Lexicographic.{bytes_decides, nat_list_cmp_total, nat_list_eq_equiv}
use Rattle.std.specs.FinMap.{FinMap, find, get, insert, remove, empty, get-from_entries, get-insert, get-remove, get-empty, same_map, IsAntisymmetric, slice_cmp-IsAntisymmetric, nat_cmp-IsAntisymmetric}
use Rattle.std.specs.HashMap.{HashMap, UpdatesBy}
use Rattle.std.specs.Map.{KeepsOthers, lookup, update}
use Rattle.std.specs.Option.{option_map, option_copied}
use Rattle.std.specs.Ordering.{eq_by_cmp}
use Rattle.std.specs.Str.{bytes_eq}
use Rattle.cookie.specs.Jar.{name_cmp}
use Rattle.cookie.specs.Table.{by_name, key_eq, key_name, IsKeyedByName}
use Rattle.cookie.specs.declared.name_key.NameKey.{NameKey}

pub key_equiv : IsEquivalence key_eq
key_equiv = on_equiv key_name nat_list_eq_equiv

pub names_apart : IsAntisymmetric name_cmp
names_apart = slice_cmp-IsAntisymmetric nat_cmp-IsAntisymmetric

cond-none : {Z : Type 0} (o : Option Z) (b : Bool) → o ≡ None → cond b None o ≡ o
cond-none o true none = sym none
cond-none o false none = refl

module _ {X Z : Type 0} (shows : X → Z) where
  pub option_map-cond : (b : Bool) (w o : Option X) → option_map shows (cond b w o) ≡ cond b (option_map shows w) (option_map shows o)
  option_map-cond true w o = refl
  option_map-cond false w o = refl

  -- what is shown of a lent value
  pub shown_copied : (o : Option (Bor X)) → option_map (λ x. shows x.now) o ≡ option_map shows (option_copied o)
  shown_copied (Some x) = refl
  shown_copied None = refl

  -- the test of a look-up, as both kinds of map write it
  turned : (w o : Option X) (k q : List ℕ) → option_map shows (cond (bytes_eq k q) w o) ≡ cond (eq_by_cmp name_cmp q k) (option_map shows w) (option_map shows o)
  turned w o k q =
      option_map-cond (bytes_eq k q) w o
      ∙ ap (λ b. cond b (option_map shows w) (option_map shows o)) (sym (is_eq-slice_cmp k q) ∙ (eq_by_cmp_equiv nat_list_cmp_total).symm k q)

  -- what a look-up by bytes finds
  abbrev pub at_text : List (NameKey × X) → List ℕ → Option X
  at_text es q = lookup (λ k. bytes_eq q (key_name k)) es

  -- the first entry, where it has the name
  pub at_text-first : (es rest : List (NameKey × X)) (k : NameKey) (x : X) (q : List ℕ) → es ≡ (k, x) ∷ rest → bytes_eq q (key_name k) ≡ true → at_text es q ≡ Some x
  at_text-first es rest k x q e same = ap (λ l. at_text l q) e ∙ ap (λ b. cond b (Some x) (at_text rest q)) same

  -- and the later ones, where it has another
  pub at_text-later : (es rest : List (NameKey × X)) (k : NameKey) (x : X) (q : List ℕ) → es ≡ (k, x) ∷ rest → bytes_eq q (key_name k) ≡ false → at_text es q ≡ at_text rest q
  at_text-later es rest k x q e other = ap (λ l. at_text l q) e ∙ ap (λ b. cond b (Some x) (at_text rest q)) other

  find_text : (es : List (NameKey × X)) (q : List ℕ) → find name_cmp q (map (λ e. (key_name e.0, shows e.1)) es) ≡ option_map shows (at_text es q)
  find_text [] q = refl
  find_text (e ∷ es) q =
      ap (λ b. cond b (Some (shows e.1)) (find name_cmp q (map (λ e. (key_name e.0, shows e.1)) es))) (is_eq-slice_cmp q (key_name e.0))
      ∙ ap (cond (bytes_eq q (key_name e.0)) (Some (shows e.1))) (find_text es q)
      ∙ sym (option_map-cond (bytes_eq q (key_name e.0)) (Some e.1) (at_text es q))

  -- what the finite map has at a name
  pub get-by_name : (es : List (NameKey × X)) (q : List ℕ) → get (by_name shows es) q ≡ option_map shows (at_text es q)
  get-by_name es q = get-from_entries nat_list_cmp_total (map (λ e. (key_name e.0, shows e.1)) es) q ∙ find_text es q

  -- no entry, nothing at any name
  pub get-by_name-none : (es : List (NameKey × X)) (q : List ℕ) → length es ≡ 0 → None ≡ get (by_name shows es) q
  get-by_name-none [] q none = sym (get-by_name [] q)
  get-by_name-none (e ∷ es) q none = absurd (omega (arith, none))

  -- and nothing to remove
  pub removed-none : (es : List (NameKey × X)) (q : List ℕ) → length es ≡ 0 → by_name shows es ≡ remove (by_name shows es) q
  removed-none es q none = same_map nat_list_cmp_total names_apart _ _ (λ n.
      sym (cond-none (get (by_name shows es) n) (eq_by_cmp name_cmp n q) (sym (get-by_name-none es n none)))
      ∙ sym (get-remove nat_list_cmp_total (by_name shows es) q n))

  -- a look-up of another name than the one that was changed finds what it found before
  other_name : (old new : List (NameKey × X)) (k q : List ℕ) → KeepsOthers key_eq (λ x. bytes_eq k (key_name x)) old new → bytes_eq k q ≡ false → at_text new q ≡ at_text old q
  unfolding KeepsOthers
  other_name old new k q kept other = kept (λ x. bytes_eq q (key_name x)) (λ x y. nat_list_eq_equiv.congr q (key_name x) (key_name y))
      (λ x same. nat_list_eq_equiv.symm q (key_name x) ∙ sym (nat_list_eq_equiv.congr k (key_name x) q same) ∙ other)

  module _ {S : Type 0} (m n : HashMap NameKey X S) where
    -- the look-ups after a change at a name
    updated : (k : List ℕ) (w : Option X) → UpdatesBy key_eq (λ x. bytes_eq k (key_name x)) m n w
        → (q : List ℕ) → at_text n.entries q ≡ update bytes_eq (at_text m.entries) k w q
    updated k w u q = by (bytes_eq k q) refl
      where
        by : (b : Bool) → bytes_eq k q ≡ b → at_text n.entries q ≡ cond b w (at_text m.entries q)
        by true e = subst (λ l. at_text n.entries l ≡ w) ((bytes_decides k q).0 e) u.1
        by false e = other_name m.entries n.entries k q u.3 e

    -- a changed table's look-up, over the one before
    changed : (k q : List ℕ) (w : Option X) → at_text n.entries q ≡ update bytes_eq (at_text m.entries) k w q
        → get (by_name shows n.entries) q ≡ cond (eq_by_cmp name_cmp q k) (option_map shows w) (get (by_name shows m.entries) q)
    changed k q w h =
        get-by_name n.entries q ∙ ap (option_map shows) h ∙ turned w (at_text m.entries q) k q
        ∙ ap (cond (eq_by_cmp name_cmp q k) (option_map shows w)) (sym (get-by_name m.entries q))

    -- what `insert` leaves
    pub insert_shows : (key : NameKey) (k : List ℕ) (v : X) → key_name key ≡ k → UpdatesBy key_eq (key_eq key) m n (Some v)
        → by_name shows n.entries ≡ insert (by_name shows m.entries) k (shows v)
    insert_shows key k v e u = same_map nat_list_cmp_total names_apart _ _ (λ q.
        changed k q (Some v) (subst (λ bs. at_text n.entries q ≡ update bytes_eq (at_text m.entries) bs (Some v) q) e (updated (key_name key) (Some v) u q))
        ∙ sym (get-insert nat_list_cmp_total (by_name shows m.entries) k (shows v) q))

    -- what a removal leaves
    pub remove_shows : (k : List ℕ) → UpdatesBy key_eq (λ x. bytes_eq k (key_name x)) m n None
        → by_name shows n.entries ≡ remove (by_name shows m.entries) k
    remove_shows k u = same_map nat_list_cmp_total names_apart _ _ (λ q.
        changed k q None (updated k None u q)
        ∙ sym (get-remove nat_list_cmp_total (by_name shows m.entries) k q))

-- look-ups behind an insertion and behind a removal, with the test of names that `==` has
module _ {Z : Type 0} (m : FinMap name_cmp Z) where
  pub get_inserted : (key : List ℕ) (z : Z) (name : List ℕ) → get (insert m key z) name ≡ cond (bytes_eq name key) (Some z) (get m name)
  get_inserted key z name = get-insert nat_list_cmp_total m key z name ∙ ap (λ b. cond b (Some z) (get m name)) (is_eq-slice_cmp name key)

  pub get_removed : (key name : List ℕ) → get (remove m key) name ≡ cond (bytes_eq name key) None (get m name)
  get_removed key name = get-remove nat_list_cmp_total m key name ∙ ap (λ b. cond b None (get m name)) (is_eq-slice_cmp name key)

module _ {Z : Type 0} (name_of : Z → List ℕ) where
  pub IsKeyedByName-empty : IsKeyedByName name_of empty
  IsKeyedByName-empty n = subst (λ o. IfSome o (λ z. name_of z ≡ n)) (sym (get-empty name_cmp n)) tt

  pub IsKeyedByName-insert : (m : FinMap name_cmp Z) (v : Z) → IsKeyedByName name_of m → IsKeyedByName name_of (insert m (name_of v) v)
  IsKeyedByName-insert m v h n = subst (λ o. IfSome o (λ z. name_of z ≡ n)) (sym (get-insert nat_list_cmp_total m (name_of v) v n)) (by (eq_by_cmp name_cmp n (name_of v)) refl)
    where
      by : (b : Bool) → eq_by_cmp name_cmp n (name_of v) ≡ b → IfSome (cond b (Some v) (get m n)) (λ z. name_of z ≡ n)
      by true e = sym ((bytes_eq-Decides n (name_of v)).0 (sym (is_eq-slice_cmp n (name_of v)) ∙ e))
      by false e = h n

  pub IsKeyedByName-remove : (m : FinMap name_cmp Z) (k : List ℕ) → IsKeyedByName name_of m → IsKeyedByName name_of (remove m k)
  IsKeyedByName-remove m k h n = subst (λ o. IfSome o (λ z. name_of z ≡ n)) (sym (get-remove nat_list_cmp_total m k n)) (by (eq_by_cmp name_cmp n k))
    where
      by : (b : Bool) → IfSome (cond b None (get m n)) (λ z. name_of z ≡ n)
      by true = tt
      by false = h n
