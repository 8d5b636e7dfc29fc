-- An entry that is only put where there is none of its name.
use Rattle.std.proofs.Common.{◌≡◌, ℕ, zero, suc, Bool, true, false, cond, List, [], ◌∷◌, ◌++◌, position, Option, None, Some, is_none, is_some, unwrap_or, refl, sym, ap, ◌∙◌, true≢false}
use Rattle.std.proofs.lemmas.Slice.Eq.{bytes_eq-Decides}
use Rattle.std.specs.Cmp.Lexicographic.{nat_list_cmp_total}
use Rattle.std.specs.FinMap.{FinMap, get, insert, same_map}
use Rattle.std.specs.Map.{keys_of}
use Rattle.std.specs.Option.{option_map}
use Rattle.std.specs.Str.{bytes_eq}
use Rattle.indexmap.specs.IndexMap.{IndexMap, Updates}
use Rattle.indexmap.specs.IndexMap as index
use Rattle.cookie.specs.Jar.{name_cmp}
use Rattle.cookie.specs.Table.{by_name, key_eq, key_name, with_first, IsKeyedByName}
use Rattle.cookie.specs.declared.name_key.NameKey.{NameKey}
use Rattle.cookie.proofs.NameLemmas.{IsKeyedByName-insert, at_text, get-by_name, get_inserted, insert_shows, names_apart}
use Rattle.cookie.proofs.RowLemmas.{FirstAt, found_at, has_name, none_at, push_at, put_shows}

some-map : {X Z : Type 0} (shows : X → Z) (o : Option X) → is_some (option_map shows o) ≡ is_some o
some-map shows None = refl
some-map shows (Some x) = refl

pub none-none : {X : Type 0} (o : Option X) → is_none o ≡ true → o ≡ None
none-none None none = refl
none-none (Some x) none = absurd (true≢false (sym none))

module _ {Z : Type 0} (table : FinMap name_cmp Z) (name : List ℕ) where
  -- a value that is there already
  insert_same : (z : Z) → get table name ≡ Some z → insert table name z ≡ table
  insert_same z there = same_map nat_list_cmp_total names_apart _ _ (λ r. get_inserted table name z r ∙ by r (bytes_eq r name) refl)
    where
      by : (r : List ℕ) (b : Bool) → bytes_eq r name ≡ b → cond b (Some z) (get table r) ≡ get table r
      by r true same = sym (ap (get table) ((bytes_eq-Decides r name).0 same) ∙ there)
      by r false other = refl

  -- the value that the name has after that
  pub insert_first : (found : Option Z) (z : Z) → get table name ≡ found → insert table name (unwrap_or found z) ≡ with_first table name z
  insert_first None z is = sym (ap (λ o. cond (is_some o) table (insert table name z)) is)
  insert_first (Some w) z is = insert_same w is ∙ sym (ap (λ o. cond (is_some o) table (insert table name z)) is)

pub IsKeyedByName-first : {Z : Type 0} (name_of : Z → List ℕ) (table : FinMap name_cmp Z) (z : Z) → IsKeyedByName name_of table → IsKeyedByName name_of (with_first table (name_of z) z)
IsKeyedByName-first name_of table z named = by (is_some (get table (name_of z)))
  where
    by : (b : Bool) → IsKeyedByName name_of (cond b table (insert table (name_of z) z))
    by true = named
    by false = IsKeyedByName-insert name_of table z named

module _ {X Z : Type 0} (shows : X → Z) where
  unwrap_or-map : (o : Option X) (x : X) → shows (unwrap_or o x) ≡ unwrap_or (option_map shows o) (shows x)
  unwrap_or-map None x = refl
  unwrap_or-map (Some y) x = refl

  -- a table that hashes, after a write of the value that the key has, or else of the new one
  pub first_many : {S : Type 0} (old : IndexMap NameKey X S) (written : X → IndexMap NameKey X S) (es : List (NameKey × X)) (table : FinMap name_cmp Z) (key : NameKey) (x w : X) (found : Option X)
      → es ≡ (written w).entries → ((v : X) → Updates key_eq old (written v) key (Some v)) → w ≡ unwrap_or found x → found ≡ index.get key_eq old key → by_name shows old.entries ≡ table
      → by_name shows es ≡ with_first table (key_name key) (shows x)
  first_many old written es table key x w found after updates value is before =
      let map = by_name shows old.entries in
      let name = key_name key in
      ap (by_name shows) after
      ∙ insert_shows shows old (written w) key name w refl (updates w)
      ∙ ap (λ v. insert map name (shows v)) value
      ∙ ap (insert map name) (unwrap_or-map found x)
      ∙ insert_first map name (option_map shows found) (shows x) (get-by_name shows old.entries name ∙ ap (option_map shows) (sym is))
      ∙ ap (λ m. with_first m name (shows x)) before

  some_at : (q : List ℕ) (es : List (NameKey × X)) (i : ℕ) → FirstAt q es i → is_some (at_text shows es q) ≡ true
  some_at q [] i at = absurd (true≢false at)
  some_at q (e ∷ es) zero at = ap (λ b. is_some (cond b (Some e.1) (at_text shows es q))) at
  some_at q (e ∷ es) (suc i) at = ap (λ b. is_some (cond b (Some e.1) (at_text shows es q))) at.0 ∙ some_at q es i at.1

  -- entries in a row, of which one has the name
  pub first_kept : (es : List (NameKey × X)) (q : List ℕ) (z : Z) → is_none (position (has_name q) (keys_of es)) ≡ false → by_name shows es ≡ with_first (by_name shows es) q z
  first_kept es q z there = by (position (has_name q) (keys_of es)) refl there
    where
      table : FinMap name_cmp Z
      table = by_name shows es

      by : (o : Option ℕ) → position (has_name q) (keys_of es) ≡ o → is_none o ≡ false → table ≡ with_first table q z
      by None place some = absurd (true≢false some)
      by (Some i) place some =
          let found = ap is_some (get-by_name shows es q) ∙ some-map shows (at_text shows es q) ∙ some_at q es i (found_at q es i place) in
          sym (ap (λ b. cond b table (insert table q z)) found)

  -- and where none has it, after one more
  pub first_pushed : (es : List (NameKey × X)) (key : NameKey) (x : X) → is_none (position (has_name (key_name key)) (keys_of es)) ≡ true
      → by_name shows (es ++ (key, x) ∷ []) ≡ with_first (by_name shows es) (key_name key) (shows x)
  first_pushed es key x none =
      let q = key_name key in
      let absent = none_at q es (none-none _ none) in
      put_shows shows es _ q x (push_at es key x absent)
      ∙ insert_first (by_name shows es) q None (shows x) (get-by_name shows es q ∙ ap (option_map shows) absent)
