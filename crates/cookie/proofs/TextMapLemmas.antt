-- The finite map that a `BTreeMap` of texts shows, through its calls.
use Rattle.std.proofs.Common.{◌≡◌, ℕ, true, cond, T, List, [], ◌∷◌, IsUtf8, Option, None, Some, String, refl, sym, ap, ◌∙◌, arith}
use Rattle.std.proofs.lemmas.List.Elements.{All-nil, All-cons}
use Rattle.std.proofs.lemmas.Map.Lookups.{exact_bytes}
use Rattle.std.proofs.lemmas.Map.Text.{is_eq-slice_cmp, btree_map_updates_text}
use Rattle.std.proofs.lemmas.Str.{IsUtf8-string_bytes}
use Rattle.std.specs.BTreeMap.{BTreeMap, UpdatesBy, IsOrdered, is_at}
use Rattle.std.specs.Cmp.{eq_by_cmp_equiv}
use Rattle.std.specs.Cmp.Derive.{both_true}
use Rattle.std.specs.Cmp.Lexicographic.{slice_cmp, nat_list_cmp_total}
use Rattle.std.specs.FinMap.{FinMap, find, get, insert, remove, entries, is_sorted, from_entries, get-from_entries, get-from_sorted, get-insert, get-remove, entries-from_sorted, same_map}
use Rattle.std.specs.FinMap.Entries.{below_all}
use Rattle.std.specs.List.{AllByRecursion, AllZip}
use Rattle.std.specs.List.Sorted.{IsStrictlySortedBy}
use Rattle.std.specs.Map.{lookup, update, keys_of}
use Rattle.std.specs.Option.{option_map}
use Rattle.std.specs.Ordering.{nat_cmp, eq_by_cmp, is_lt}
use Rattle.std.specs.Str.{bytes_eq}
use Rattle.std.specs.String.{string_bytes, string_cmp}
use Rattle.std.specs.declared.cmp.Ordering.TheVariants.{Less}
use Rattle.cookie.specs.Jar.{name_cmp}
use Rattle.cookie.specs.TextMap.{AreTexts, text_pairs, texts_by_name}

-- entries in the order of their keys are those of their map
entries-from_entries : (es : List (List ℕ × List ℕ)) → T (is_sorted name_cmp es) → entries (from_entries {R = name_cmp} es) ≡ es
entries-from_entries es h =
    ap entries (same_map nat_list_cmp_total exact_bytes _ _ (λ q. get-from_entries nat_list_cmp_total es q ∙ sym (get-from_sorted name_cmp es q h)))
    ∙ entries-from_sorted name_cmp es h

module _ {Y : Type 0} where
  -- what a look-up by bytes finds
  abbrev at_text : List (String Y × String Y) → List ℕ → Option (String Y)
  at_text es q = lookup (is_at (λ k. slice_cmp nat_cmp q (string_bytes k))) es

  find_text : (es : List (String Y × String Y)) (q : List ℕ) → find name_cmp q (text_pairs es) ≡ option_map string_bytes (at_text es q)
  find_text [] q = refl
  find_text (e ∷ es) q = grind (arith, find_text es q)

  pub get-by_name : (es : List (String Y × String Y)) (q : List ℕ) → get (texts_by_name es) q ≡ option_map string_bytes (at_text es q)
  get-by_name es q = get-from_entries nat_list_cmp_total (text_pairs es) q ∙ find_text es q

  -- entries with equal bytes show one map
  pub by_name-clone : (es fs : List (String Y × String Y)) → AllZip (λ p q. (string_bytes q.0 ≡ string_bytes p.0) × (string_bytes q.1 ≡ string_bytes p.1)) es fs → texts_by_name fs ≡ texts_by_name es
  by_name-clone [] [] h = refl
  by_name-clone [] (f ∷ fs) h = absurd h
  by_name-clone (e ∷ es) [] h = absurd h
  by_name-clone (e ∷ es) (f ∷ fs) h = λ i. insert (by_name-clone es fs h.1 i) (h.0.0 i) (h.0.1 i)

  -- the map after a change at a key
  changed : (old new : List (String Y × String Y)) (k : List ℕ) (w : Option (String Y)) (m : FinMap name_cmp (List ℕ))
      → ((q : List ℕ) → get m q ≡ cond (eq_by_cmp name_cmp q k) (option_map string_bytes w) (get (texts_by_name old) q))
      → ((q : List ℕ) → at_text new q ≡ update bytes_eq (at_text old) k w q) → texts_by_name new ≡ m
  changed old new k w m after h = same_map nat_list_cmp_total exact_bytes _ _ (λ q.
      grind (arith, get-by_name new q, h q, is_eq-slice_cmp k q, (eq_by_cmp_equiv nat_list_cmp_total).symm k q, get-by_name old q, after q))

  module _ (m n : BTreeMap (String Y) (String Y)) where
    -- what `insert` leaves
    pub by_name-insert : (key text : String Y) → UpdatesBy string_cmp (string_cmp key) m n (Some text)
        → texts_by_name n.entries ≡ insert (texts_by_name m.entries) (string_bytes key) (string_bytes text)
    by_name-insert key text u = changed m.entries n.entries (string_bytes key) (Some text) _
        (get-insert nat_list_cmp_total (texts_by_name m.entries) (string_bytes key) (string_bytes text))
        (btree_map_updates_text (string_bytes key) m n (Some text) u)

    -- what `remove` leaves
    pub by_name-remove : (k : List ℕ) → UpdatesBy string_cmp (λ x. slice_cmp nat_cmp k (string_bytes x)) m n None
        → texts_by_name n.entries ≡ remove (texts_by_name m.entries) k
    by_name-remove k u = changed m.entries n.entries k None _ (get-remove nat_list_cmp_total (texts_by_name m.entries) k) (btree_map_updates_text k m n None u)

  below : (k : String Y) (es : List (String Y × String Y)) → AllByRecursion (λ y. string_cmp k y ≡ Less) (keys_of es) → below_all name_cmp (string_bytes k) (text_pairs es) ≡ true
  below k [] h = refl
  below k (e ∷ es) h = both_true (ap is_lt h.0) (below k es h.1)

  is_sorted-text_pairs : (es : List (String Y × String Y)) → IsStrictlySortedBy string_cmp (keys_of es) → is_sorted name_cmp (text_pairs es) ≡ true
  unfolding IsStrictlySortedBy
  is_sorted-text_pairs [] h = refl
  is_sorted-text_pairs (e ∷ es) h = both_true (below e.0 es h.0) (is_sorted-text_pairs es h.1)

  -- the entries of the finite map, in order
  pub entries-by_name : (m : BTreeMap (String Y) (String Y)) → IsOrdered string_cmp m → entries (texts_by_name m.entries) ≡ text_pairs m.entries
  entries-by_name m h = entries-from_entries (text_pairs m.entries) (rw (is_sorted-text_pairs m.entries h) tt)

  -- each is UTF-8
  pub AreTexts-text_pairs : (es : List (String Y × String Y)) → AreTexts (text_pairs es)
  AreTexts-text_pairs [] = All-nil (λ pair. IsUtf8 pair.0 × IsUtf8 pair.1)
  AreTexts-text_pairs (e ∷ es) =
      All-cons (λ pair. IsUtf8 pair.0 × IsUtf8 pair.1) (string_bytes e.0, string_bytes e.1) (text_pairs es)
      (IsUtf8-string_bytes e.0, IsUtf8-string_bytes e.1) (AreTexts-text_pairs es)

-- what the finite map is after each call, for `grind`
pub ruleset by_name_calls = (get-by_name, entries-by_name, by_name-insert, by_name-remove, by_name-clone)
