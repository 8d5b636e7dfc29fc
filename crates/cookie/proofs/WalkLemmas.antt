-- The values of a table, walked in its order.
use Rattle.std.proofs.Common.{◌≡◌, ℕ, cond, List, [], ◌∷◌, map, Option, None, Some, IfSome, false, sym, ap, subst, refl, ◌∙◌, slice_index_or}
use Rattle.std.proofs.lemmas.List.Elements.{recursion_from_All, All-contains_itself}
use Rattle.std.proofs.lemmas.Map.Views.{lookup-from_Contains}
use Rattle.std.specs.FinMap.{get}
use Rattle.std.specs.List.{AllByRecursion, IsDistinct, find}
use Rattle.std.specs.Map.{keys_of, values_of}
use Rattle.std.specs.Option.{option_map}
use Rattle.std.specs.Str.{bytes_eq}
use Rattle.cookie_core.specs.Record.{Record}
use Rattle.cookie.specs.Table.{by_name, key_eq, key_name, IsKeyedByName}
use Rattle.cookie.specs.Walk.{Walks}
use Rattle.cookie.proofs.NameLemmas.{at_text, get-by_name, key_equiv, option_map-cond}
use Rattle.cookie.specs.declared.name_key.NameKey.{NameKey}

-- of what an entry shows, a part that has the entry's name
module _ {X Z W : Type 0} (shows : X → Z) (part_of : Z → W) (name_of : W → List ℕ) where
  abbrev part : X → W
  part x = part_of (shows x)

  twice : (o : Option X) → option_map part o ≡ option_map part_of (option_map shows o)
  twice (Some x) = refl
  twice None = refl

  -- each entry's key is its part's name
  abbrev AreOwnNames : List (NameKey × X) → Type 0
  AreOwnNames es = AllByRecursion (λ e. name_of (part e.1) ≡ key_name e.0) es

  own_names : (es : List (NameKey × X)) → IsDistinct key_eq (keys_of es) → IsKeyedByName (λ z. name_of (part_of z)) (by_name shows es) → AreOwnNames es
  own_names es distinct named = recursion_from_All (λ e. name_of (part e.1) ≡ key_name e.0) es (λ k d inside.
      let e = slice_index_or es k d in
      let found = lookup-from_Contains key_equiv e.0 e.1 es distinct (All-contains_itself es k d inside) in
      subst (λ o. IfSome o (λ z. name_of (part_of z) ≡ key_name e.0)) (get-by_name shows es (key_name e.0) ∙ ap (option_map shows) found) (named (key_name e.0)))

  apart_from : (k : NameKey) (es : List (NameKey × X)) → AreOwnNames es → (n : List ℕ) → n ≡ key_name k
      → AllByRecursion (λ y. key_eq k y ≡ false) (keys_of es) → AllByRecursion (λ m. bytes_eq n m ≡ false) (map name_of (map part (values_of es)))
  apart_from k [] own n same apart = tt
  apart_from k (e ∷ es) own n same apart = (rw (same, own.0) apart.0, apart_from k es own.1 n same apart.1)

  once_each : (es : List (NameKey × X)) → AreOwnNames es → IsDistinct key_eq (keys_of es) → IsDistinct bytes_eq (map name_of (map part (values_of es)))
  unfolding IsDistinct
  once_each [] own distinct = tt
  once_each (e ∷ es) own distinct = (apart_from e.0 es own.1 (name_of (part e.1)) own.0 distinct.0, once_each es own.1 distinct.1)

  found_in : (es : List (NameKey × X)) → AreOwnNames es → (n : List ℕ)
      → find (λ w. bytes_eq n (name_of w)) (map part (values_of es)) ≡ option_map part (at_text shows es n)
  found_in [] own n = refl
  found_in (e ∷ es) own n =
      ap (λ m. cond (bytes_eq n m) (Some (part e.1)) (find (λ w. bytes_eq n (name_of w)) (map part (values_of es)))) own.0
      ∙ ap (cond (bytes_eq n (key_name e.0)) (Some (part e.1))) (found_in es own.1 n)
      ∙ sym (option_map-cond part (bytes_eq n (key_name e.0)) (Some e.1) (at_text shows es n))

  module _ (es : List (NameKey × X)) (distinct : IsDistinct key_eq (keys_of es)) (named : IsKeyedByName (λ z. name_of (part_of z)) (by_name shows es)) where
    -- the parts have each name once
    pub values_once : IsDistinct bytes_eq (map name_of (map part (values_of es)))
    values_once = once_each es (own_names es distinct named) distinct

    -- the part of that name is of what the finite map has there
    pub values_found : (n : List ℕ) → find (λ w. bytes_eq n (name_of w)) (map part (values_of es)) ≡ option_map part_of (get (by_name shows es) n)
    values_found n =
        found_in es (own_names es distinct named) n ∙ twice (at_text shows es n) ∙ ap (option_map part_of) (sym (get-by_name shows es n))

-- the cookies of a table are those that its finite map has, each name once
pub walks_values : {X Z : Type 0} (shows : X → Z) (cookie_of : Z → Record) (es : List (NameKey × X)) → IsDistinct key_eq (keys_of es)
    → IsKeyedByName (λ z. (cookie_of z).name) (by_name shows es) → Walks (λ n. option_map cookie_of (get (by_name shows es) n)) (map (λ x. cookie_of (shows x)) (values_of es))
walks_values shows cookie_of es distinct named =
    record {
      found = values_found shows cookie_of (λ c. c.name) es distinct named;
      once = values_once shows cookie_of (λ c. c.name) es distinct named;
    }
