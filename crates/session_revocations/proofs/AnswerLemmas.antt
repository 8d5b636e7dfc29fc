-- The rows that a query of the table shows are those that pass its filter.
use Rattle.std.proofs.Common.{◌≡◌, inl, inr, pos, negsuc, List, [], ◌∷◌, ◌++◌, map, Bool, true, false, cond, None, refl, sym, ap, subst, ◌∙◌}
use Rattle.std.specs.List.{flat_map, list_all}
use Rattle.std.specs.List.Sorted.{IsPermutation}
use Rattle.std.proofs.lemmas.List.Sorted.{Contains-permutation, IsPermutation-sym}
use Rattle.sqlite.specs.Order.{Row}
use Rattle.sqlite.specs.Program.{overlay}
use Rattle.sqlite.specs.Query.{IsAnswer, Output, Query, end, inner, matches, output}
use Rattle.sqlite.specs.Term.{Term, eval_all, holds, lit}
use Rattle.sqlite.specs.Tree.{Trees}
use Rattle.sqlite.specs.declared.types.Value.TheVariants.{Int}
use Rattle.sqlite_rules.proofs.ListLemmas.{contains_had, has_contained, has_right}
use Rattle.sqlite_rules.proofs.ProbeLemmas.{has_mapped, mapped_has}
use Rattle.sqlite_rules.specs.Lists.{Has}
use Rattle.sqlite_value.specs.declared.keys.Key.{Key}

-- these columns of the rows of the table that pass a filter, in an order
abbrev pub query_of : List Term → List Term → List (Term × Key) → Query
query_of filter project order = record {
  from = inner 0 end;
  filter = filter;
  group = None;
  project = project;
  distinct = false;
  collations = [];
  order = order;
  limit = lit (Int (negsuc 0));
  offset = lit (Int (pos 0));
}

has_matched : {X Y : Type 0} (p : X → Bool) (f : X → Y) (xs : List X) (y : Y) → Has (flat_map (λ x. cond (p x) (f x ∷ []) []) xs) y → (x : X) × Has xs x × (p x ≡ true) × (y ≡ f x)
has_matched p f [] y h = absurd h
has_matched {X} {Y} p f (x ∷ xs) y h = go (p x) refl h (has_matched p f xs y)
  where
    go : (b : Bool) → p x ≡ b → Has (cond b (f x ∷ []) [] ++ flat_map (λ z. cond (p z) (f z ∷ []) []) xs) y
        → (Has (flat_map (λ z. cond (p z) (f z ∷ []) []) xs) y → (z : X) × Has xs z × (p z ≡ true) × (y ≡ f z)) → (z : X) × Has (x ∷ xs) z × (p z ≡ true) × (y ≡ f z)
    go true is (inl same) later = (x, inl refl, is, same)
    go true is (inr there) later = let r = later there in (r.0, inr r.1, r.2, r.3)
    go false is there later = let r = later there in (r.0, inr r.1, r.2, r.3)

matched_has : {X Y : Type 0} (p : X → Bool) (f : X → Y) (xs : List X) (x : X) → Has xs x → p x ≡ true → Has (flat_map (λ z. cond (p z) (f z ∷ []) []) xs) (f x)
matched_has p f [] x h passes = absurd h
matched_has p f (z ∷ xs) x (inl same) passes = rw (← same, passes) (inl refl)
matched_has p f (z ∷ xs) x (inr later) passes = has_right (cond (p z) (f z ∷ []) []) (flat_map (λ w. cond (p w) (f w ∷ []) []) xs) (f x) (matched_has p f xs x later passes)

has_permuted : {X : Type 0} (xs ys : List X) (x : X) → IsPermutation xs ys → Has xs x → Has ys x
has_permuted xs ys x same h = has_contained ys x (Contains-permutation xs ys x same (contains_had xs x h))

-- Each row that passes is shown, and nothing else.
pub record Shows (filter project : List Term) (params : Row) (rows found : List Row) : Type 0 where
  pub only : (f : Row) → Has found f → (r : Row) × Has rows r × (list_all (holds (params ∷ r ∷ [])) filter ≡ true) × (f ≡ eval_all project (params ∷ r ∷ []))
  pub all : (r : Row) → Has rows r → list_all (holds (params ∷ r ∷ [])) filter ≡ true → Has found (eval_all project (params ∷ r ∷ []))

pub shows : (filter project : List Term) (order : List (Term × Key)) (params : Row) (db : Trees) (found : List Row) → IsAnswer (query_of filter project order) (overlay db []) params found
    → Shows filter project params (db 0) found
shows filter project order params db found a =
    let q = query_of filter project order in
    let test = λ (r : Row). list_all (holds (params ∷ r ∷ [])) filter in
    let env = λ (r : Row). params ∷ r ∷ [] in
    let all = matches (overlay db []) filter (inner 0 end) (params ∷ []) in
    let kept : a.kept ≡ map (output q) all = a.distinct ∙ ap (map (output q)) a.grouped in
    record {
      only = λ f h.
          let o = has_mapped (λ (k : Output). k.1) a.ordered f (subst (λ l. Has l f) a.shown h) in
          let e = has_mapped (output q) all o.0 (subst (λ l. Has l o.0) kept (has_permuted a.ordered a.kept o.0 (IsPermutation-sym _ _ a.same) o.1)) in
          let r = has_matched test env (db 0) e.0 e.1 in
          (r.0, r.1, r.2, o.2 ∙ ap (λ (k : Output). k.1) (e.2 ∙ ap (output q) r.3));
      all = λ r h passes.
          let o = output q (env r) in
          let there = subst (λ l. Has l o) (sym kept) (mapped_has (output q) all (env r) (matched_has test env (db 0) r h passes)) in
          subst (λ l. Has l (eval_all project (params ∷ r ∷ []))) (sym a.shown) (mapped_has (λ (k : Output). k.1) a.ordered o (has_permuted a.kept a.ordered o a.same there));
    }
