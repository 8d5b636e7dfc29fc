-- A map that is filled from entries in order.
use Rattle.std.proofs.Common.{◌≡◌, ℕ, Bool, true, false, cond, T, List, [], ◌∷◌, Option, None, Some, refl, sym, ap, subst, ◌∙◌}
use Rattle.std.proofs.lemmas.Bool.{and_parts}
use Rattle.std.proofs.lemmas.Map.Lookups.{exact_bytes}
use Rattle.std.proofs.lemmas.Slice.Eq.{bytes_eq-Decides}
use Rattle.std.specs.Cmp.Lexicographic.{nat_list_cmp_total, texts_ties}
use Rattle.std.specs.FinMap.{FinMap, empty, entries, entries_sorted, find, get, get-empty, get-entries, get-insert, insert, is_sorted, same_map}
use Rattle.std.specs.FinMap.Entries.{below_all}
use Rattle.std.specs.Ordering.{eq_by_cmp, is_lt, is_eq}
use Rattle.std.specs.declared.cmp.Ordering.{Ordering}
use Rattle.std.specs.declared.cmp.Ordering.TheVariants.{Less, Equal, Greater}
use Rattle.cookie.specs.Jar.{name_cmp}
use Rattle.cookie_session.specs.Form.{filled}

-- the first of two, if there is one
abbrev first_of : Option (List ℕ) → Option (List ℕ) → Option (List ℕ)
first_of None other = other
first_of (Some x) other = Some x

first_of_none : (o : Option (List ℕ)) → first_of o None ≡ o
first_of_none None = refl
first_of_none (Some x) = refl

pub T-true : (b : Bool) → T b → b ≡ true
T-true true h = refl
T-true false h = absurd h

apart : (o : Ordering) → is_lt o ≡ true → is_eq o ≡ false
apart Less h = refl
apart Equal h = absurd (subst T (sym h) tt)
apart Greater h = refl

-- a name before all others isn't among them
pub find_below : (name : List ℕ) (es : List (List ℕ × List ℕ)) → below_all name_cmp name es ≡ true → find name_cmp name es ≡ None
find_below name [] h = refl
find_below name (e ∷ es) h =
    let parts = and_parts (is_lt (name_cmp name e.0)) (below_all name_cmp name es) h in
    ap (λ b. cond b (Some e.1) (find name_cmp name es)) (apart (name_cmp name e.0) parts.0) ∙ find_below name es parts.1

pub is_name : (name key : List ℕ) → eq_by_cmp name_cmp name key ≡ true → name ≡ key
is_name name key e = (bytes_eq-Decides name key).0 (texts_ties name key ∙ e)

-- what it has at a name
get-filled : (es : List (List ℕ × List ℕ)) (m : FinMap name_cmp (List ℕ)) (q : List ℕ) → is_sorted name_cmp es ≡ true
    → get (filled es m) q ≡ first_of (find name_cmp q es) (get m q)
get-filled [] m q sorted = refl
get-filled (e ∷ es) m q sorted =
    let parts = and_parts (below_all name_cmp e.0 es) (is_sorted name_cmp es) sorted in
    get-filled es (insert m e.0 e.1) q parts.1
    ∙ ap (first_of (find name_cmp q es)) (get-insert nat_list_cmp_total m e.0 e.1 q)
    ∙ by (eq_by_cmp name_cmp q e.0) refl (λ is. ap (λ n. find name_cmp n es) (is_name q e.0 is) ∙ find_below e.0 es parts.0)
  where
    by : (b : Bool) → eq_by_cmp name_cmp q e.0 ≡ b → (eq_by_cmp name_cmp q e.0 ≡ true → find name_cmp q es ≡ None)
        → first_of (find name_cmp q es) (cond b (Some e.1) (get m q)) ≡ first_of (cond b (Some e.1) (find name_cmp q es)) (get m q)
    by true is none = ap (λ o. first_of o (Some e.1)) (none is)
    by false is none = refl

-- filled with its own entries it is the same map
pub filled-entries : (m : FinMap name_cmp (List ℕ)) → filled (entries m) empty ≡ m
filled-entries m = same_map nat_list_cmp_total exact_bytes _ _ (λ q.
    get-filled (entries m) empty q (T-true (is_sorted name_cmp (entries m)) (entries_sorted m))
    ∙ ap (first_of (find name_cmp q (entries m))) (get-empty name_cmp q)
    ∙ first_of_none (find name_cmp q (entries m)) ∙ sym (get-entries m q))
