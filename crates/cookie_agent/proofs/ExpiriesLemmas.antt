-- A set of expiries with numbers: what it lists.
use Rattle.std.proofs.Common.{◌≡◌, ◌&&◌, ℕ, ℤ, Bool, true, false, cond, List, get_or, refl, sym, ap, ◌∙◌, ◌⊎◌, inl, inr}
use Rattle.std.proofs.lemmas.Bool.{and_parts}
use Rattle.std.proofs.lemmas.Bool.Decides.{Decides-int_eq}
use Rattle.std.proofs.lemmas.List.Folds.{list_any_at}
use Rattle.std.proofs.lemmas.Map.Views.{Contains-from_any}
use Rattle.std.specs.Cmp.{tied_then, unsigned_ties}
use Rattle.std.specs.List.{Contains, list_any}
use Rattle.std.specs.Ordering.{int_cmp, int_eq, is_eq, nat_cmp, ordering_then}
use Rattle.std.specs.declared.cmp.Ordering.{Ordering}
use Rattle.cookie_agent.proofs.NumberLemmas.{number_same, same_number}

-- by the expiry, and then by the number
abbrev pub in_order : ℤ × ℕ → ℤ × ℕ → Ordering
in_order p q = ordering_then (int_cmp p.0 q.0) (nat_cmp p.1 q.1)

abbrev pub is_pair : ℤ × ℕ → ℤ × ℕ → Bool
is_pair p q = is_eq (in_order p q)

pub pair_same : (p q : ℤ × ℕ) → is_pair p q ≡ true → p ≡ q
pair_same p q e =
    let both = and_parts (int_eq p.0 q.0) (is_eq (nat_cmp p.1 q.1)) (tied_then (int_cmp p.0 q.0) (nat_cmp p.1 q.1) ∙ e) in
    ap (λ t. (t, p.1)) ((Decides-int_eq p.0 q.0).0 both.0) ∙ ap (λ n. (q.0, n)) (number_same p.1 q.1 (unsigned_ties p.1 q.1 ∙ both.1))

pub same_pair : (p q : ℤ × ℕ) → p ≡ q → is_pair p q ≡ true
same_pair p q e =
    sym (tied_then (int_cmp p.0 q.0) (nat_cmp p.1 q.1))
    ∙ ap (λ b. b && is_eq (nat_cmp p.1 q.1)) ((Decides-int_eq p.0 q.0).1 (ap (λ (r : ℤ × ℕ). r.0) e))
    ∙ sym (unsigned_ties p.1 q.1) ∙ same_number p.1 q.1 (ap (λ (r : ℤ × ℕ). r.1) e)

-- a pair is listed if a search finds it
pub is_found : (q : ℤ × ℕ) (ps : List (ℤ × ℕ)) → Contains ps q → list_any (is_pair q) ps ≡ true
is_found q ps (k, below, at) = list_any_at (is_pair q) ps k q below (same_pair q (get_or ps k q) (sym at))

pub from_found : (q : ℤ × ℕ) (ps : List (ℤ × ℕ)) → list_any (is_pair q) ps ≡ true → Contains ps q
from_found q ps found = Contains-from_any {eq = is_pair} pair_same q ps found

-- after an addition what was listed is
pub still : (p q : ℤ × ℕ) (ps after : List (ℤ × ℕ)) → list_any (is_pair q) after ≡ cond (is_pair p q) true (list_any (is_pair q) ps) → Contains ps q → Contains after q
still p q ps after is here = from_found q after (is ∙ by (is_pair p q) (is_found q ps here))
  where
    by : (b : Bool) → list_any (is_pair q) ps ≡ true → cond b true (list_any (is_pair q) ps) ≡ true
    by true found = refl
    by false found = found

-- after a removal all but that pair
pub others : (p q : ℤ × ℕ) (ps after : List (ℤ × ℕ)) → list_any (is_pair q) after ≡ cond (is_pair p q) false (list_any (is_pair q) ps) → Contains ps q → Contains after q ⊎ (q ≡ p)
others p q ps after is here = by (is_pair p q) refl is
  where
    by : (b : Bool) → is_pair p q ≡ b → list_any (is_pair q) after ≡ cond b false (list_any (is_pair q) ps) → Contains after q ⊎ (q ≡ p)
    by true same e = inr (sym (pair_same p q same))
    by false other e = inl (from_found q after (e ∙ is_found q ps here))
