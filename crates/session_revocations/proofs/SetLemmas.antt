-- The rows as a set of revoked ids.
use Rattle.std.proofs.Common.{◌≡◌, ◌↔◌, ℕ, zero, suc, ◌+◌, ◌&&◌, true, pos, List, Result, Ok, Err, OnOk, refl, sym, subst, ◌∙◌, arith}
use Rattle.sqlite.specs.Order.{Row}
use Rattle.session_revocations.specs.Held.{Forgets, lasts_until}
use Rattle.session_revocations.specs.Revoked.{is_among_until}
use Rattle.session_revocations.proofs.RowLemmas.{both_first, both_second, both, until_is_revoked}

-- what stays once the past ones are forgotten
pub forgotten : (now : ℕ) (old new : List Row) → Forgets now old new → (id : List ℕ) (second : ℕ)
    → lasts_until new id second ↔ (lasts_until old id (now + 1) × lasts_until old id second)
forgotten now old new is id second = subst (λ n. lasts_until new id second ↔ (lasts_until old id n × lasts_until old id second)) (sym next) (by second)
  where
    next : now + 1 ≡ suc now
    next = omega arith

    here : is_among_until old id (pos (now + 1)) ≡ is_among_until old id (pos (suc now))
    here = rw next refl

    by : (second : ℕ) → lasts_until new id second ↔ (lasts_until old id (suc now) × lasts_until old id second)
    by zero = (
      λ stays. let kept : is_among_until old id (pos (suc now)) ≡ true = sym (is.ids id ∙ here) ∙ stays in (kept, until_is_revoked old id (pos (suc now)) kept),
      λ both. is.ids id ∙ here ∙ both.0,
    )
    by (suc n) = (
      λ stays.
          let kept : (is_among_until old id (pos (now + 1)) && is_among_until old id (pos (suc n))) ≡ true = sym (is.untils id (pos (suc n))) ∙ stays in
          (sym here ∙ both_first _ _ kept, both_second _ _ kept),
      λ kept. is.untils id (pos (suc n)) ∙ both _ _ (here ∙ kept.0) kept.1,
    )

-- so it is once a call returned
pub on_forgotten : {T E Live : Type 0} (now : ℕ) (old new : List Row) (result : Result T E) → Live → OnOk result (Live → Forgets now old new)
    → OnOk result ((id : List ℕ) (second : ℕ) → lasts_until new id second ↔ (lasts_until old id (now + 1) × lasts_until old id second))
on_forgotten now old new (Ok value) live done = forgotten now old new (done live)
on_forgotten now old new (Err error) live done = tt
