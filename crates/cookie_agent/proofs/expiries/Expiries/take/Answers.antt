-- A search finds all that it found before, but for that pair.
use Rattle.std.proofs.Common.{◌≡◌, ℤ, ℕ, false, cond, None, Some, ap, inl, inr, subst, ⊎_elim}
use Rattle.std.proofs.lemmas.Int.{to_z-of_z}
use Rattle.std.specs.Int.{w128}
use Rattle.std.specs.List.{list_any}
use Rattle.cookie_agent.proofs.ExpiriesLemmas.{is_pair, others}
use Rattle.cookie_agent.proofs.expiries.Expiries.take.Goals as goal

pub returns : goal.returns
returns c n None here = inl tt
returns c n (Some other) here =
    ⊎_elim inl (λ same. inr (ap (λ (r : ℤ × ℕ). r.1) same, ap (λ (r : ℤ × ℕ). Some r.0) same))
    (others (c.args.expiry, c.args.number) (other, n) c.args.self.now.listed.keys c.remove.new.self.keys
    (subst (λ (z : ℤ). list_any (is_pair (other, n)) c.remove.new.self.keys ≡ cond (is_pair (z, c.args.number) (other, n)) false (list_any (is_pair (other, n)) c.args.self.now.listed.keys))
    (to_z-of_z w128 c.args.expiry c.ranges.expiry) (c.remove.ensures.updates.0 (other, n))) here)
