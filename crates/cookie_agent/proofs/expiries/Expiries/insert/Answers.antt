-- A search finds the new pair, and what it found before.
use Rattle.std.proofs.Common.{◌≡◌, ℤ, true, cond, None, Some, subst}
use Rattle.std.proofs.lemmas.Int.{to_z-of_z}
use Rattle.std.specs.Int.{w128}
use Rattle.std.specs.List.{list_any}
use Rattle.cookie_agent.proofs.ExpiriesLemmas.{from_found, is_pair, still}
use Rattle.cookie_agent.proofs.expiries.Expiries.insert.Goals as goal

pub returns-clause-listed : goal.returns-clause-listed
returns-clause-listed c =
    from_found (c.args.expiry, c.args.number) c.insert.new.self.keys (subst (λ (z : ℤ). list_any (is_pair (z, c.args.number)) c.insert.new.self.keys ≡ true)
    (to_z-of_z w128 c.args.expiry c.ranges.expiry) c.in_ok-insert.ensures.updates.1)

pub returns-clause-stay : goal.returns-clause-stay
returns-clause-stay c n None here = tt
returns-clause-stay c n (Some other) here =
    still (c.args.expiry, c.args.number) (other, n) c.args.self.now.listed.keys c.insert.new.self.keys
    (subst (λ (z : ℤ). list_any (is_pair (other, n)) c.insert.new.self.keys ≡ cond (is_pair (z, c.args.number) (other, n)) true (list_any (is_pair (other, n)) c.args.self.now.listed.keys))
    (to_z-of_z w128 c.args.expiry c.ranges.expiry) (c.in_ok-insert.ensures.updates.0 (other, n))) here
