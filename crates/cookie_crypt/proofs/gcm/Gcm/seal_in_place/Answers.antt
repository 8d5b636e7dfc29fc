use Rattle.cookie_crypt.specs.Gcm.{hash_subkey}
use Rattle.cookie_crypt.proofs.HornerLemmas.{has_sum}
use Rattle.cookie_crypt.proofs.BytesLemmas.{seals_to_bytes_as}
use Rattle.cookie_crypt.proofs.gcm.Gcm.seal_in_place.Goals as goal

pub returns-then-not-is_within-clause-bytes : goal.returns-then-not-is_within-clause-bytes
returns-then-not-is_within-clause-bytes c = seals_to_bytes_as c.args.self.now _ c.self.invariant c.self.view_is

pub returns-clause-bytes : goal.returns-clause-bytes
returns-clause-bytes c = seals_to_bytes_as c.args.self.now _ c.self.invariant c.self.view_is

pub returns-then-not-is_within-clause-steps_are_the_sum : goal.returns-then-not-is_within-clause-steps_are_the_sum
returns-then-not-is_within-clause-steps_are_the_sum c = has_sum (hash_subkey c.args.self.now)

pub returns-clause-steps_are_the_sum : goal.returns-clause-steps_are_the_sum
returns-clause-steps_are_the_sum c = has_sum (hash_subkey c.args.self.now)
