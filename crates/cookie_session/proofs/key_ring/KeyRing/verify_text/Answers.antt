use Rattle.std.proofs.Common.{◌≤◌, length, subst, arith}
use Rattle.std.specs.Option.{option_copied}
use Rattle.cookie_session.proofs.SignedLemmas.{Finds, none_next, signed_here, signed_nowhere}
use Rattle.cookie_session.proofs.key_ring.KeyRing.verify_text.Goals as goal

pub returns-in-Some-clause-some : goal.returns-in-Some-clause-some
returns-in-Some-clause-some c =
    let ring = c.args.self.now in
    let name = c.args.name.now in
    let text = c.args.text.now in
    let half = c.signer.result.now in
    signed_here ring name text c.loop-place.place c.at.result.now half c.at.ensures c.signer.ensures c.in-Some.value.now
    (subst (λ o. Finds ring name text half (option_copied o)) c.in-Some.is c.verify.ensures.exact)

pub loop-place-preserved : goal.loop-place-preserved
loop-place-preserved c =
    let ring = c.args.self.now in
    let name = c.args.name.now in
    let text = c.args.text.now in
    let half = c.signer.result.now in
    none_next ring name text c.loop-place.place c.at.result.now half c.at.ensures c.signer.ensures c.loop-place.invariant
    (subst (λ o. Finds ring name text half (option_copied o)) c.in_default.is c.verify.ensures.exact)

pub returns-clause-none : goal.returns-clause-none
returns-clause-none c _ =
    let past : length c.args.self.now ≤ c.loop-place.place = omega arith in
    signed_nowhere c.args.self.now c.args.name.now c.args.text.now c.loop-place.place past c.loop-place.invariant
