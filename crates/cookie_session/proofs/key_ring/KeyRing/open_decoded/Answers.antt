use Rattle.std.proofs.Common.{◌≤◌, length, option_map, subst, arith}
use Rattle.std.specs.String.{string_bytes}
use Rattle.cookie.specs.Keys.{encryption_half}
use Rattle.cookie_session.specs.OpenedText.{purpose_of, text_of}
use Rattle.cookie_session.proofs.KeyRingLemmas.{Finds, found_under, none_next, opened_here, opened_nowhere}
use Rattle.cookie_session.proofs.key_ring.KeyRing.open_decoded.Goals as goal

pub returns-in-Some : goal.returns-in-Some
returns-in-Some c =
    let purpose = purpose_of c.args.sealed.now in
    let ring = c.args.self.now in
    let name = c.args.name.now in
    let text = text_of c.args.sealed.now in
    let half = encryption_half c.at.result.now in
    let finds = found_under purpose name text c.sealer.result.now half (option_map string_bytes c.in_ok-value.field-0) c.sealer.ensures c.in_ok-value.ensures in
    opened_here purpose ring name text c.loop-place.place c.at.result.now c.at.ensures c.loop-place.invariant (string_bytes c.in-Some.value)
    (subst (λ o. Finds purpose ring name text half (option_map string_bytes o)) c.in-Some.is finds)

pub loop-place-preserved : goal.loop-place-preserved
loop-place-preserved c =
    let purpose = purpose_of c.args.sealed.now in
    let ring = c.args.self.now in
    let name = c.args.name.now in
    let text = text_of c.args.sealed.now in
    let half = encryption_half c.at.result.now in
    let finds = found_under purpose name text c.sealer.result.now half (option_map string_bytes c.in_ok-value.field-0) c.sealer.ensures c.in_ok-value.ensures in
    none_next purpose ring name text c.loop-place.place c.at.result.now c.at.ensures c.loop-place.invariant
    (subst (λ o. Finds purpose ring name text half (option_map string_bytes o)) c.in_default.is finds)

pub returns : goal.returns
returns c =
    let past : length c.args.self.now ≤ c.loop-place.place = omega arith in
    opened_nowhere (purpose_of c.args.sealed.now) c.args.self.now c.args.name.now (text_of c.args.sealed.now) c.loop-place.place past c.loop-place.invariant
