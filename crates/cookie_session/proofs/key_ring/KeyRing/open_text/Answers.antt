use Rattle.std.specs.Option.{option_copied}
use Rattle.cookie_session.proofs.KeyRingLemmas.{found_as}
use Rattle.cookie_session.proofs.key_ring.KeyRing.open_text.Goals as goal

pub returns : goal.returns
returns c =
    found_as _ (option_copied c.args.purpose) c.args.self.now c.args.name.now _ c.args.text.now c.open_decoded.result
    c.in_ok-sealed.ensures.purpose c.in_ok-sealed.ensures.text c.open_decoded.ensures
