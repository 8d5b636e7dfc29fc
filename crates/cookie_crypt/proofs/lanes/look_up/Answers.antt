use Rattle.cookie_crypt.proofs.LaneLemmas.{places_ok, looked_up}
use Rattle.cookie_crypt.proofs.lanes.look_up.Goals as goal

pub swizzle : goal.swizzle
swizzle c = places_ok c.args.places c.fits-places.0 c.requires

pub returns : goal.returns
returns c f v e = looked_up c.args.table c.args.places f v c.fits-places.0 e
