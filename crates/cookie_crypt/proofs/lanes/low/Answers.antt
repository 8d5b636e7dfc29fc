use Rattle.std.proofs.Common.{bit_and, map, ap, ◌∙◌}
use Rattle.std.proofs.lemmas.Simd.{zip2_splat, map-map}
use Rattle.cookie_crypt.proofs.lanes.low.Goals as goal

pub returns : goal.returns
returns c f v e = zip2_splat bit_and c.args.a 16 15 c.fits-a.0 ∙ ap (map (λ x. bit_and x 15)) e ∙ map-map (λ x. bit_and x 15) f v
