use Rattle.std.proofs.Common.{◌/◌, ◌^◌, map, ap, ◌∙◌}
use Rattle.std.proofs.lemmas.Simd.{zip2_splat, map-map}
use Rattle.cookie_crypt.proofs.lanes.high.Goals as goal

pub returns : goal.returns
returns c f v e = zip2_splat (λ x s. x / 2 ^ s) c.args.a 16 4 c.fits-a.0 ∙ ap (map (λ x. x / 16)) e ∙ map-map (λ x. x / 16) f v
