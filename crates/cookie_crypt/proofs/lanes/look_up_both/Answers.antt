use Rattle.std.proofs.Common.{◌/◌, bit_and, bit_xor, refl, ◌∙◌}
use Rattle.std.proofs.lemmas.Simd.{zip2_of_maps}
use Rattle.cookie_crypt.specs.Lanes.{entry, looked_up}
use Rattle.cookie_crypt.proofs.LaneLemmas.{are_places, as_it_is}
use Rattle.cookie_crypt.proofs.lanes.look_up_both.Goals as goal

pub look_up-requires : goal.look_up-requires
look_up-requires c =
    let v = c.args.bytes in
    are_places (λ x. x / 16) refl v c.high.result c.fits-bytes.1 (c.high.ensures (λ x. x) v (as_it_is v))

pub look_up-requires-2 : goal.look_up-requires-2
look_up-requires-2 c =
    let v = c.args.bytes in
    are_places (λ x. bit_and x 15) refl v c.low.result c.fits-bytes.1 (c.low.ensures (λ x. x) v (as_it_is v))

pub returns-clause-value : goal.returns-clause-value
unfolding looked_up
returns-clause-value c =
    let v = c.args.bytes in
    let high = c.high.ensures (λ x. x) v (as_it_is v) in
    let low = c.low.ensures (λ x. x) v (as_it_is v) in
    c.add.ensures.each
    ∙ zip2_of_maps bit_xor (λ x. entry c.args.upper (x / 16)) (λ x. entry c.args.lower (bit_and x 15)) v
    (c.look_up.ensures (λ x. x / 16) v high) (c.look_up-2.ensures (λ x. bit_and x 15) v low)
