use Rattle.std.proofs.Common.{ℕ, ◌/◌, map, bit_and, bit_xor, refl, sym, ap, ◌∙◌}
use Rattle.std.proofs.lemmas.Simd.{map-map}
use Rattle.cookie_crypt.specs.Lanes.{entry}
use Rattle.cookie_crypt.specs.Turned.{turned_back}
use Rattle.cookie_crypt.specs.declared.lanes.TheConstants.{FROM_LOW, FROM_HIGH}
use Rattle.cookie_crypt.proofs.LaneLemmas.{are_places, as_it_is, on_lanes}
use Rattle.cookie_crypt.proofs.lanes.turn.Goals as goal

abbrev turned : ℕ → ℕ
turned b = bit_xor (entry FROM_LOW (bit_and b 15)) (entry FROM_HIGH (b / 16))

pub look_up-requires : goal.look_up-requires
look_up-requires c =
    let v = c.args.bytes in
    are_places (λ b. bit_and b 15) refl v c.low.result c.fits-bytes.1 (c.low.ensures (λ b. b) v (as_it_is v))

pub look_up-requires-2 : goal.look_up-requires-2
look_up-requires-2 c =
    let v = c.args.bytes in
    are_places (λ b. b / 16) refl v c.high.result c.fits-bytes.1 (c.high.ensures (λ b. b) v (as_it_is v))

pub returns : goal.returns
unfolding turned_back
returns c =
    let v = c.args.bytes in
    let low = c.low.ensures (λ b. b) v (as_it_is v) in
    let high = c.high.ensures (λ b. b) v (as_it_is v) in
    ap (map turned_back) (c.sum.ensures _ _ v (c.look_up.ensures _ v low) (c.look_up-2.ensures _ v high))
    ∙ map-map turned_back turned v ∙ on_lanes (λ b. turned_back (turned b)) (λ b. b) refl v c.fits-bytes.1 ∙ sym (as_it_is v)
