use Rattle.std.proofs.Common.{◌/◌, bit_and, refl}
use Rattle.cookie_crypt.specs.Turned.{both, upper_sum, both_sum}
use Rattle.cookie_crypt.proofs.LaneLemmas.{are_places, as_it_is}
use Rattle.cookie_crypt.proofs.lanes.halves.Goals as goal

pub look_up-over-requires : goal.look_up-over-requires
look_up-over-requires c =
    let v = c.args.bytes in
    are_places (λ b. bit_and b 15) refl v c.low-k.result c.fits-bytes.1 (c.low-k.ensures (λ b. b) v (as_it_is v))

pub look_up-requires : goal.look_up-requires
look_up-requires c =
    let v = c.args.bytes in
    are_places (λ b. b / 16) refl v c.high-i.result c.fits-bytes.1 (c.high-i.ensures (λ b. b) v (as_it_is v))

pub look_up-requires-2 : goal.look_up-requires-2
look_up-requires-2 c =
    let v = c.args.bytes in
    let i = c.high-i.ensures (λ b. b) v (as_it_is v) in
    let k = c.low-k.ensures (λ b. b) v (as_it_is v) in
    let o = c.look_up-over.ensures _ v k in
    are_places upper_sum refl v c.sum.result c.fits-bytes.1 (c.sum.ensures _ _ v (c.look_up.ensures _ v i) o)

pub look_up-requires-3 : goal.look_up-requires-3
look_up-requires-3 c =
    let v = c.args.bytes in
    let i = c.high-i.ensures (λ b. b) v (as_it_is v) in
    let k = c.low-k.ensures (λ b. b) v (as_it_is v) in
    are_places both refl v c.sum-j.result c.fits-bytes.1 (c.sum-j.ensures _ _ v i k)

pub look_up-requires-4 : goal.look_up-requires-4
look_up-requires-4 c =
    let v = c.args.bytes in
    let i = c.high-i.ensures (λ b. b) v (as_it_is v) in
    let k = c.low-k.ensures (λ b. b) v (as_it_is v) in
    let j = c.sum-j.ensures _ _ v i k in
    let o = c.look_up-over.ensures _ v k in
    are_places both_sum refl v c.sum-2.result c.fits-bytes.1 (c.sum-2.ensures _ _ v (c.look_up-3.ensures both v j) o)

pub returns-clause-first : goal.returns-clause-first
returns-clause-first c =
    let v = c.args.bytes in
    let i = c.high-i.ensures (λ b. b) v (as_it_is v) in
    let k = c.low-k.ensures (λ b. b) v (as_it_is v) in
    let j = c.sum-j.ensures _ _ v i k in
    let o = c.look_up-over.ensures _ v k in
    let p = c.sum.ensures _ _ v (c.look_up.ensures _ v i) o in
    c.sum-first.ensures _ _ v (c.look_up-2.ensures upper_sum v p) j

pub returns-clause-second : goal.returns-clause-second
returns-clause-second c =
    let v = c.args.bytes in
    let i = c.high-i.ensures (λ b. b) v (as_it_is v) in
    let k = c.low-k.ensures (λ b. b) v (as_it_is v) in
    let j = c.sum-j.ensures _ _ v i k in
    let o = c.look_up-over.ensures _ v k in
    let q = c.sum-2.ensures _ _ v (c.look_up-3.ensures both v j) o in
    c.sum-second.ensures _ _ v (c.look_up-4.ensures both_sum v q) i
