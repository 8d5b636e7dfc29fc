use Rattle.std.proofs.Common.{◌≡◌, map, length, bit_xor, ap, ◌∙◌}
use Rattle.std.proofs.lemmas.List.{length-map}
use Rattle.std.proofs.lemmas.Simd.{zip2_splat, map-map}
use Rattle.cookie_crypt.specs.Sbox.{s_box}
use Rattle.cookie_crypt.specs.Turned.{linear_part}
use Rattle.cookie_crypt.proofs.TurnedLemmas.{on_fitting, xor_twice}
use Rattle.cookie_crypt.proofs.lanes.substitute.Goals as goal

pub returns : goal.returns
returns c =
    let v = c.args.bytes in
    let linear = c.substitute_back.ensures ∙ ap (map linear_part) c.turn.ensures in
    let long : length c.substitute_back.result ≡ 16 = ap length linear ∙ length-map v linear_part ∙ c.fits-bytes.0 in
    zip2_splat bit_xor c.substitute_back.result 16 99 long ∙ ap (map (λ x. bit_xor x 99)) linear ∙ map-map (λ x. bit_xor x 99) linear_part v
    ∙ on_fitting (λ b. bit_xor (linear_part b) 99) s_box (λ b h. xor_twice (s_box b) 99) v c.fits-bytes.1
