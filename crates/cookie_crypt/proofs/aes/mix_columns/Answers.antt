use Rattle.std.proofs.Common.{ℕ, List, ◌+◌, ◌*◌, ◌/◌, ◌%◌, get_or, bit_xor, map, ap, sym, ◌∙◌}
use Rattle.std.specs.List.{range_with_len}
use Rattle.std.proofs.lemmas.Simd.{map-map}
use Rattle.cookie_crypt.specs.Aes.{mixed_cell, mix_columns}
use Rattle.cookie_crypt.specs.Turned.{turned_back}
use Rattle.cookie_crypt.proofs.LaneLemmas.{by_place, on_places}
use Rattle.cookie_crypt.proofs.TurnedLemmas.{mixed_back}
use Rattle.cookie_crypt.proofs.aes.mix_columns.Goals as goal

abbrev at : List ℕ → ℕ → ℕ
at s i = get_or s i 0

abbrev next_at : List ℕ → ℕ → ℕ
next_at s i = get_or s (4 * (i / 4) + (i + 1) % 4) 0

abbrev last_at : List ℕ → ℕ → ℕ
last_at s i = get_or s (4 * (i / 4) + (i + 3) % 4) 0

abbrev near_at : List ℕ → List ℕ → ℕ → ℕ
near_at once twice i = bit_xor (at twice i) (next_at once i)

abbrev far_at : List ℕ → List ℕ → ℕ → ℕ
far_at once twice i = near_at once twice (4 * (i / 4) + (i + 1) % 4)

abbrev mixed_at : List ℕ → List ℕ → ℕ → ℕ
mixed_at once twice i = bit_xor (bit_xor (near_at once twice i) (last_at once i)) (far_at once twice i)

pub returns : goal.returns
unfolding mix_columns
returns c = λ state lanes is is'.
    let once = c.args.once in
    let twice = c.args.twice in
    let places = range_with_len 0 16 in
    let own = by_place once c.fits-once.0 in
    let near = c.sum-near.ensures (at twice) (next_at once) places (by_place twice c.fits-twice.0) (c.next_in_column.ensures (at once) own) in
    let last = c.last_in_column.ensures (at once) own in
    let far = c.next_in_column-2.ensures (near_at once twice) near in
    ap (map turned_back) (c.sum-2.ensures (λ i. bit_xor (near_at once twice i) (last_at once i)) (far_at once twice) places (c.sum.ensures (near_at once twice) (last_at once) places near last) far)
    ∙ map-map turned_back (mixed_at once twice) places
    ∙ on_places (λ i. turned_back (mixed_at once twice i)) (λ i. bit_xor (mixed_cell state (i % 4) (i / 4)) 0x63)
    (mixed_back once twice state c.fits-once.0 c.fits-twice.0 c.fits-once.1 c.fits-twice.1 lanes is is')
    ∙ sym (map-map (λ b. bit_xor b 0x63) (λ i. mixed_cell state (i % 4) (i / 4)) places)
