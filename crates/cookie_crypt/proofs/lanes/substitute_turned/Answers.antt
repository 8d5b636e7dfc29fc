use Rattle.std.proofs.Common.{◌≡◌, ◌<◌, ℕ, map, bit_xor, refl, sym, ap, ◌∙◌}
use Rattle.std.proofs.lemmas.Simd.{map-map}
use Rattle.cookie_crypt.specs.ByteField.{byte_times_x}
use Rattle.cookie_crypt.specs.Lanes.{entry}
use Rattle.cookie_crypt.specs.Turned.{first_half, second_half, linear_part, turned_back}
use Rattle.cookie_crypt.specs.declared.lanes.TheConstants.{ONCE_FIRST, ONCE_SECOND, TWICE_FIRST, TWICE_SECOND}
use Rattle.cookie_crypt.proofs.LaneLemmas.{are_places}
use Rattle.cookie_crypt.proofs.SboxLemmas.{on_bytes}
use Rattle.cookie_crypt.proofs.TableLemmas.{looked_up, looked_up_from, looked_up-is, table}
use Rattle.cookie_crypt.proofs.TurnedLemmas.{on_fitting}
use Rattle.cookie_crypt.proofs.lanes.substitute_turned.Goals as goal

pub look_up_halves-requires-clause-first : goal.look_up_halves-requires-clause-first
look_up_halves-requires-clause-first c = are_places first_half refl c.args.bytes _ c.fits-bytes.1 c.halves.ensures.first

pub look_up_halves-requires-clause-second : goal.look_up_halves-requires-clause-second
look_up_halves-requires-clause-second c = are_places second_half refl c.args.bytes _ c.fits-bytes.1 c.halves.ensures.second

pub look_up_halves-requires-2-clause-first : goal.look_up_halves-requires-2-clause-first
look_up_halves-requires-2-clause-first c = are_places first_half refl c.args.bytes _ c.fits-bytes.1 c.halves.ensures.first

pub look_up_halves-requires-2-clause-second : goal.look_up_halves-requires-2-clause-second
look_up_halves-requires-2-clause-second c = are_places second_half refl c.args.bytes _ c.fits-bytes.1 c.halves.ensures.second

-- what is looked up for S once and twice, by computing over all bytes
once_is : (x : ℕ) → x < 256 → turned_back (bit_xor (entry ONCE_FIRST (first_half x)) (entry ONCE_SECOND (second_half x))) ≡ linear_part (turned_back x)
unfolding turned_back looked_up looked_up_from table
once_is x h =
    on_bytes (λ b. turned_back (bit_xor (entry ONCE_FIRST (first_half b)) (entry ONCE_SECOND (second_half b)))) (λ b. bit_xor (looked_up (turned_back b)) 0x63) refl x h
    ∙ ap (λ s. bit_xor s 0x63) (looked_up-is (turned_back x))

twice_is : (x : ℕ) → x < 256 → turned_back (bit_xor (entry TWICE_FIRST (first_half x)) (entry TWICE_SECOND (second_half x))) ≡ byte_times_x (linear_part (turned_back x))
unfolding turned_back looked_up looked_up_from table byte_times_x
twice_is x h =
    on_bytes (λ b. turned_back (bit_xor (entry TWICE_FIRST (first_half b)) (entry TWICE_SECOND (second_half b)))) (λ b. byte_times_x (bit_xor (looked_up (turned_back b)) 0x63)) refl x h
    ∙ ap (λ s. byte_times_x (bit_xor s 0x63)) (looked_up-is (turned_back x))

abbrev once : ℕ → ℕ
once b = bit_xor (entry ONCE_FIRST (first_half b)) (entry ONCE_SECOND (second_half b))

abbrev twice : ℕ → ℕ
twice b = bit_xor (entry TWICE_FIRST (first_half b)) (entry TWICE_SECOND (second_half b))

pub returns-clause-once : goal.returns-clause-once
returns-clause-once c =
    let v = c.args.bytes in
    ap (map turned_back) (c.look_up_halves.ensures first_half second_half v c.halves.ensures.first c.halves.ensures.second)
    ∙ map-map turned_back once v
    ∙ on_fitting (λ b. turned_back (once b)) (λ b. linear_part (turned_back b)) once_is v c.fits-bytes.1
    ∙ sym (map-map linear_part turned_back v)

pub returns-clause-twice : goal.returns-clause-twice
returns-clause-twice c =
    let v = c.args.bytes in
    ap (map turned_back) (c.look_up_halves-2.ensures first_half second_half v c.halves.ensures.first c.halves.ensures.second)
    ∙ map-map turned_back twice v
    ∙ on_fitting (λ b. turned_back (twice b)) (λ b. byte_times_x (linear_part (turned_back b))) twice_is v c.fits-bytes.1
    ∙ sym (map-map (λ b. byte_times_x (linear_part b)) turned_back v)
