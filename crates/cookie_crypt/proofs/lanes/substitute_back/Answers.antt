use Rattle.std.proofs.Common.{◌≡◌, ◌<◌, ℕ, ap, bit_xor, refl, sym, ◌∙◌}
use Rattle.std.proofs.lemmas.Simd.{map-map}
use Rattle.cookie_crypt.specs.Lanes.{entry}
use Rattle.cookie_crypt.specs.Turned.{first_half, second_half, linear_part, turned_back}
use Rattle.cookie_crypt.specs.declared.lanes.TheConstants.{FIRST, SECOND}
use Rattle.cookie_crypt.proofs.LaneLemmas.{are_places}
use Rattle.cookie_crypt.proofs.SboxLemmas.{on_bytes}
use Rattle.cookie_crypt.proofs.TableLemmas.{looked_up, looked_up_from, looked_up-is, table}
use Rattle.cookie_crypt.proofs.TurnedLemmas.{on_fitting}
use Rattle.cookie_crypt.proofs.lanes.substitute_back.Goals as goal

pub look_up_halves-requires-clause-first : goal.look_up_halves-requires-clause-first
look_up_halves-requires-clause-first c = are_places first_half refl c.args.bytes _ c.fits-bytes.1 c.halves.ensures.first

pub look_up_halves-requires-clause-second : goal.look_up_halves-requires-clause-second
look_up_halves-requires-clause-second c = are_places second_half refl c.args.bytes _ c.fits-bytes.1 c.halves.ensures.second

-- what is looked up for S, by computing over all bytes
back_is : (x : ℕ) → x < 256 → bit_xor (entry FIRST (first_half x)) (entry SECOND (second_half x)) ≡ linear_part (turned_back x)
unfolding turned_back looked_up looked_up_from table
back_is x h =
    on_bytes (λ b. bit_xor (entry FIRST (first_half b)) (entry SECOND (second_half b))) (λ b. bit_xor (looked_up (turned_back b)) 0x63) refl x h
    ∙ ap (λ s. bit_xor s 0x63) (looked_up-is (turned_back x))

abbrev back : ℕ → ℕ
back b = bit_xor (entry FIRST (first_half b)) (entry SECOND (second_half b))

pub returns : goal.returns
returns c =
    let v = c.args.bytes in
    c.look_up_halves.ensures first_half second_half v c.halves.ensures.first c.halves.ensures.second
    ∙ on_fitting back (λ b. linear_part (turned_back b)) back_is v c.fits-bytes.1
    ∙ sym (map-map linear_part turned_back v)
