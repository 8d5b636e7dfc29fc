use Rattle.std.proofs.Common.{◌≡◌, ℕ, suc, ◌+◌, List, map, ap, sym, ◌∙◌, arith, bit_xor}
use Rattle.std.proofs.lemmas.Simd.{map-map}
use Rattle.cookie_crypt.specs.Aes.{sub_bytes, shift_rows, mix_columns, add_round_key, rounds}
use Rattle.cookie_crypt.specs.ByteField.{byte_times_x}
use Rattle.cookie_crypt.specs.Turned.{linear_part, schedule_of, turned_back}
use Rattle.cookie_crypt.proofs.TurnedLemmas.{length-mixed, shifted_lanes, shifted_parts}
use Rattle.cookie_crypt.proofs.aes.round.Goals as goal

-- round n + 1, after the n rounds before it
round_more : (w block : List ℕ) (n : ℕ) → add_round_key w (n + 1) (mix_columns (shift_rows (sub_bytes (rounds w n block)))) ≡ rounds w (n + 1) block
unfolding rounds
round_more w block n =
    let next : n + 1 ≡ suc n = omega arith in
    ap (λ m. add_round_key w m (mix_columns (shift_rows (sub_bytes (rounds w n block))))) next ∙ sym (ap (λ m. rounds w m block) next)

pub returns : goal.returns
returns c = λ block before.
    let s = c.args.state in
    let w = c.args.words.now in
    let shifted : List ℕ = shift_rows (sub_bytes (map turned_back s)) in
    let parts = ap (λ t. map linear_part (map turned_back t)) c.shift_rows.ensures ∙ shifted_parts s c.fits-state.0 in
    let once = c.substitute_turned.ensures.once ∙ parts in
    let twice = c.substitute_turned.ensures.twice ∙ sym (map-map byte_times_x linear_part (map turned_back c.shift_rows.result)) ∙ ap (map byte_times_x) parts
    ∙ map-map byte_times_x (λ b. bit_xor b 0x63) shifted in
    let mixed = c.mix_columns.ensures shifted (shifted_lanes (map turned_back s)) once twice in
    c.add_round_key.ensures.later (mix_columns shifted) (omega arith) (omega arith) (length-mixed shifted) mixed
    ∙ ap (λ t. add_round_key (schedule_of w) (c.args.done + 1) (mix_columns (shift_rows (sub_bytes t)))) before
    ∙ round_more (schedule_of w) block c.args.done
