use Rattle.std.proofs.Common.{map, refl, ap, ◌∙◌}
use Rattle.cookie_crypt.specs.Aes.{sub_bytes, shift_rows, add_round_key, cipher}
use Rattle.cookie_crypt.specs.Turned.{linear_part, schedule_of, turned_back}
use Rattle.cookie_crypt.proofs.TurnedLemmas.{shifted_lanes, shifted_parts}
use Rattle.cookie_crypt.proofs.aes.last_round.Goals as goal

pub returns : goal.returns
unfolding cipher
returns c = λ block before.
    let s = c.args.state in
    let shifted = c.substitute_back.ensures ∙ ap (λ t. map linear_part (map turned_back t)) c.shift_rows.ensures ∙ shifted_parts s c.fits-state.0 in
    c.add_round_key.ensures.last (shift_rows (sub_bytes (map turned_back s))) refl (shifted_lanes (map turned_back s)).0 shifted
    ∙ ap (λ t. add_round_key (schedule_of c.args.words.now) 14 (shift_rows (sub_bytes t))) before
