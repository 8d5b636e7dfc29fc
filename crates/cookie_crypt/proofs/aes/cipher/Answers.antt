use Rattle.std.proofs.Common.{refl, ap, ◌∙◌}
use Rattle.cookie_crypt.specs.Aes.{add_round_key, rounds}
use Rattle.cookie_crypt.specs.Turned.{schedule_of}
use Rattle.cookie_crypt.proofs.aes.cipher.Goals as goal

pub returns : goal.returns
unfolding rounds
returns c =
    let block = c.args.block in
    let start = c.add_round_key-state.ensures.first refl ∙ ap (add_round_key (schedule_of c.args.words.now) 0) c.turn.ensures in
    c.last_round.ensures block
    (c.round.ensures block (c.four_rounds-state-3.ensures block (c.four_rounds-state-2.ensures block (c.four_rounds-state.ensures block start))))
