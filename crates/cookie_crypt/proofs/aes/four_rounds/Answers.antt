use Rattle.std.proofs.Common.{◌≡◌, ◌+◌, ap, ◌∙◌, arith}
use Rattle.cookie_crypt.specs.Aes.{rounds}
use Rattle.cookie_crypt.specs.Turned.{schedule_of}
use Rattle.cookie_crypt.proofs.aes.four_rounds.Goals as goal

pub returns : goal.returns
returns c = λ block before.
    let w = schedule_of c.args.words.now in
    let n = c.args.done in
    let two : n + 1 + 1 ≡ n + 2 = omega arith in
    let three : n + 2 + 1 ≡ n + 3 = omega arith in
    let four : n + 3 + 1 ≡ n + 4 = omega arith in
    c.round.ensures block
    (c.round-state-3.ensures block
    (c.round-state-2.ensures block (c.round-state.ensures block before) ∙ ap (λ m. rounds w m block) two)
    ∙ ap (λ m. rounds w m block) three)
    ∙ ap (λ m. rounds w m block) four
