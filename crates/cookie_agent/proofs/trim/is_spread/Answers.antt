-- The numbers that are so far apart differ.
use Rattle.std.proofs.Common.{arith}
use Rattle.cookie_agent.proofs.SpreadLemmas.{spread}
use Rattle.cookie_agent.proofs.trim.is_spread.Goals as goal

pub returns : goal.returns
returns c is number =
    spread c.args.limit c.args.numbers.now c.requires (λ k from below. c.loop-index.invariant k from (omega (arith, below, c.loop-index-test.false))) number
