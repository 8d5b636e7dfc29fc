use Rattle.std.proofs.Common.{◌≡◌, ◌<◌, Some, arith, sym, ap, ◌∙◌}
use Rattle.cookie_date.specs.CookieDate.{read_run}
use Rattle.cookie_date.specs.Reader.{front}
use Rattle.cookie_date.proofs.ProductionLemmas.{run-small}
use Rattle.cookie_date.proofs.tokens.read_pair.Goals as goal

pub overflow_cast-result : goal.overflow_cast-result
overflow_cast-result c =
    let some : read_run 1 2 c.args.text.now ≡ Some (c.in_ok-number.number, c.in_ok-number.rest.now) = sym c.read_run.ensures.value ∙ ap front c.in_ok-number.was in
    let below : c.in_ok-number.number < 100 = run-small 1 c.args.text.now (c.in_ok-number.number, c.in_ok-number.rest.now) some in
    omega arith

pub returns-clause-bound : goal.returns-clause-bound
returns-clause-bound c =
    let some : read_run 1 2 c.args.text.now ≡ Some (c.in_ok-number.number, c.in_ok-number.rest.now) = sym c.read_run.ensures.value ∙ ap front c.in_ok-number.was in
    run-small 1 c.args.text.now (c.in_ok-number.number, c.in_ok-number.rest.now) some
