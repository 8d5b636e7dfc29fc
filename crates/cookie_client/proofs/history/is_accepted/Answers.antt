use Rattle.std.proofs.Common.{rules}
use Rattle.cookie_client.proofs.ChangeLemmas.{known_accepted}
use Rattle.cookie_client.proofs.history.is_accepted.Goals as goal

pub returns-clause-outcome : goal.returns-clause-outcome
returns-clause-outcome c = record {
  accepted = search rules;
  refused = search rules;
  known = known_accepted c.args.call.now c.play.result c.is_ok.result c.is_ok.ensures.value c.play.ensures.known;
}
