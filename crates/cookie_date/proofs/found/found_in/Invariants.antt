use Rattle.std.proofs.Common.{◌≡◌, option_copied}
use Rattle.std.specs.Prelude.{fold}
use Rattle.cookie_date.specs.CookieDate.{found_in, with_token}
use Rattle.cookie_date.specs.Found.{AreSmall, tokens_left}
use Rattle.cookie_date.proofs.TokenLemmas.{left_length}
use Rattle.cookie_date.proofs.found.found_in.Given as goal

abbrev pub invariant-loop-rest : goal.invariant-loop-rest
invariant-loop-rest l = record {
  same : fold with_token l.found (tokens_left (option_copied l.rest)) ≡ found_in l.fn.text;
  small : AreSmall l.found;
}

abbrev pub decreases-loop-rest : goal.decreases-loop-rest
decreases-loop-rest l = left_length (option_copied l.rest)
