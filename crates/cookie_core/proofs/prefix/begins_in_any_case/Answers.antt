use Rattle.std.proofs.Common.{◌≡◌, rules, take, length}
use Rattle.cookie_core.proofs.PrefixLemmas.{begins_front}
use Rattle.cookie_core.proofs.prefix.begins_in_any_case.Goals as goal

pub returns-in-Some : goal.returns-in-Some
returns-in-Some c =
    let front : c.in-Some.front.now ≡ take (length c.args.prefix.now) c.args.text.now = search rules in
    begins_front c.args.prefix.now c.args.text.now c.in-Some.front.now c.eq_ignore_ascii_case.result front c.eq_ignore_ascii_case.ensures.test
