use Rattle.std.proofs.Common.{inr, refl, rules}
use Rattle.cookie.specs.Removal.{removal}
use Rattle.cookie.specs.Text.{cookie_text}
use Rattle.std.proofs.Common.{true, false}
use Rattle.cookie_c.specs.Answers.{IsGivenInMemory}
use Rattle.cookie_c.proofs.SiteLemmas.{at_second}
use Rattle.cookie_c.proofs.sessions.ending.end.Goals as goal

pub returns-in_default-clone : goal.returns-in_default-clone
returns-in_default-clone c =
    at_second _ _ _ c.in-Some.time c.in-Some.ensures (c.sessions.result, c.sessions.ensures, inr (record { told = c.refusal-in_default-clone.ensures; kept = refl }))

pub returns : goal.returns
returns c =
    let given : IsGivenInMemory (cookie_text true false (removal c.in-Some.time c.sessions.result.cookie.now.fields)) c.give_text.result c.args.out.now c.give_text.new.out = search rules in
    at_second _ _ _ c.in-Some.time c.in-Some.ensures (c.sessions.result, c.sessions.ensures, given)
