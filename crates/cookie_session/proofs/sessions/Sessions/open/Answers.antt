use Rattle.std.proofs.Common.{Ok, alloc_error, map}
use Rattle.cookie_session.proofs.FirstLemmas.{jar_found}
use Rattle.cookie_session.proofs.sessions.Sessions.open.Goals as goal

pub returns-in-Ok-clause-answers : goal.returns-in-Ok-clause-answers
returns-in-Ok-clause-answers c = c.in-Ok.ensures.answers tt

pub returns-in-Ok-clause-once : goal.returns-in-Ok-clause-once
returns-in-Ok-clause-once c = c.in-Ok.ensures.once tt

pub returns-in-Ok-clause-jar : goal.returns-in-Ok-clause-jar
returns-in-Ok-clause-jar c =
    jar_found c.args.self.now c.args.now alloc_error (Ok c.in-Ok.found) (map (λ k. k.fields) c.args.cookies.now) (returns-in-Ok-clause-answers c)
