use Rattle.std.proofs.Common.{subst}
use Rattle.std.specs.Option.{option_map}
use Rattle.cookie.specs.AnswersExactly.{AnswersExactly}
use Rattle.cookie.specs.Jar.{view}
use Rattle.cookie.specs.KeyedJars.{KeyedJar}
use Rattle.cookie.specs.Sealing.{IsSealingOf}
use Rattle.cookie.proofs.secure.private.PrivateJar.get.Goals as goal

pub returns-clause-answers : goal.returns-clause-answers
returns-clause-answers c =
    subst (λ (s : KeyedJar). AnswersExactly (IsSealingOf s.key) (view s.jar c.args.name.now) (option_map (λ answer. answer.fields) c.in_ok-get_read.field-0)) c.self.view_is
    c.in_ok-get_read.ensures.answers
