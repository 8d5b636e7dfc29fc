use Rattle.std.proofs.Common.{Some, subst}
use Rattle.std.specs.Option.{option_map}
use Rattle.cookie.specs.AnswersExactly.{AnswersExactly}
use Rattle.cookie.specs.KeyedJars.{KeyedJar}
use Rattle.cookie.specs.Sealing.{IsSealingOf}
use Rattle.cookie.proofs.secure.private.PrivateJar.decrypt.Goals as goal

pub returns-clause-answers : goal.returns-clause-answers
returns-clause-answers c =
    subst (λ (s : KeyedJar). AnswersExactly (IsSealingOf s.key) (Some c.args.cookie.fields) (option_map (λ answer. answer.fields) c.in_ok-read.field-0)) c.self.view_is
    c.in_ok-read.ensures.answers
