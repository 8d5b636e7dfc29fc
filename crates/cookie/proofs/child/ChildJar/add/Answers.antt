use Rattle.cookie.specs.ChildJars.{jar_of, storing_of}
use Rattle.cookie.proofs.AnswerLemmas.{if_added}
use Rattle.cookie.proofs.child.ChildJar.add.Goals as goal

pub returns-clause-shown : goal.returns-clause-shown
returns-clause-shown g c =
    if_added (λ jar. g.S.Storing.ShowsPair (storing_of c.args.self.now) jar c.args.cookie.fields)
    (g.S.Storing.stored (storing_of c.args.self.now) c.args.cookie.fields) c.in_ok-added.added.fields
    (jar_of c.args.self.now) c.add.new.self c.add.result c.in_ok-added.ensures.gives c.to_add.ensures.shown c.add.ensures.gives
