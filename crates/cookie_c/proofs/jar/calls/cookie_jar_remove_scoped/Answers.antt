use Rattle.std.proofs.Common.{◌≡◌, None, rules, IsUtf8}
use Rattle.cookie_c.specs.Jars.{IsRemoved, scoped_record, jar_of}
use Rattle.cookie_c.specs.declared.status.Status.TheVariants as status
use Rattle.cookie_c.proofs.HandleLemmas.{lacking, jar_changed}
use Rattle.cookie_c.proofs.jar.calls.cookie_jar_remove_scoped.Goals as goal

pub returns-in-Jar : goal.returns-in-Jar
returns-in-Jar c =
    jar_changed (IsRemoved c.args.moment.now (IsUtf8 c.args.name.now × IsUtf8 c.args.path.now × IsUtf8 c.args.domain.now)
    (scoped_record c.args.name.now c.args.path.now c.args.domain.now)) _ c.args.jar.now (record { handle = c.put.new.self }) _ _ _ _ _ c.in-Some.ensures.taken c.as_mut.ensures.value c.in-Jar.is c.put.ensures
    c.code-answer.ensures c.remove_scoped.ensures

pub returns-in_default : goal.returns-in_default
returns-in_default c =
    let none : jar_of c.args.jar.now ≡ None = search rules in
    let left : jar_of (record { handle = c.put-in_default.new.self }) ≡ None = search rules in
    lacking status.NoJar (IsRemoved c.args.moment.now (IsUtf8 c.args.name.now × IsUtf8 c.args.path.now × IsUtf8 c.args.domain.now)
    (scoped_record c.args.name.now c.args.path.now c.args.domain.now)) _ _ _ none left c.code.ensures

pub returns-in-None : goal.returns-in-None
returns-in-None c =
    let none : jar_of c.args.jar.now ≡ None = search rules in
    let left : jar_of (record { handle = c.take.new.self }) ≡ None = search rules in
    lacking status.NoJar (IsRemoved c.args.moment.now (IsUtf8 c.args.name.now × IsUtf8 c.args.path.now × IsUtf8 c.args.domain.now)
    (scoped_record c.args.name.now c.args.path.now c.args.domain.now)) _ _ _ none left c.code-in-None.ensures
