use Rattle.std.proofs.Common.{◌≡◌, None, rules}
use Rattle.cookie.specs.Originals.{field_cookies, with_originals}
use Rattle.cookie_c.specs.Jars.{IsChanged, jar_of}
use Rattle.cookie_c.specs.declared.status.Status.TheVariants as status
use Rattle.cookie_c.proofs.HandleLemmas.{lacking, jar_changed}
use Rattle.cookie_c.proofs.jar.calls.cookie_jar_add_originals.Goals as goal

pub returns-in-Jar : goal.returns-in-Jar
returns-in-Jar c =
    jar_changed (IsChanged (with_originals (field_cookies c.args.header.now))) _ c.args.jar.now (record { handle = c.put.new.self }) _ _ _ _ _ c.in-Some.ensures.taken c.as_mut.ensures.value c.in-Jar.is c.put.ensures
    c.code-answer.ensures c.add_originals.ensures

pub returns-in_default : goal.returns-in_default
returns-in_default c =
    let none : jar_of c.args.jar.now ≡ None = search rules in
    let left : jar_of (record { handle = c.put-in_default.new.self }) ≡ None = search rules in
    lacking status.NoJar (IsChanged (with_originals (field_cookies c.args.header.now))) _ _ _ none left c.code.ensures

pub returns-in-None : goal.returns-in-None
returns-in-None c =
    let none : jar_of c.args.jar.now ≡ None = search rules in
    let left : jar_of (record { handle = c.take.new.self }) ≡ None = search rules in
    lacking status.NoJar (IsChanged (with_originals (field_cookies c.args.header.now))) _ _ _ none left c.code-in-None.ensures
