use Rattle.std.proofs.Common.{◌≡◌, None, rules}
use Rattle.cookie_c.specs.Agents.{Trims, store_of}
use Rattle.cookie_c.specs.declared.status.Status.TheVariants as status
use Rattle.cookie_c.proofs.HandleLemmas.{lacking, store_changed}
use Rattle.cookie_c.proofs.agent.change.trim_by.Goals as goal

pub returns-in-Store : goal.returns-in-Store
returns-in-Store c =
    store_changed (Trims c.args.limits c.args.now c.args.rules.now) _ c.args.agent.now (record { handle = c.put.new.self }) _ _ _ _ _ c.in-Some.ensures.taken c.as_mut.ensures.value c.in-Store.is c.put.ensures
    c.code-answer.ensures c.trim.ensures

pub returns-in_default : goal.returns-in_default
returns-in_default c =
    let none : store_of c.args.agent.now ≡ None = search rules in
    let left : store_of (record { handle = c.put-in_default.new.self }) ≡ None = search rules in
    lacking status.NoAgent (Trims c.args.limits c.args.now c.args.rules.now) _ _ _ none left c.code.ensures

pub returns-in-None : goal.returns-in-None
returns-in-None c =
    let none : store_of c.args.agent.now ≡ None = search rules in
    let left : store_of (record { handle = c.take.new.self }) ≡ None = search rules in
    lacking status.NoAgent (Trims c.args.limits c.args.now c.args.rules.now) _ _ _ none left c.code-in-None.ensures
