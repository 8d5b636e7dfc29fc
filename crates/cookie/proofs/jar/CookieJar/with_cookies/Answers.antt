use Rattle.std.proofs.Common.{map, subst, sym}
use Rattle.std.proofs.lemmas.Result.{IfOk-weaker}
use Rattle.cookie.specs.Originals.{HasFirst}
use Rattle.cookie.proofs.OriginalLemmas.{has_first}
use Rattle.cookie.proofs.jar.CookieJar.with_cookies.Goals as goal

pub returns-clause-first : goal.returns-clause-first
returns-clause-first c =
    let cookies = map (λ k. k.fields) c.args.cookies.items in
    IfOk-weaker c.with_each.result _ _ (λ jar is. subst (HasFirst cookies c.args.self) (sym is) (has_first cookies c.args.self)) c.with_each.ensures
