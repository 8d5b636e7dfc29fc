use Rattle.std.proofs.Common.{subst, sym}
use Rattle.std.proofs.lemmas.Result.{IfOk-weaker}
use Rattle.cookie.specs.Originals.{HasFirst, field_cookies}
use Rattle.cookie.proofs.OriginalLemmas.{has_first}
use Rattle.cookie.proofs.jar.CookieJar.with_field.Goals as goal

pub returns-in-Err-clause-first : goal.returns-in-Err-clause-first
returns-in-Err-clause-first c =
    let cookies = field_cookies c.args.field.now in
    IfOk-weaker c.with_pieces.result _ _ (λ jar is. subst (HasFirst cookies c.args.self) (sym is) (has_first cookies c.args.self)) c.with_pieces.ensures
