use Rattle.std.proofs.Common.{◌≡◌, ap, ◌∙◌, rules, w64, FitsSigned}
use Rattle.std.specs.Str.{str_to_ascii_lowercase}
use Rattle.std.proofs.lemmas.Int.{to_z-of_z}
use Rattle.std.proofs.lemmas.Result.{IfOk-weaker}
use Rattle.cookie_core.specs.Record.{without_leading_dot}
use Rattle.cookie_agent.specs.CookiesTxt.{line_of}
use Rattle.cookie_agent.proofs.CookiesTxtLemmas.{as_read}
use Rattle.cookie_agent.proofs.saved.cookies_txt.Fields.read_as.Goals as goal

pub returns : goal.returns
returns c count same =
    let fields = c.args.self.now in
    let domain : c.as_slice.result.now ≡ str_to_ascii_lowercase (without_leading_dot fields.domain.now) = search rules in
    let fits : FitsSigned w64 c.args.seconds = search rules in
    IfOk-weaker c.line_of.result _ _
    (λ line h. h ∙ ap (line_of c.args.now count) (as_read c.args.now c.args.kind count fields c.as_slice.result.now domain))
    (c.line_of.ensures count (to_z-of_z w64 c.args.seconds fits ∙ same))
