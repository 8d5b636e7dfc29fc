use Rattle.std.proofs.Common.{◌≡◌, Some, option_map, pos, sym, ◌∙◌, rules, w64, FitsSigned}
use Rattle.std.proofs.lemmas.Int.{to_z-of_z}
use Rattle.std.proofs.lemmas.Result.{IfOk-weaker}
use Rattle.cookie_core.specs.Attributes.{seconds_of_digits}
use Rattle.cookie_agent.specs.CookiesTxt.{flag_of}
use Rattle.cookie_agent.proofs.CookiesTxtLemmas.{counted, read_of}
use Rattle.cookie_agent.proofs.saved.cookies_txt.Fields.read.Goals as goal

pub returns : goal.returns
returns c =
    let fields = c.args.self.now in
    let below : flag_of fields.below.now ≡ Some c.in-Some.below = search rules in
    let secure : flag_of fields.secure.now ≡ Some c.in-Some-flag_of.is_secure_only = search rules in
    let seconds : option_map pos (seconds_of_digits fields.expiry.now) ≡ Some c.in-Some-seconds_of.seconds = search rules in
    let read = counted (seconds_of_digits fields.expiry.now) c.in-Some-seconds_of.seconds seconds in
    let fits : FitsSigned w64 c.in-Some-seconds_of.seconds = search rules in
    IfOk-weaker c.read_as.result _ _
    (λ line h. h ∙ sym (read_of c.args.now c.args.is_http_only fields.domain.now fields.path.now fields.name.now fields.value.now
    (flag_of fields.below.now) (flag_of fields.secure.now) (seconds_of_digits fields.expiry.now)
    c.in-Some.below c.in-Some-flag_of.is_secure_only read.0 below secure read.1))
    (c.read_as.ensures read.0 (to_z-of_z w64 c.in-Some-seconds_of.seconds fits ∙ read.2))
