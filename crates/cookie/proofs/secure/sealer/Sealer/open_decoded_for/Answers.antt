use Rattle.std.proofs.Common.{ap, subst, ◌∙◌}
use Rattle.std.specs.Option.{option_map}
use Rattle.std.specs.Prelude.{IfSome}
use Rattle.std.specs.String.{string_bytes}
use Rattle.base64.specs.Engines.{url_safe_no_pad}
use Rattle.cookie_crypt.specs.Bytes.{IsBytes}
use Rattle.cookie_crypt.specs.Gcm.{SealsToBytes}
use Rattle.cookie.specs.Purposes.{purpose_data}
use Rattle.cookie.proofs.PurposeLemmas.{apart}
use Rattle.cookie.proofs.SealingLemmas.{answered_as_bytes, unsealed_undecoded}
use Rattle.cookie.proofs.secure.sealer.Sealer.open_decoded_for.Goals as goal

pub returns-in_default-clause-answers : goal.returns-in_default-clause-answers
returns-in_default-clause-answers c =
    unsealed_undecoded url_safe_no_pad c.args.self.now (purpose_data c.args.purpose.now c.args.name.now) c.args.text.now (subst SealsToBytes c.self.view_is c.self.invariant) _
    c.bytes.ensures.exact (ap (option_map (λ b. b.now)) c.in_default.is)

pub returns-clause-answers : goal.returns-clause-answers
returns-clause-answers c =
    answered_as_bytes url_safe_no_pad c.args.self.now (purpose_data c.args.purpose.now c.args.name.now) c.args.text.now (subst SealsToBytes c.self.view_is c.self.invariant) _
    c.bytes.ensures.exact c.in-Some.bytes.now (ap (option_map (λ b. b.now)) c.in-Some.is)
    (subst (λ o. IfSome o IsBytes) (ap (option_map (λ b. b.now)) c.in-Some.is) c.bytes.ensures.bytes)
    string_bytes _ _ c.self.view_is (c.as_slice.ensures.value ∙ c.in_ok-bound.ensures) c.open_text.result c.open_text.ensures

pub returns-in_default-clause-apart : goal.returns-in_default-clause-apart
returns-in_default-clause-apart c = apart c.args.purpose.now c.args.name.now c.utf8.purpose

pub returns-in_err-bound-clause-apart : goal.returns-in_err-bound-clause-apart
returns-in_err-bound-clause-apart c = apart c.args.purpose.now c.args.name.now c.utf8.purpose

pub returns-clause-apart : goal.returns-clause-apart
returns-clause-apart c = apart c.args.purpose.now c.args.name.now c.utf8.purpose
