use Rattle.std.proofs.Common.{ap, subst}
use Rattle.std.specs.Option.{option_map}
use Rattle.std.specs.Prelude.{IfSome}
use Rattle.std.specs.String.{string_bytes}
use Rattle.base64.specs.Engines.{standard}
use Rattle.cookie_crypt.specs.Bytes.{IsBytes}
use Rattle.cookie_crypt.specs.Gcm.{SealsToBytes}
use Rattle.cookie.proofs.SealingLemmas.{answered_as_bytes, unsealed_undecoded}
use Rattle.cookie.proofs.secure.sealer.Sealer.open_decoded.Goals as goal

pub returns-in-Some : goal.returns-in-Some
returns-in-Some c =
    answered_as_bytes standard c.args.self.now c.args.name.now c.args.text.now (subst SealsToBytes c.self.view_is c.self.invariant) _ c.bytes.ensures.exact
    c.in-Some.bytes.now (ap (option_map (λ b. b.now)) c.in-Some.is) (subst (λ o. IfSome o IsBytes) (ap (option_map (λ b. b.now)) c.in-Some.is) c.bytes.ensures.bytes)
    string_bytes _ _ c.self.view_is c.as_bytes.ensures.value c.open_text.result c.open_text.ensures

pub returns-in-None : goal.returns-in-None
returns-in-None c =
    unsealed_undecoded standard c.args.self.now c.args.name.now c.args.text.now (subst SealsToBytes c.self.view_is c.self.invariant) _ c.bytes.ensures.exact (ap (option_map (λ b. b.now)) c.in-None.is)
