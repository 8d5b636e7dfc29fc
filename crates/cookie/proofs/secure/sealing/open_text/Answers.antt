use Rattle.std.proofs.Common.{ap}
use Rattle.std.proofs.lemmas.Str.{IsUtf8-string_bytes}
use Rattle.std.specs.Option.{option_map}
use Rattle.cookie.proofs.SealingLemmas.{text_bad, text_right, text_unopened}
use Rattle.cookie.proofs.secure.sealing.open_text.Goals as goal

pub returns-in_default : goal.returns-in_default
returns-in_default c =
    text_unopened c.args.cipher.now c.args.bound.now c.args.bytes.now _ c.in_ok-plain.ensures (ap (option_map (λ v. v.items)) c.in_default.is)

pub returns-in-Ok : goal.returns-in-Ok
returns-in-Ok c =
    text_right c.args.cipher.now c.args.bound.now c.args.bytes.now _ c.in_ok-plain.ensures c.in-Some.plain.items (ap (option_map (λ v. v.items)) c.in-Some.is)
    _ (ap (λ v. v.items) c.in-Ok.ensures.ok) (IsUtf8-string_bytes c.in-Ok.value)

pub returns : goal.returns
returns c =
    text_bad c.args.cipher.now c.args.bound.now c.args.bytes.now _ c.in_ok-plain.ensures c.in-Some.plain.items (ap (option_map (λ v. v.items)) c.in-Some.is)
    (λ text. let clash = c.in-Err.ensures.succeeds text in cc)
