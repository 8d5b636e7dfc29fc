use Rattle.std.proofs.Common.{◌++◌, IsUtf8, ap, refl, sym, subst, ◌∙◌}
use Rattle.cookie.proofs.SigningLemmas.{IsUtf8-signature, signing-from}
use Rattle.cookie.proofs.secure.signer.Signer.sign.Goals as goal

pub unreachable-requires : goal.unreachable-requires
unreachable-requires c =
    c.in_default.ensures.cases.0 (subst IsUtf8 (sym c.signature-signature.ensures) (IsUtf8-signature c.args.self.now c.args.name.now c.args.value.now))

pub returns : goal.returns
returns c =
    signing-from c.args.self.now c.args.name.now c.args.value.now c.in-Ok.signature.now c.args.value.now _
    (c.in_ok-push_str.ensures.bytes ∙ ap (λ xs. xs ++ c.args.value.now) c.in_ok-text.ensures.ok)
    (c.in-Ok.ensures.cases.0 ∙ c.signature-signature.ensures)
    refl
