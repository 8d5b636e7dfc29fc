use Rattle.std.proofs.Common.{◌≡◌, length, sym, ap, ◌∙◌, arith}
use Rattle.session_revocations.specs.Table.{no_schema, revoked_schema}
use Rattle.session_revocations.proofs.sqlite_revocations.prepare.Goals as goal

pub returns-clause-made : goal.returns-clause-made
returns-clause-made g c clean ours live blank = absurd (
    let both : no_schema ≡ revoked_schema = sym blank ∙ sym c.schema-2.ensures.value ∙ c.is_ours.ensures.0 ours in
    let sizes : 0 ≡ 1 = ap (λ s. length s.tables) both in
    omega (arith, sizes))
