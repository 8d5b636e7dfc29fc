use Rattle.std.proofs.Common.{Some, None, subst}
use Rattle.cookie_core.specs.Parts.{part_text}
use Rattle.cookie_core.specs.Layout.{attributes_of, AreIn}
use Rattle.cookie_core.specs.Settings.{SetsOneField}
use Rattle.cookie_core.proofs.ReadingLemmas.{SetsAttributes-no_key, SetsAttributes-given}
use Rattle.cookie_core.proofs.attributes.Attributes.of.Goals as goal

pub returns-in-Some-value-clause-sets : goal.returns-in-Some-value-clause-sets
returns-in-Some-value-clause-sets c =
    let whole = rw c.in-Some-value.is at c.attribute.ensures.place in
    let given = subst (λ t. SetsOneField c.in-Some.key (Some (part_text c.in-Some-value.value)) (attributes_of t c.with_value.result)) whole c.with_value.ensures.gives in
    SetsAttributes-given (part_text c.args.piece) _ (Some (part_text c.in-Some-value.value)) c.in-Some.key _ (rw c.in-Some-value.is at c.attribute.ensures.attribute) c.in-Some.ensures given

pub returns-in-None-value-clause-sets : goal.returns-in-None-value-clause-sets
returns-in-None-value-clause-sets c =
    SetsAttributes-given (part_text c.args.piece) _ None c.in-Some.key _ (rw c.in-None-value.is at c.attribute.ensures.attribute) c.in-Some.ensures (c.without_value.ensures.gives c.args.piece.whole.now)

pub returns-in-None-clause-sets : goal.returns-in-None-clause-sets
returns-in-None-clause-sets c =
    rw c.unset.ensures (SetsAttributes-no_key _ _ _ c.attribute.ensures.attribute c.in-None.ensures)

pub returns-in-Some-value-clause-place : goal.returns-in-Some-value-clause-place
returns-in-Some-value-clause-place c =
    subst (λ t. AreIn t c.with_value.result) (rw c.in-Some-value.is at c.attribute.ensures.place) c.with_value.ensures.place
