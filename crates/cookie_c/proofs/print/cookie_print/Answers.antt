use Rattle.std.proofs.Common.{◌≡◌, false, refl, rules, subst, sym, true≢false, ◌∙◌}
use Rattle.cookie.specs.AttributeValues.{FitsField}
use Rattle.cookie.specs.Text.{cookie_text}
use Rattle.cookie_c.specs.Answers.{IsGivenInMemory, IsRefused}
use Rattle.cookie_c.proofs.PrintLemmas.{printable, texts_refusal}
use Rattle.cookie_c.proofs.print.cookie_print.Goals as goal

pub returns-in-Ok-clause-not_utf8 : goal.returns-in-Ok-clause-not_utf8
returns-in-Ok-clause-not_utf8 c codes date bad = absurd (bad c.in-Ok.ensures.2)

pub returns-in-Ok-clause-invalid : goal.returns-in-Ok-clause-invalid
returns-in-Ok-clause-invalid c moment codes at texts unfit =
    let fits : FitsField c.in-Ok.cookie.fields = search rules in
    absurd (unfit (subst FitsField (c.in-Ok.ensures.3 moment at) fits))

pub returns-in-Ok-clause-printed : goal.returns-in-Ok-clause-printed
returns-in-Ok-clause-printed c moment codes at texts fits =
    subst (λ r. IsGivenInMemory (cookie_text c.args.is_escaped false r) c.give_text.result c.args.out.now c.give_text.new.out)
    (c.in-Ok.ensures.3 moment at) c.give_text.ensures

pub returns-in-Ok-2-clause-no_date : goal.returns-in-Ok-2-clause-no_date
returns-in-Ok-2-clause-no_date c codes bad = absurd (bad c.in-Ok.ensures.1)

pub returns-in-Ok-2-clause-not_utf8 : goal.returns-in-Ok-2-clause-not_utf8
returns-in-Ok-2-clause-not_utf8 c codes date bad = absurd (bad c.in-Ok.ensures.2)

pub returns-in-Ok-2-clause-printed : goal.returns-in-Ok-2-clause-printed
returns-in-Ok-2-clause-printed c moment codes at texts fits =
    let no : c.fits_field.result ≡ false = search rules in
    absurd (true≢false (sym (c.fits_field.ensures.1 (subst FitsField (sym (c.in-Ok.ensures.3 moment at)) fits)) ∙ no))

pub returns-in-Err-clause-not_utf8 : goal.returns-in-Err-clause-not_utf8
returns-in-Err-clause-not_utf8 c codes date bad =
    let why = texts_refusal _ _ _ _ c.args.attributes.now c.in-Err.why codes date bad c.in-Err.ensures in
    subst (λ s. IsRefused s c.refusal-in-Err.result c.args.out.now c.args.out.now) why (record { told = c.refusal-in-Err.ensures; kept = refl })

pub returns-in-Err-clause-invalid : goal.returns-in-Err-clause-invalid
returns-in-Err-clause-invalid c moment codes at texts unfit =
    absurd (printable _ _ _ _ c.args.attributes.now c.in-Err.why moment codes at texts c.in-Err.ensures)

pub returns-in-Err-clause-printed : goal.returns-in-Err-clause-printed
returns-in-Err-clause-printed c moment codes at texts fits =
    absurd (printable _ _ _ _ c.args.attributes.now c.in-Err.why moment codes at texts c.in-Err.ensures)
