use Rattle.std.proofs.Common.{IsTrue, inl, inr, refl, rules, string_bytes, subst}
use Rattle.cookie_c.specs.Answers.{IsGiven}
use Rattle.cookie_c.proofs.jar.texts.give_delta.Goals as goal

pub returns-in-Ok : goal.returns-in-Ok
returns-in-Ok c =
    let yes : IsTrue c.fits_fields.result = search rules in
    record {
      invalid = λ unfit. absurd (unfit (c.fits_fields.ensures.0 yes));
      given = λ _. inl (
        string_bytes c.in-Ok.text,
        c.in-Ok.ensures,
        subst (λ t. IsGiven t c.give.result c.args.out.now c.give.new.out) c.as_bytes.ensures.value c.give.ensures,
      );
    }

pub returns-in-Err : goal.returns-in-Err
returns-in-Err c =
    let yes : IsTrue c.fits_fields.result = search rules in
    record {
      invalid = λ unfit. absurd (unfit (c.fits_fields.ensures.0 yes));
      given = λ _. inr (record { told = c.refusal-in-Err.ensures; kept = refl });
    }
