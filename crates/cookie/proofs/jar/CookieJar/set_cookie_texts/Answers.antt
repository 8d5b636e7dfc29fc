use Rattle.std.proofs.Common.{IsTrue, rules}
use Rattle.cookie.proofs.DeltaTextLemmas.{memory_is_valid}
use Rattle.cookie.proofs.jar.CookieJar.set_cookie_texts.Goals as goal

pub returns-in_err-all_texts-clause-invalid : goal.returns-in_err-all_texts-clause-invalid
returns-in_err-all_texts-clause-invalid c =
    let yes : IsTrue c.fits_fields.result = search rules in
    (λ invalid fit. memory_is_valid c.from_residual.result c.from_residual.ensures.1 invalid, λ unfit. absurd (unfit (c.fits_fields.ensures.0 yes)))

pub returns-clause-invalid : goal.returns-clause-invalid
returns-clause-invalid c =
    let yes : IsTrue c.fits_fields.result = search rules in
    (λ invalid fit. cc, λ unfit. absurd (unfit (c.fits_fields.ensures.0 yes)))
