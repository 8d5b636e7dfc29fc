use Rattle.std.proofs.Common.{◌≡◌, Some, pos, ◌+ℤ◌, ◌-ℤ◌, option_map, ap, ◌∙◌, arith}
use Rattle.std.specs.Prelude.{int_div}
use Rattle.jiff.specs.Words.{civil_nanos, signed_nanos}
use Rattle.jiff.proofs.SpanFacts.{signed_arith}
use Rattle.cookie_browser.specs.Storage.{kept_until}
use Rattle.cookie_session.specs.Seconds.{from_zero}
use Rattle.cookie_c.specs.Explanations.{seconds_until}
use Rattle.cookie_c.proofs.ExplainLemmas.{left_fits}
use Rattle.cookie_c.proofs.explanation.draft.lifetime.Goals as goal

pub sub-requires : goal.sub-requires
sub-requires c =
    let fits = left_fits c.args.now c.args.attributes.now.expires (civil_nanos c.in-After.moment +ℤ signed_nanos c.in-After.age)
    (c.in-After.ensures ∙ ap (λ age. kept_until c.args.now age c.args.attributes.now.expires) c.in_default.is) in
    omega (arith, signed_arith, fits.0, fits.1, c.duration_since-in-After.ensures)

pub returns-in-After : goal.returns-in-After
returns-in-After c =
    let left : signed_nanos c.sub.result ≡ civil_nanos c.in-After.moment +ℤ signed_nanos c.in-After.age -ℤ civil_nanos c.args.now
    = omega (arith, signed_arith, c.sub.ensures, c.duration_since-in-After.ensures) in
    ap (λ n. Some n) (c.whole_seconds-in-After.ensures ∙ ap (λ n. from_zero (int_div n (pos 1000000000))) left)
    ∙ ap (option_map (seconds_until c.args.now)) c.in-After.ensures
