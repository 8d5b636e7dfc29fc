-- The sum of two differences of an `i64` of seconds is below 2 ^ 127.
use Rattle.std.proofs.Common.{◌≡◌, FitsSigned, ◌+ℤ◌, Some, sym, ap, ◌∙◌, arith}
use Rattle.std.proofs.lemmas.Int.{to_z-of_z}
use mir.Syntax.{w128}
use Rattle.jiff.proofs.SpanFacts.{signed_arith}
use Rattle.jiff.specs.Words.{civil_nanos}
use Rattle.cookie_browser.specs.ExpiryCode.{expiry_time}
use Rattle.cookie_agent.proofs.nanos.expiry_nanos.Goals as goal

pub overflow_add-result : goal.overflow_add-result
overflow_add-result c =
    let start : FitsSigned w128 c.nanos_of-in-After.result = omega (arith, signed_arith, c.nanos_of-in-After.ensures.bound) in
    let age : FitsSigned w128 c.as_nanos.result = omega (arith, signed_arith, c.as_nanos.ensures.bound) in
    let both : FitsSigned w128 (c.nanos_of-in-After.result +ℤ c.as_nanos.result) = omega (arith, signed_arith, c.nanos_of-in-After.ensures.bound, c.as_nanos.ensures.bound) in
    simp to_z-of_z both

pub returns-in-After : goal.returns-in-After
returns-in-After c =
    let start : FitsSigned w128 c.nanos_of-in-After.result = omega (arith, signed_arith, c.nanos_of-in-After.ensures.bound) in
    let age : FitsSigned w128 c.as_nanos.result = omega (arith, signed_arith, c.as_nanos.ensures.bound) in
    let both : FitsSigned w128 (c.nanos_of-in-After.result +ℤ c.as_nanos.result) = omega (arith, signed_arith, c.nanos_of-in-After.ensures.bound, c.as_nanos.ensures.bound) in
    let sum : Some (c.nanos_of-in-After.result +ℤ c.as_nanos.result) ≡ expiry_time c.args.expiry
    = ap (λ n. Some (n +ℤ c.as_nanos.result)) c.nanos_of-in-After.ensures.value
    ∙ ap (λ n. Some (civil_nanos c.in-After.time +ℤ n)) c.as_nanos.ensures.value
    ∙ sym (ap expiry_time c.in-After.is) in
    simp to_z-of_z sum
