use Rattle.std.proofs.Common.{length, arith, ap, subst, sym}
use Rattle.cookie.specs.DeltaTexts.{WalksDelta}
use Rattle.cookie_http.proofs.response.count.Goals as goal

pub loop-cookie-init : goal.loop-cookie-init
loop-cookie-init c =
    let cookies = c.into_iter-cookie-iterator.result in
    let same = c.into_iter-cookie-iterator.ensures.into_iter_gives in (
      cookies,
      subst (WalksDelta c.args.jar.now.delta) (sym same) c.delta-cookie-items.ensures.walks,
      omega (arith, ap length same, c.delta-cookie-items.ensures.fits),
      omega arith,
    )

pub overflow_add-count : goal.overflow_add-count
overflow_add-count c =
    let walk = c.loop-cookie.invariant in
    omega (arith, walk.2, walk.3, ap length c.in-Some.ensures.steps)

pub loop-cookie-preserved : goal.loop-cookie-preserved
loop-cookie-preserved c =
    let walk = c.loop-cookie.invariant in
    (walk.0, walk.1, walk.2, omega (arith, walk.3, ap length c.in-Some.ensures.steps))

pub returns : goal.returns
returns c =
    let walk = c.loop-cookie.invariant in
    (walk.0, walk.1, omega (arith, walk.3, ap length c.in-None.ensures.steps.0))
