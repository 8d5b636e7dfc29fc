use Rattle.std.proofs.Common.{inl, inr, refl}
use Rattle.cookie_browser.specs.RefusedCode.{request_view}
use Rattle.cookie_c.proofs.ExplainLemmas.{explained}
use Rattle.cookie_c.proofs.SiteLemmas.{at_second}
use Rattle.cookie_c.proofs.explanation.explain.Goals as goal

pub returns-in-Ok : goal.returns-in-Ok
returns-in-Ok c =
    at_second _ _ _ c.in-Some.now c.in-Some.ensures
    (inl (explained c.args.request.now c.args.text.now c.args.suffixes.now c.in-Some.now (request_view c.as_seen.result) c.in-Ok.draft
    c.give.result c.args.out.now c.give.new.out c.as_seen.ensures c.in-Ok.ensures c.give.ensures))

pub returns-in-Err : goal.returns-in-Err
returns-in-Err c = at_second _ _ _ c.in-Some.now c.in-Some.ensures (inr (c.none-in-Err.ensures, refl))
