use Rattle.std.proofs.Common.{◌≡◌, ap, subst, sym, ◌∙◌}
use Rattle.std.specs.List.{flat_map}
use Rattle.cookie.specs.Originals.{HasFirst, field_cookies, with_originals}
use Rattle.cookie.proofs.OriginalLemmas.{has_first, with_originals-more}
use Rattle.cookie_http.specs.Fields.{request_cookies}
use Rattle.cookie_http.proofs.request.with_headers.Goals as goal

pub loop-value-init : goal.loop-value-init
loop-value-init c =
    ap (λ values. with_originals (flat_map (λ v. field_cookies v.bytes) values) c.args.jar) (c.into_iter-value-iterator.ensures.into_iter_gives ∙ c.get_all-value-items.ensures.value)

pub loop-value-preserved : goal.loop-value-preserved
loop-value-preserved c =
    let left = flat_map (λ v. field_cookies v.bytes) c.next.new.self in
    ap (with_originals left) c.in_ok-jar.ensures.made
    ∙ ap (λ bytes. with_originals left (with_originals (field_cookies bytes) c.loop-value.jar)) c.as_bytes.ensures.value
    ∙ with_originals-more (field_cookies c.in-Some.value.now.bytes) left c.loop-value.jar
    ∙ ap (λ values. with_originals (flat_map (λ v. field_cookies v.bytes) values) c.loop-value.jar) (sym c.in-Some.ensures.steps)
    ∙ c.loop-value.invariant

pub returns-clause-first : goal.returns-clause-first
returns-clause-first c =
    let cookies = request_cookies c.args.headers.now in
    let made : c.loop-value.jar ≡ with_originals cookies c.args.jar =
    sym (ap (λ values. with_originals (flat_map (λ v. field_cookies v.bytes) values) c.loop-value.jar) c.in-None.ensures.steps.0) ∙ c.loop-value.invariant in
    subst (HasFirst cookies c.args.jar) (sym made) (has_first cookies c.args.jar)
