use Rattle.std.proofs.Common.{◌≡◌, ap, subst, sym, ◌∙◌}
use Rattle.cookie.specs.AttributeValues.{FitsField}
use Rattle.cookie.specs.Jar.{Remove, after}
use Rattle.cookie.specs.Moments.{date_of}
use Rattle.cookie_c.specs.Jars.{IsChanged, scoped_record}
use Rattle.cookie_c.proofs.jar.calls.remove_scoped.Goals as goal

pub returns : goal.returns
returns c =
    let moment = c.in-Ok-Ok.ensures.cases in
    let name = c.in-Ok-Ok.ensures'.cases in
    let path = c.in-Ok-Ok-2.ensures.cases in
    let domain = c.in-Ok-Ok-2.ensures'.cases in
    let is : c.scoped_cookie.result.fields ≡ scoped_record c.args.name.now c.args.path.now c.args.domain.now =
    c.scoped_cookie.ensures ∙ (λ i. scoped_record (name.0 i) (path.0 i) (domain.0 i)) in
    record {
      not_utf8 = λ other. absurd (other (moment.1, (name.1, path.1, domain.1)));
      invalid = λ _ _ unfit. c.remove_at.ensures.invalid (λ fits. unfit (subst FitsField is fits));
      no_date = λ _ _ fits none. c.remove_at.ensures.no_date (subst FitsField (sym is) fits) (ap date_of moment.0 ∙ none);
      removed = λ now _ _ fits some.
          subst (λ r. IsChanged (after (Remove r now)) c.remove_at.result c.args.jar.now c.remove_at.new.jar) is
          (c.remove_at.ensures.removed now (subst FitsField (sym is) fits) (ap date_of moment.0 ∙ some));
    }
