use Rattle.std.proofs.Common.{ap, ◌∙◌}
use Rattle.cookie_core.specs.Record.{CookieView, Record, no_raw_forms}
use Rattle.cookie_core.proofs.CopyLemmas.{Copied-copy, HasFittingTexts-copied, HasFittingTexts-kept, fields-kept, view-copied-own}
use Rattle.cookie_core.proofs.cookie.Cookie.into_owned.Goals as goal

pub invariant_of-result : goal.invariant_of-result
invariant_of-result c =
    let kept = c.kept_source-source.ensures in
    let a = record c.self.inside { source = c.kept_source-source.result } in
    HasFittingTexts-copied a _ (Copied-copy a _ _ _ _ _ c.in_ok-into_owned.ensures.bytes c.in_ok-into_owned-2.ensures c.in_ok-into_owned-3.ensures c.in_ok-into_owned-4.ensures c.in_ok-into_owned-5.ensures)
    (HasFittingTexts-kept c.self.inside c.kept_source-source.result kept.name kept.value kept.path kept.domain kept.utf8 c.self.invariant)

pub returns : goal.returns
returns c =
    let kept = c.kept_source-source.ensures in
    let a = record c.self.inside { source = c.kept_source-source.result } in
    view-copied-own a _ (Copied-copy a _ _ _ _ _ c.in_ok-into_owned.ensures.bytes c.in_ok-into_owned-2.ensures c.in_ok-into_owned-3.ensures c.in_ok-into_owned-4.ensures c.in_ok-into_owned-5.ensures) c.in_ok-into_owned.ensures.own
    ∙ ap (λ (r : Record). record { fields = r; raw = no_raw_forms }) (fields-kept c.self.inside c.kept_source-source.result kept.name kept.value kept.path kept.domain)
    ∙ ap (λ (v : CookieView). record { fields = v.fields; raw = no_raw_forms }) c.self.view_is
