-- What is found above comes first, and then what is found below.
use Rattle.std.proofs.Common.{false, sym, subst, ⊎_elim}
use Rattle.std.proofs.lemmas.Bool.{or_cases}
use Rattle.std.proofs.lemmas.List.Elements.{Contains-append_left, Contains-append_right}
use Rattle.std.specs.List.{Contains}
use Rattle.cookie_browser.specs.Request.{is_in_domain}
use Rattle.cookie_agent.proofs.domain_index.DomainIndex.around.Goals as goal

pub returns : goal.returns
returns c other n near listed =
    let above = c.in_ok-found.found.items in
    let below = c.deref.result.now in
    subst (λ l. Contains l n) (sym c.in_ok-extend_from_slice.ensures.items) (⊎_elim
    (λ over. Contains-append_left above below n (c.in_ok-found.ensures other n over listed))
    (λ under. Contains-append_right above below n (subst (λ l. Contains l n) (sym c.deref.ensures.value) (c.in_ok-below.ensures other n under listed)))
    (or_cases (is_in_domain c.args.domain.now false other) (is_in_domain other false c.args.domain.now) near))
