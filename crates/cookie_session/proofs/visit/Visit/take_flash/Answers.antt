use Rattle.std.proofs.Common.{ap, sym, ◌∙◌}
use Rattle.std.proofs.lemmas.Option.{none-some}
use Rattle.std.specs.FinMap.{get}
use Rattle.std.specs.Option.{option_copied}
use Rattle.cookie.proofs.NameLemmas.{get_removed}
use Rattle.cookie_session.specs.Flash.{flash_name}
use Rattle.cookie_session.specs.Session.{SessionState}
use Rattle.cookie_session.specs.Visit.{VisitState}
use Rattle.cookie_session.proofs.visit.Visit.take_flash.Goals as goal

pub returns-clause-once : goal.returns-clause-once
returns-clause-once c =
    let found = sym (ap option_copied c.in-Some.is) ∙ c.get.ensures ∙ ap (λ (s : SessionState). get s.texts flash_name) c.session.ensures in
    let removed = c.remove.ensures.some (λ none. none-some _ (sym none ∙ sym found)) in
    ap (λ (v : VisitState). get v.session.texts flash_name) removed ∙ get_removed c.args.self.now.session.texts flash_name flash_name
