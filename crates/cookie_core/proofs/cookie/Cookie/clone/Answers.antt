use Rattle.std.proofs.Common.{◌∙◌}
use Rattle.cookie_core.proofs.CopyLemmas.{Copied-copy, HasFittingTexts-copied, is_cookie, view-copied}
use Rattle.cookie_core.proofs.cookie.Cookie.clone.Goals as goal

pub invariant_of-result : goal.invariant_of-result
invariant_of-result c = HasFittingTexts-copied c.self.inside _ (Copied-copy c.self.inside _ _ _ _ _ c.in_ok-clone.ensures.bytes c.in_ok-clone-2.ensures c.in_ok-clone-3.ensures c.in_ok-clone-4.ensures c.in_ok-clone-5.ensures) c.self.invariant

pub returns-clause-gives : goal.returns-clause-gives
returns-clause-gives c = view-copied c.self.inside _ (Copied-copy c.self.inside _ _ _ _ _ c.in_ok-clone.ensures.bytes c.in_ok-clone-2.ensures c.in_ok-clone-3.ensures c.in_ok-clone-4.ensures c.in_ok-clone-5.ensures) c.in_ok-clone.ensures ∙ c.self.view_is

pub returns-clause-cookie : goal.returns-clause-cookie
returns-clause-cookie c = is_cookie c.self.inside c.args.self.now c.self.view_is c.self.invariant
