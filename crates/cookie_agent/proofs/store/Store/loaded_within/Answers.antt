-- What stays is apart.
use Rattle.std.proofs.Common.{sym, ap, subst, ◌∙◌}
use Rattle.cookie_browser.specs.Storage.{CookieStore}
use Rattle.cookie_agent.specs.Limits.{trimmed}
use Rattle.cookie_agent.specs.SentCode.{targets}
use Rattle.cookie_agent.specs.Stored.{IsApart}
use Rattle.cookie_agent.proofs.ApartLemmas.{apart-trimmed}
use Rattle.cookie_agent.proofs.store.Store.loaded_within.Goals as goal

pub of_different-requires : goal.of_different-requires
of_different-requires c =
    let list = c.args.suffixes.now in
    let limits = c.args.limits in
    let now = c.args.now in
    let all : CookieStore = targets c.in_ok-all.all.items in
    subst IsApart (sym (ap targets c.deref-2.ensures.value ∙ c.in_ok-kept.ensures ∙ ap (λ lent. trimmed list limits now (targets lent)) c.deref.ensures.value))
    (apart-trimmed list limits now all c.in_ok-all.ensures.apart)
