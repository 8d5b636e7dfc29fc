-- The cookies that are loaded are stored in turn after those that are there.
use Rattle.std.proofs.Common.{◌++◌, [], ap, ◌∙◌}
use Rattle.std.proofs.lemmas.Result.{IfOk-weaker}
use Rattle.cookie_browser.specs.Storage.{CookieStore, lasting}
use Rattle.cookie_agent.specs.SentCode.{targets}
use Rattle.cookie_agent.specs.Stored.{kept_with_each}
use Rattle.cookie_agent.proofs.PlaceLemmas.{kept_with_each-after}
use Rattle.cookie_agent.proofs.store.Store.with_each.Goals as goal

pub returns-clause-value : goal.returns-clause-value
returns-clause-value c =
    let old : CookieStore = c.args.self.now in
    let fresh : CookieStore = lasting c.args.now c.args.cookies.now in
    IfOk-weaker c.stored_in_turn.result _ _ (λ all h. h
    ∙ ap (λ (s : CookieStore). kept_with_each s [])
    (ap targets c.deref.ensures.value ∙ c.in_ok-push_lasting.ensures ∙ ap (λ (s : CookieStore). s ++ fresh) (c.in_ok-all.ensures ∙ c.cookies.ensures.value))
    ∙ kept_with_each-after old fresh c.cookies.ensures.apart) c.stored_in_turn.ensures.value
