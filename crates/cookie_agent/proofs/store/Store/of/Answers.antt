-- Different cookies are stored as they are.
use Rattle.std.proofs.Common.{◌≡◌, [], ap, rules, ◌∙◌}
use Rattle.std.proofs.lemmas.Result.{IfOk-weaker}
use Rattle.cookie_browser.specs.Storage.{CookieStore}
use Rattle.cookie_agent.specs.SentCode.{targets}
use Rattle.cookie_agent.specs.Stored.{kept_with_each}
use Rattle.cookie_agent.proofs.PlaceLemmas.{kept_with_each-apart}
use Rattle.cookie_agent.proofs.store.Store.of.Goals as goal

pub returns-clause-same : goal.returns-clause-same
returns-clause-same c apart =
    let lent : targets c.deref-2.result.now ≡ c.args.cookies.items = search rules in
    IfOk-weaker c.of_different.result _ _ (λ store h. h
    ∙ ap targets c.deref-3.ensures.value ∙ c.in_ok-stored_in_turn.ensures.value
    ∙ ap (λ (s : CookieStore). kept_with_each s []) lent
    ∙ kept_with_each-apart c.args.cookies.items apart) c.of_different.ensures
