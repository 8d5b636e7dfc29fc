-- One more cookie is stored.
use Rattle.std.proofs.Common.{sym, ap, ◌∙◌, subst, [], take}
use Rattle.cookie_browser.specs.Storage.{CookieStore, kept_with}
use Rattle.cookie_agent.specs.SentCode.{targets}
use Rattle.cookie_agent.specs.Stored.{IsApart, kept_with_each}
use Rattle.cookie_agent.proofs.PlaceLemmas.{kept_with_each-more}
use Rattle.cookie_agent.proofs.PutLemmas.{apart-put}
use Rattle.cookie_agent.proofs.TrimLemmas.{lent-more}
use Rattle.cookie_agent.proofs.in_turn.stored_in_turn.Goals as goal

pub loop-cookie-preserved : goal.loop-cookie-preserved
loop-cookie-preserved c =
    let put = c.in_ok-put_by_key.ensures in
    let lent = c.args.cookies.now in
    let i = c.loop-cookie.cookie-index in
    let b = c.cookie-item.result in
    record {
      value = put.value ∙ ap (kept_with b.now) c.loop-cookie.invariant.value
          ∙ sym (kept_with_each-more (targets (take i lent)) b.now [])
          ∙ ap (λ (s : CookieStore). kept_with_each s []) (sym (lent-more lent i b c.loop-cookie-test.true c.cookie-item.is));
      apart = subst IsApart (sym put.value) (apart-put b.now (targets c.loop-cookie.made.items) c.loop-cookie.invariant.apart);
      places = put.places;
    }
