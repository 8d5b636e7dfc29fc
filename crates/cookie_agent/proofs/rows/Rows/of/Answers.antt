-- One more cookie is in its slot.
use Rattle.std.proofs.Common.{◌++◌, [], ◌∷◌, ap, sym, take, ◌∙◌}
use Rattle.cookie_browser.specs.Storage.{CookieStore, KeptView}
use Rattle.cookie_agent.specs.SentCode.{targets}
use Rattle.cookie_agent.proofs.TrimLemmas.{lent-more}
use Rattle.cookie_agent.proofs.rows.Rows.of.Goals as goal

pub loop-cookie-preserved : goal.loop-cookie-preserved
loop-cookie-preserved c =
    let i = c.loop-cookie.cookie-index in
    let b = c.cookie-item.result in
    record {
      items = c.in_ok-append.ensures.ok
          ∙ ap (λ (s : CookieStore). s ++ c.in_ok-clone.field-0 ∷ []) c.loop-cookie.invariant.items
          ∙ ap (λ (x : KeptView). targets (take i c.args.cookies.now) ++ x ∷ []) c.in_ok-clone.ensures
          ∙ sym (lent-more c.args.cookies.now i b c.loop-cookie-test.true c.cookie-item.is);
      rows = c.append.ensures.rows;
    }
