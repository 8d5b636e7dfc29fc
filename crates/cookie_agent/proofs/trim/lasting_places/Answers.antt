-- One more place, if its cookie lasts.
use Rattle.std.proofs.Common.{◌≡◌, ◌<◌, true, false, get_or, length, sym, ◌∙◌, arith}
use Rattle.std.proofs.lemmas.List.{length-map}
use Rattle.cookie_browser.specs.Storage.{CookieStore, KeptView}
use Rattle.cookie_agent.specs.SentCode.{targets}
use Rattle.cookie_agent.proofs.TrimLemmas.{in_order_more, lasting_more, target_at}
use Rattle.cookie_agent.proofs.trim.lasting_places.Goals as goal
use Rattle.cookie_agent.proofs.trim.lasting_places.Goals.{then-lasts+in_ok-push, else-lasts}

pub loop-index-preserved : goal.loop-index-preserved
loop-index-preserved c =
    let now = c.args.now in
    let store : CookieStore = targets c.args.cookies.now in
    let at = c.loop-index in
    let x : KeptView = c.index-cookies-index.result.now in
    let is : x ≡ get_or store at.index x = target_at c.args.cookies.now at.index c.index-cookies-index.result c.index-cookies-index.is in
    let long : length store ≡ length c.args.cookies.now = length-map c.args.cookies.now (λ b. b.now) in
    let below : at.index < length store = omega (arith, long, c.loop-index-test.true) in
    elim c.if-lasts.branch [
      | then-lasts+in_ok-push w ↦ rw (w.places-is, w.in_ok-push.ensures.items) (record {
        value = lasting_more now store at.index x at.places.items below is at.invariant.value true (sym c.lasts.ensures ∙ w.if-lasts.true);
        in_order = in_order_more at.places.items at.index at.invariant.in_order true;
      })
      | else-lasts w ↦ rw w.places-is (record {
        value = lasting_more now store at.index x at.places.items below is at.invariant.value false (sym c.lasts.ensures ∙ w.if-lasts.false);
        in_order = in_order_more at.places.items at.index at.invariant.in_order false;
      })
    ]
