-- One more slot has a cookie that is sent, or none. The slots have all cookies that are sent.
use Rattle.std.proofs.Common.{◌++◌, ◌∷◌, [], Some, None, cond, map, take, sym, ap, ◌∙◌}
use Rattle.std.proofs.lemmas.List.{append-nil, map-append, take_all}
use Rattle.cookie_browser.specs.Storage.{CookieStore, KeptView, is_sent}
use Rattle.cookie_agent.specs.RowsCode.{Slots, held, slot_at}
use Rattle.cookie_agent.specs.Sent.{visible}
use Rattle.cookie_agent.proofs.SlotLemmas.{sent-all, sent-more}
use Rattle.cookie_agent.proofs.header.visible.Goals as goal
use Rattle.cookie_agent.proofs.header.visible.Goals.{in-Some+then-is_sent+in_ok-push, in-Some+else-is_sent, in_default}

pub loop-place-preserved : goal.loop-place-preserved
loop-place-preserved c =
    let test = is_sent c.args.site.now c.args.now in
    let slots : Slots = c.args.slots.now in
    let places = c.args.places.now in
    let i = c.loop-place.place-index in
    let lt = c.loop-place-test.true in
    let so = c.loop-place.invariant in
    let before : CookieStore = visible c.args.site.now c.args.now (held (map (slot_at slots) (take i places))) in
    elim c.match-cookie_in.branch [
      | in-Some+then-is_sent+in_ok-push w ↦
          let x : KeptView = w.in-Some.cookie.now in
          rw (w.sent-is, w.in_ok-push.ensures.items)
          (map-append (λ b. b.now) c.loop-place.sent.items (w.in-Some.cookie ∷ []) ∙ ap (λ l. l ++ x ∷ []) so
          ∙ ap (λ b. before ++ cond b (x ∷ []) []) (sym (sym w.is_sent.ensures ∙ w.if-is_sent.true))
          ∙ sym (sent-more test slots places i (Some x) lt w.in-Some.ensures))
      | in-Some+else-is_sent w ↦
          let x : KeptView = w.in-Some.cookie.now in
          rw w.sent-is
          (so ∙ sym (append-nil before) ∙ ap (λ b. before ++ cond b (x ∷ []) []) (sym (sym w.is_sent.ensures ∙ w.if-is_sent.false))
          ∙ sym (sent-more test slots places i (Some x) lt w.in-Some.ensures))
      | in_default w ↦ rw w.sent-is (so ∙ sym (append-nil before) ∙ sym (sent-more test slots places i None lt w.in_default.ensures))
    ]

pub returns : goal.returns
returns c =
    let slots : Slots = c.args.slots.now in
    let places = c.args.places.now in
    let site = c.args.site.now in
    let now = c.args.now in
    c.loop-place.invariant
    ∙ ap (λ ps. visible site now (held (map (slot_at slots) ps))) (take_all c.loop-place.place-index places c.loop-place-test.false)
    ∙ sent-all (is_sent site now) slots places c.requires.ascend c.requires.sent
