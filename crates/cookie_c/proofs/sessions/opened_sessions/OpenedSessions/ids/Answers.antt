use Rattle.std.proofs.Common.{◌≡◌, ◌++◌, ◌<◌, get_or, length, ap, subst, sym, ◌∙◌}
use Rattle.cookie_c.proofs.RevokedLemmas.{bytes_more}
use Rattle.cookie_c.proofs.sessions.opened_sessions.OpenedSessions.ids.Goals as goal

pub loop-one-preserved : goal.loop-one-preserved
loop-one-preserved c =
    let opened = c.args.self.now in
    let i = c.loop-one.one-index in
    let one = c.one-item.result in
    let same : c.deref-one-items.result.now ≡ opened = c.deref-one-items.ensures.value ∙ c.self.view_is in
    let below : i < length opened = subst (λ all. i < length all) same c.loop-one-test.true in
    let at : one ≡ get_or opened i one = subst (λ all. one ≡ get_or all i one) same c.one-item.is in
    let added : c.extend_from_slice.new.self.items ≡ c.loop-one.ids.items ++ c.id.result.now = c.in_ok-extend_from_slice.ensures.items in
    added
    ∙ ap (λ bytes. c.loop-one.ids.items ++ bytes) c.id.ensures.value
    ∙ ap (λ bytes. bytes ++ one.session.id) c.loop-one.invariant
    ∙ sym (bytes_more opened i one below at)
