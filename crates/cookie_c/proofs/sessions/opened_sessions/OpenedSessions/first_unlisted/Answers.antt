use Rattle.std.proofs.Common.{◌≡◌, ◌↔◌, ◌<◌, ◌≤◌, Contains, get_or, length, subst, sym, true≢false, ◌∙◌}
use Rattle.std.specs.Prelude.{IsTrue}
use Rattle.cookie_c.proofs.RevokedLemmas.{id_here, listed_all, listed_more}
use Rattle.cookie_c.proofs.sessions.opened_sessions.OpenedSessions.first_unlisted.Goals as goal

pub returns-then-not-is_listed : goal.returns-then-not-is_listed
returns-then-not-is_listed c =
    let opened = c.args.self.now in
    let revoked = c.args.revoked.now in
    let i = c.loop-place.place in
    let one = c.one-item.result in
    let same : c.deref-one-items.result.now ≡ opened = c.deref-one-items.ensures.value ∙ c.self.view_is in
    let below : i < length opened = subst (λ all. i < length all) same c.loop-place-test.true in
    let at : one ≡ get_or opened i one = subst (λ all. one ≡ get_or all i one) same c.one-item.is in
    let listed = subst (λ id. IsTrue c.is_listed.result ↔ Contains revoked id) c.id.ensures.value c.is_listed.ensures in
    (c.loop-place.invariant, (one.session.id, id_here opened i one below at, λ has. true≢false (sym (listed.1 has) ∙ c.if-not-is_listed.true)))

pub loop-place-preserved : goal.loop-place-preserved
loop-place-preserved c =
    let opened = c.args.self.now in
    let revoked = c.args.revoked.now in
    let i = c.loop-place.place in
    let one = c.one-item.result in
    let same : c.deref-one-items.result.now ≡ opened = c.deref-one-items.ensures.value ∙ c.self.view_is in
    let below : i < length opened = subst (λ all. i < length all) same c.loop-place-test.true in
    let at : one ≡ get_or opened i one = subst (λ all. one ≡ get_or all i one) same c.one-item.is in
    let listed = subst (λ id. IsTrue c.is_listed.result ↔ Contains revoked id) c.id.ensures.value c.is_listed.ensures in
    listed_more opened i one below at revoked c.loop-place.invariant (listed.0 c.if-not-is_listed.false)

pub returns : goal.returns
returns c =
    let same : c.deref-one-items.result.now ≡ c.args.self.now = c.deref-one-items.ensures.value ∙ c.self.view_is in
    let past : length c.args.self.now ≤ c.loop-place.place = subst (λ all. length all ≤ c.loop-place.place) same c.loop-place-test.false in
    listed_all c.args.self.now c.loop-place.place past c.args.revoked.now c.loop-place.invariant
