use Rattle.std.proofs.Common.{[], All, get_or, take, subst, sym}
use Rattle.std.proofs.lemmas.List.{take_more}
use Rattle.std.proofs.lemmas.List.Elements.{All-append, All-cons, All-nil}
use Rattle.cookie_session.specs.Revocations.{IsRevoked}
use Rattle.cookie_session.proofs.UnrevokedLemmas.{same_again}
use Rattle.cookie_session.proofs.revocations.Revocations.first_unrevoked.Goals as goal

pub returns-in_err-is_revoked-clause-same : goal.returns-in_err-is_revoked-clause-same
returns-in_err-is_revoked-clause-same g c kept =
    let set = g.Self.Revocations.revoked_until in
    let before = c.loop-place.invariant (c.is_revoked.ensures.kept kept) in
    same_again (set c.args.self.now) (set c.loop-place.self) (set c.is_revoked.new.self) before.1 (c.is_revoked.ensures.same kept)

pub returns-in_err-is_revoked-clause-kept : goal.returns-in_err-is_revoked-clause-kept
returns-in_err-is_revoked-clause-kept g c kept = (c.loop-place.invariant (c.is_revoked.ensures.kept kept)).0

pub loop-place-preserved : goal.loop-place-preserved
loop-place-preserved g c kept =
    let set = g.Self.Revocations.revoked_until in
    let Gone = IsRevoked (set c.args.self.now) in
    let ids = c.args.ids.now in
    let before = c.loop-place.invariant (c.is_revoked.ensures.kept kept) in
    let gone = (before.1 (get_or ids c.loop-place.place []) 0).0 ((c.in_ok-is_revoked.ensures.exact kept).0 c.if-not-branch.false) in (
      before.0,
      same_again (set c.args.self.now) (set c.loop-place.self) (set c.is_revoked.new.self) before.1 (c.is_revoked.ensures.same kept),
      subst (All Gone) (sym (take_more ids c.loop-place.place [] c.loop-place-test.true)) (All-append Gone (take c.loop-place.place ids) _ before.2 (All-cons Gone (get_or ids c.loop-place.place []) [] gone (All-nil Gone))),
    )
