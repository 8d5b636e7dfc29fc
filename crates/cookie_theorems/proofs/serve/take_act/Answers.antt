use Rattle.std.proofs.Common.{refl, sym, subst}
use Rattle.std.proofs.lemmas.Result.{IfOk-weaker}
use Rattle.std.specs.Prelude.{IfOk}
use Rattle.cookie_theorems.specs.Acts.{IsActed}
use Rattle.cookie_theorems.specs.declared.act.Act.{Act}
use Rattle.cookie_theorems.proofs.ActLemmas.{both_ok, quiet_changed, quiet_leaves, quiet_renewed, quiet_restarted}
use Rattle.cookie_theorems.proofs.serve.take_act.Goals as goal

pub returns-in-Open-clause-acted : goal.returns-in-Open-clause-acted
returns-in-Open-clause-acted g c kept can =
    let E = g.row.R-Error.Denot in
    let G = g.row.G-Error.Denot in
    let set = g.R.Revocations.revoked_until in
    subst (λ (act : Act). IfOk c.open.result (λ event. IsActed E G act c.args.visits.now.items (set c.args.revocations.now) event c.open.new.visits.items (set c.open.new.revocations))) (sym c.in-Open.is)
    (IfOk-weaker c.open.result _ _ (λ event both. record { comes = both.0; leaves = both.1 }) (both_ok c.open.result _ _ (c.open.ensures.opened kept) (c.open.ensures.leaves kept)))

pub returns-in-Renew-clause-acted : goal.returns-in-Renew-clause-acted
returns-in-Renew-clause-acted g c kept can =
    let E = g.row.R-Error.Denot in
    let G = g.row.G-Error.Denot in
    let revoked = g.R.Revocations.revoked_until c.args.revocations.now in
    let visits = c.args.visits.now.items in
    let after = c.renew.new.visits.items in
    let event = c.renew.result in
    subst (λ (act : Act). IsActed E G act visits revoked event after revoked) (sym c.in-Renew.is) (record {
      comes = c.renew.ensures;
      leaves = quiet_leaves event _ revoked (quiet_renewed E G event c.in-Renew.sessions c.in-Renew.now c.in-Renew.place visits after c.renew.ensures);
    })

pub returns-in-Restart-clause-acted : goal.returns-in-Restart-clause-acted
returns-in-Restart-clause-acted g c kept can =
    let E = g.row.R-Error.Denot in
    let G = g.row.G-Error.Denot in
    let revoked = g.R.Revocations.revoked_until c.args.revocations.now in
    let visits = c.args.visits.now.items in
    let after = c.restart.new.visits.items in
    let event = c.restart.result in
    subst (λ (act : Act). IsActed E G act visits revoked event after revoked) (sym c.in-Restart.is) (record {
      comes = c.restart.ensures;
      leaves = quiet_leaves event _ revoked (quiet_restarted E G event c.in-Restart.sessions c.in-Restart.now c.in-Restart.place visits after c.restart.ensures);
    })

pub returns-in-Write-clause-acted : goal.returns-in-Write-clause-acted
returns-in-Write-clause-acted g c kept can =
    let E = g.row.R-Error.Denot in
    let G = g.row.G-Error.Denot in
    let revoked = g.R.Revocations.revoked_until c.args.revocations.now in
    let visits = c.args.visits.now.items in
    let after = c.write.new.visits.items in
    let event = c.write.result in
    subst (λ (act : Act). IsActed E G act visits revoked event after revoked) (sym c.in-Write.is) (record {
      comes = c.write.ensures;
      leaves = quiet_leaves event _ revoked (quiet_changed E G event _ _ _ visits after c.write.ensures);
    })

pub returns-in-Save-clause-acted : goal.returns-in-Save-clause-acted
returns-in-Save-clause-acted g c kept can =
    let E = g.row.R-Error.Denot in
    let G = g.row.G-Error.Denot in
    let set = g.R.Revocations.revoked_until in
    subst (λ (act : Act). IsActed E G act c.args.visits.now.items (set c.args.revocations.now) c.save.result c.save.new.visits.items (set c.save.new.revocations)) (sym c.in-Save.is)
    (record { comes = c.save.ensures.saved kept can; leaves = c.save.ensures.leaves kept can })

pub returns-in-LogOut-clause-acted : goal.returns-in-LogOut-clause-acted
returns-in-LogOut-clause-acted g c kept can =
    let E = g.row.R-Error.Denot in
    let G = g.row.G-Error.Denot in
    let set = g.R.Revocations.revoked_until in
    subst (λ (act : Act). IsActed E G act c.args.visits.now.items (set c.args.revocations.now) c.log_out.result c.log_out.new.visits.items (set c.log_out.new.revocations)) (sym c.in-LogOut.is)
    (record { comes = c.log_out.ensures.logged_out kept can; leaves = c.log_out.ensures.leaves kept can })

pub returns-in-Forget-clause-acted : goal.returns-in-Forget-clause-acted
returns-in-Forget-clause-acted g c kept can =
    let E = g.row.R-Error.Denot in
    let G = g.row.G-Error.Denot in
    let set = g.R.Revocations.revoked_until in
    let visits = c.args.visits.now.items in
    subst (λ (act : Act). IsActed E G act visits (set c.args.revocations.now) c.forget.result visits (set c.forget.new.revocations)) (sym c.in-Forget.is)
    (record { comes = (c.forget.ensures.forgotten kept, refl); leaves = c.forget.ensures.leaves kept })
