use Rattle.std.proofs.Common.{◌∙◌, Err, ap}
use Rattle.std.proofs.lemmas.Result.{IfOk-weaker, on_err_weaker}
use Rattle.cookie_session.specs.Seconds.{second_of}
use Rattle.cookie_theorems.proofs.ServeLemmas.{IsSave, failed_own, refused_leaves, same_sets, saved_own}
use Rattle.cookie_theorems.proofs.serve.save_own.Goals as goal

pub returns-in-Ok-clause-saved : goal.returns-in-Ok-clause-saved
returns-in-Ok-clause-saved g c kept can =
    let E = g.row.R-Error.Denot in
    let G = g.row.G-Error.Denot in
    let site = c.args.sessions.now in
    let now = c.args.now in
    let visit = c.args.handling.now.visit in
    let after = c.save_if_needed.new.visit in
    let result = c.save_if_needed.result in
    let says = c.save_if_needed.ensures in
    let save : IsSave E G site now visit after result = record {
      skipped = λ not. ((says.skipped not).0, (says.skipped not).2);
      saved = λ needed. IfOk-weaker result _ _ (λ ok all. (all.0, all.5)) (says.saved needed);
      stays = on_err_weaker result (λ both. both.1) says.err;
      prefix = says.prefix;
      over = says.over;
      too_long = says.too_long;
      too_large = λ size was. (says.too_large size was).0;
      failed = says.failed;
    } in
    saved_own E G site now visit after result save c.requires c.in-Ok.field-0 c.in-Ok.is

pub returns-in-Ok-clause-leaves : goal.returns-in-Ok-clause-leaves
returns-in-Ok-clause-leaves g c kept can =
    let set = g.R.Revocations.revoked_until in
    same_sets (set c.args.revocations.now) (set c.save_if_needed.new.revocations) (ap set (c.save_if_needed.ensures.plain c.requires))

pub returns-in-Err-clause-saved : goal.returns-in-Err-clause-saved
returns-in-Err-clause-saved g c kept can =
    let E = g.row.R-Error.Denot in
    let G = g.row.G-Error.Denot in
    let site = c.args.sessions.now in
    let now = c.args.now in
    let visit = c.args.handling.now.visit in
    let after = c.save_if_needed.new.visit in
    let result = c.save_if_needed.result in
    let says = c.save_if_needed.ensures in
    let save : IsSave E G site now visit after result = record {
      skipped = λ not. ((says.skipped not).0, (says.skipped not).2);
      saved = λ needed. IfOk-weaker result _ _ (λ ok all. (all.0, all.5)) (says.saved needed);
      stays = on_err_weaker result (λ both. both.1) says.err;
      prefix = says.prefix;
      over = says.over;
      too_long = says.too_long;
      too_large = λ size was. (says.too_large size was).0;
      failed = says.failed;
    } in
    failed_own E G site now visit after result save c.in-Err.error c.in-Err.is
    (λ is. let gone = says.gone kept can is in c.requires gone.0 gone.1)
    (λ why is. let unsure = says.unsure why is in c.requires unsure.0 unsure.1)
    c.unchanged.result c.unchanged.ensures.refused

pub returns-in-Err-clause-leaves : goal.returns-in-Err-clause-leaves
returns-in-Err-clause-leaves g c kept can =
    let set = g.R.Revocations.revoked_until in
    let old = set c.args.revocations.now in
    let new = set c.save_if_needed.new.revocations in
    let says = c.save_if_needed.ensures in
    refused_leaves g.row.R-Error.Denot (second_of c.args.now) old new c.in-Err.error c.unchanged.result c.unchanged.ensures.refused c.unchanged.ensures.failed
    (λ is. let gone = says.gone kept can (c.in-Err.is ∙ ap Err is) in c.requires gone.0 gone.1)
    (same_sets old new (ap set (says.plain c.requires)))
