use Rattle.std.proofs.Common.{◌∙◌, Ok, Err, ap}
use Rattle.std.proofs.lemmas.Result.{IfOk-weaker, on_err_weaker}
use Rattle.cookie_session.specs.Seconds.{second_of}
use Rattle.cookie_session.specs.Session.{pass_of}
use Rattle.cookie_theorems.proofs.ServeLemmas.{IsSave, failed_leaves, failed_over, gone_one, same_sets, saved_none, saved_over, unsure_one, was_needed, was_not}
use Rattle.cookie_theorems.proofs.serve.replace.Goals as goal

pub returns-in-Ok-true-clause-saved : goal.returns-in-Ok-true-clause-saved
returns-in-Ok-true-clause-saved g c kept can =
    let E = g.row.R-Error.Denot in
    let G = g.row.G-Error.Denot in
    let site = c.args.sessions.now in
    let now = c.args.now in
    let visit = c.args.handling.now.visit in
    let after = c.save_if_needed.new.visit in
    let result = c.save_if_needed.result in
    let says = c.save_if_needed.ensures in
    let save : IsSave E G site now visit after result = record {
      skipped = λ not. ((says.skipped not).0, (says.skipped not).2);
      saved = λ needed. IfOk-weaker result _ _ (λ ok all. (all.0, all.5)) (says.saved needed);
      stays = on_err_weaker result (λ both. both.1) says.err;
      prefix = says.prefix;
      over = says.over;
      too_long = says.too_long;
      too_large = λ size was. (says.too_large size was).0;
      failed = says.failed;
    } in
    let was = c.in-Ok-true.is ∙ ap Ok c.in-Ok-true.field-0-test in
    saved_over E G site now visit after result save c.args.from c.pass-to.result c.requires (c.pass-to.ensures ∙ ap pass_of c.session.ensures) was

pub returns-in-Ok-true-clause-leaves : goal.returns-in-Ok-true-clause-leaves
returns-in-Ok-true-clause-leaves g c kept can =
    let E = g.row.R-Error.Denot in
    let G = g.row.G-Error.Denot in
    let site = c.args.sessions.now in
    let now = c.args.now in
    let visit = c.args.handling.now.visit in
    let after = c.save_if_needed.new.visit in
    let result = c.save_if_needed.result in
    let says = c.save_if_needed.ensures in
    let save : IsSave E G site now visit after result = record {
      skipped = λ not. ((says.skipped not).0, (says.skipped not).2);
      saved = λ needed. IfOk-weaker result _ _ (λ ok all. (all.0, all.5)) (says.saved needed);
      stays = on_err_weaker result (λ both. both.1) says.err;
      prefix = says.prefix;
      over = says.over;
      too_long = says.too_long;
      too_large = λ size was. (says.too_large size was).0;
      failed = says.failed;
    } in
    let was = c.in-Ok-true.is ∙ ap Ok c.in-Ok-true.field-0-test in
    c.in-Ok-true.ensures.spent (was_needed E G site now visit after result save was) c.args.from c.requires kept can

pub returns-in-Ok-false-clause-saved : goal.returns-in-Ok-false-clause-saved
returns-in-Ok-false-clause-saved g c kept can =
    let E = g.row.R-Error.Denot in
    let G = g.row.G-Error.Denot in
    let site = c.args.sessions.now in
    let now = c.args.now in
    let visit = c.args.handling.now.visit in
    let after = c.save_if_needed.new.visit in
    let result = c.save_if_needed.result in
    let says = c.save_if_needed.ensures in
    let save : IsSave E G site now visit after result = record {
      skipped = λ not. ((says.skipped not).0, (says.skipped not).2);
      saved = λ needed. IfOk-weaker result _ _ (λ ok all. (all.0, all.5)) (says.saved needed);
      stays = on_err_weaker result (λ both. both.1) says.err;
      prefix = says.prefix;
      over = says.over;
      too_long = says.too_long;
      too_large = λ size was. (says.too_large size was).0;
      failed = says.failed;
    } in
    saved_none E G site now visit after result save (c.in-Ok-false.is ∙ ap Ok c.in-Ok-false.field-0-test)

pub returns-in-Ok-false-clause-leaves : goal.returns-in-Ok-false-clause-leaves
returns-in-Ok-false-clause-leaves g c kept can =
    let E = g.row.R-Error.Denot in
    let G = g.row.G-Error.Denot in
    let site = c.args.sessions.now in
    let now = c.args.now in
    let visit = c.args.handling.now.visit in
    let after = c.save_if_needed.new.visit in
    let result = c.save_if_needed.result in
    let says = c.save_if_needed.ensures in
    let save : IsSave E G site now visit after result = record {
      skipped = λ not. ((says.skipped not).0, (says.skipped not).2);
      saved = λ needed. IfOk-weaker result _ _ (λ ok all. (all.0, all.5)) (says.saved needed);
      stays = on_err_weaker result (λ both. both.1) says.err;
      prefix = says.prefix;
      over = says.over;
      too_long = says.too_long;
      too_large = λ size was. (says.too_large size was).0;
      failed = says.failed;
    } in
    let set = g.R.Revocations.revoked_until in
    let was = c.in-Ok-false.is ∙ ap Ok c.in-Ok-false.field-0-test in
    same_sets (set c.args.revocations.now) (set c.save_if_needed.new.revocations) (ap set (says.skipped (was_not E G site now visit after result save was)).4)

pub returns-in-Err-clause-saved : goal.returns-in-Err-clause-saved
returns-in-Err-clause-saved g c kept can =
    let E = g.row.R-Error.Denot in
    let G = g.row.G-Error.Denot in
    let site = c.args.sessions.now in
    let now = c.args.now in
    let visit = c.args.handling.now.visit in
    let after = c.save_if_needed.new.visit in
    let result = c.save_if_needed.result in
    let says = c.save_if_needed.ensures in
    let save : IsSave E G site now visit after result = record {
      skipped = λ not. ((says.skipped not).0, (says.skipped not).2);
      saved = λ needed. IfOk-weaker result _ _ (λ ok all. (all.0, all.5)) (says.saved needed);
      stays = on_err_weaker result (λ both. both.1) says.err;
      prefix = says.prefix;
      over = says.over;
      too_long = says.too_long;
      too_large = λ size was. (says.too_large size was).0;
      failed = says.failed;
    } in
    let told = c.failed.ensures in
    failed_over E G site now visit after result save c.args.from c.requires c.in-Err.error c.in-Err.is c.failed.result told.refused told.gone told.unsure

pub returns-in-Err-clause-leaves : goal.returns-in-Err-clause-leaves
returns-in-Err-clause-leaves g c kept can =
    let set = g.R.Revocations.revoked_until in
    let old = set c.args.revocations.now in
    let new = set c.save_if_needed.new.revocations in
    let second = second_of c.args.now in
    let visit = c.args.handling.now.visit in
    let from = c.args.from in
    let says = c.save_if_needed.ensures in
    let told = c.failed.ensures in
    let was = c.in-Err.is in
    failed_leaves g.row.R-Error.Denot second from old new c.in-Err.error c.failed.result told.refused told.gone told.unsure
    (λ why is. same_sets old new (ap set (says.refused why (was ∙ ap Err is))))
    (λ is. gone_one visit second from old new c.requires (says.gone kept can (was ∙ ap Err is)))
    (λ why is. let unsure = says.unsure why (was ∙ ap Err is) in unsure_one visit from old new c.requires (unsure.0, unsure.1, unsure.2 kept))
