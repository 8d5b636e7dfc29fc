use Rattle.std.proofs.Common.{◌∙◌, sym}
use Rattle.cookie_theorems.specs.Acts.{IsLoggedOut}
use Rattle.cookie_theorems.proofs.ActLemmas.{off_none, off_some, take_none}
use Rattle.cookie_theorems.proofs.serve.log_out.Goals as goal

pub returns-in_default-clause-logged_out : goal.returns-in_default-clause-logged_out
returns-in_default-clause-logged_out g c kept can =
    let visits = c.args.visits.now.items in
    let place = c.args.place in
    let none = sym c.take_at.ensures.found ∙ c.in_default.is in
    off_none visits place (IsLoggedOut g.row.R-Error.Denot) c.take_at.new.visits.items none (c.take_at.ensures.taken ∙ take_none visits place none)

pub returns-clause-logged_out : goal.returns-clause-logged_out
returns-clause-logged_out g c kept can =
    off_some c.args.visits.now.items c.args.place (IsLoggedOut g.row.R-Error.Denot) c.in-Some.handling c.end_visit.result c.take_at.new.visits.items
    (sym c.take_at.ensures.found ∙ c.in-Some.is) (c.end_visit.ensures.logged_out kept can) c.take_at.ensures.taken
