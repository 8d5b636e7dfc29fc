use Rattle.std.proofs.Common.{◌∙◌, sym}
use Rattle.cookie_theorems.specs.Acts.{IsSavedIfNeeded}
use Rattle.cookie_theorems.proofs.ActLemmas.{on_none, on_some, put_back, take_none}
use Rattle.cookie_theorems.proofs.serve.save.Goals as goal

pub returns-in_default-clause-saved : goal.returns-in_default-clause-saved
returns-in_default-clause-saved g c kept can =
    let visits = c.args.visits.now.items in
    let place = c.args.place in
    let none = sym c.take_at.ensures.found ∙ c.in_default.is in
    on_none visits place (IsSavedIfNeeded g.row.R-Error.Denot g.row.G-Error.Denot c.args.sessions.now c.args.now) c.take_at.new.visits.items none (c.take_at.ensures.taken ∙ take_none visits place none)

pub returns-clause-saved : goal.returns-clause-saved
returns-clause-saved g c kept can =
    let visits = c.args.visits.now.items in
    let place = c.args.place in
    let old = c.in-Some.handling in
    let next = c.save_visit-event.new.handling in
    on_some visits place (IsSavedIfNeeded g.row.R-Error.Denot g.row.G-Error.Denot c.args.sessions.now c.args.now) old next c.save_visit-event.result c.put_at.new.visits.items (sym c.take_at.ensures.found ∙ c.in-Some.is)
    (c.save_visit-event.ensures.saved kept can)
    (put_back visits place c.take_at.new.visits.items c.put_at.new.visits.items next c.take_at.ensures.taken c.put_at.ensures)
