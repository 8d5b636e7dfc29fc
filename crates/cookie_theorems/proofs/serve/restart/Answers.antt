use Rattle.std.proofs.Common.{◌∙◌, sym}
use Rattle.std.specs.FinMap.{empty}
use Rattle.cookie_theorems.specs.Acts.{IsAnew}
use Rattle.cookie_theorems.proofs.ActLemmas.{on_none, on_some, put_back, take_none}
use Rattle.cookie_theorems.proofs.ServeLemmas.{anew}
use Rattle.cookie_theorems.proofs.serve.restart.Goals as goal

pub returns-in_default : goal.returns-in_default
returns-in_default g c =
    let visits = c.args.visits.now.items in
    let place = c.args.place in
    let none = sym c.take_at.ensures.found ∙ c.in_default.is in
    on_none visits place (IsAnew g.row.G-Error.Denot c.args.sessions.now c.args.now empty) c.take_at.new.visits.items none (c.take_at.ensures.taken ∙ take_none visits place none)

pub returns : goal.returns
returns g c =
    let visits = c.args.visits.now.items in
    let place = c.args.place in
    let old = c.in-Some.handling in
    let next = record old { visit = c.restart.new.self } in
    let says = c.restart.ensures in
    on_some visits place (IsAnew g.row.G-Error.Denot c.args.sessions.now c.args.now empty) old next c.told-event.result c.put_at.new.visits.items (sym c.take_at.ensures.found ∙ c.in-Some.is)
    (anew g.row.G-Error.Denot _ c.args.sessions.now c.args.now empty old.visit c.restart.new.self c.restart.result c.told-event.result says.restarted says.drawn says.failed says.err c.told-event.ensures.plain c.told-event.ensures.refused)
    (put_back visits place c.take_at.new.visits.items c.put_at.new.visits.items next c.take_at.ensures.taken c.put_at.ensures)
