use Rattle.std.proofs.Common.{◌∙◌, sym}
use Rattle.cookie_theorems.specs.Acts.{IsAnew}
use Rattle.cookie_theorems.proofs.ActLemmas.{on_none, on_some, put_back, take_none}
use Rattle.cookie_theorems.proofs.ServeLemmas.{anew}
use Rattle.cookie_theorems.proofs.serve.renew.Goals as goal

pub returns-in_default : goal.returns-in_default
returns-in_default g c =
    let visits = c.args.visits.now.items in
    let place = c.args.place in
    let none = sym c.take_at.ensures.found ∙ c.in_default.is in
    on_none visits place (λ visit. IsAnew g.row.G-Error.Denot c.args.sessions.now c.args.now visit.session.texts visit) c.take_at.new.visits.items none (c.take_at.ensures.taken ∙ take_none visits place none)

pub returns : goal.returns
returns g c =
    let visits = c.args.visits.now.items in
    let place = c.args.place in
    let old = c.in-Some.handling in
    let next = record old { visit = c.renew.new.self } in
    let says = c.renew.ensures in
    on_some visits place (λ visit. IsAnew g.row.G-Error.Denot c.args.sessions.now c.args.now visit.session.texts visit) old next c.told-event.result c.put_at.new.visits.items (sym c.take_at.ensures.found ∙ c.in-Some.is)
    (anew g.row.G-Error.Denot _ c.args.sessions.now c.args.now old.visit.session.texts old.visit c.renew.new.self c.renew.result c.told-event.result says.renewed says.drawn says.failed says.err c.told-event.ensures.plain c.told-event.ensures.refused)
    (put_back visits place c.take_at.new.visits.items c.put_at.new.visits.items next c.take_at.ensures.taken c.put_at.ensures)
