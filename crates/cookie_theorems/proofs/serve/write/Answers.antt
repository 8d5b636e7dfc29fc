use Rattle.std.proofs.Common.{◌∙◌, inl, inr, sym}
use Rattle.cookie_theorems.specs.Acts.{IsWritten}
use Rattle.cookie_theorems.proofs.ActLemmas.{on_none, on_some, put_back, take_none}
use Rattle.cookie_theorems.proofs.serve.write.Goals.{in-Ok, in-Err}
use Rattle.cookie_theorems.proofs.serve.write.Goals as goal

pub returns-in_default : goal.returns-in_default
returns-in_default c =
    let visits = c.args.visits.now.items in
    let place = c.args.place in
    let none = sym c.take_at.ensures.found ∙ c.in_default.is in
    on_none visits place (IsWritten c.args.name.now c.args.text.now) c.take_at.new.visits.items none (c.take_at.ensures.taken ∙ take_none visits place none)

pub returns : goal.returns
returns c =
    let visits = c.args.visits.now.items in
    let place = c.args.place in
    let old = c.in-Some.handling in
    let next = record old { visit = c.set.new.self } in
    on_some visits place (IsWritten c.args.name.now c.args.text.now) old next c.match-set.event c.put_at.new.visits.items (sym c.take_at.ensures.found ∙ c.in-Some.is)
    (elim c.match-set.branch [
      | in-Ok w ↦ inl (w.event-is, w.in-Ok.ensures.ok)
      | in-Err w ↦ inr (w.event-is, w.in-Err.ensures.err)
    ])
    (put_back visits place c.take_at.new.visits.items c.put_at.new.visits.items next c.take_at.ensures.taken c.put_at.ensures)
