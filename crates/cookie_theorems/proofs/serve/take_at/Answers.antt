use Rattle.std.proofs.Common.{◌∙◌, set, sym, ap, arith}
use Rattle.cookie_theorems.proofs.ActLemmas.{found_at, none_past, take_none}
use Rattle.cookie_theorems.proofs.serve.take_at.Goals as goal

pub returns-then-place-len-clause-found : goal.returns-then-place-len-clause-found
returns-then-place-len-clause-found c = sym (none_past c.args.visits.now.items c.args.place (omega (arith, c.len.ensures, c.if-place-len.true)))

pub returns-then-place-len-clause-taken : goal.returns-then-place-len-clause-taken
returns-then-place-len-clause-taken c =
    let visits = c.args.visits.now.items in
    let place = c.args.place in
    sym (take_none visits place (none_past visits place (omega (arith, c.len.ensures, c.if-place-len.true))))

pub returns-clause-found : goal.returns-clause-found
returns-clause-found c =
    c.take.ensures.value ∙ sym (found_at c.args.visits.now.items c.args.place c.index_mut.result.now c.index_mut.ensures.value (omega (arith, c.len.ensures, c.if-place-len.false)))

pub returns-clause-taken : goal.returns-clause-taken
returns-clause-taken c = ap (set c.args.visits.now.items c.args.place) c.take.ensures.after
