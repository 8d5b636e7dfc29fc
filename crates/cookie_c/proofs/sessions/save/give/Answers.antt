use Rattle.std.proofs.Common.{inl, refl, subst, sym, true, false, ◌∙◌}
use Rattle.std.proofs.lemmas.Option.{none-some}
use Rattle.cookie.specs.Text.{cookie_text}
use Rattle.cookie_session.specs.Visit.{VisitState}
use Rattle.cookie_c.specs.SavedSessions.{GivesSavedInMemory}
use Rattle.cookie_c.proofs.SaveLemmas.{gives_done, gives_replaced, gives_undone}
use Rattle.cookie_c.proofs.sessions.save.give.Goals as goal

pub returns-in_default : goal.returns-in_default
returns-in_default c =
    inl (gives_replaced (cookie_text true false c.args.cookie.now.fields) c.refusal.result c.args.visit.now c.args.visit.now c.args.out.now c.args.out.now
    c.in_default.field-0 ((c.in_default.ensures c.in_default.field-0).0 refl) (record { told = c.refusal.ensures; kept = refl }) refl)

pub returns-then-answer-code : goal.returns-then-answer-code
returns-then-answer-code c =
    let text = cookie_text true false c.args.cookie.now.fields in
    let had = c.args.visit.now in
    subst (λ (made : VisitState). GivesSavedInMemory text c.give_text-answer.result had made c.args.out.now c.give_text-answer.new.out) (sym c.set_saved.ensures)
    (gives_done text c.give_text-answer.result had c.args.out.now c.give_text-answer.new.out (λ pass is. none-some pass ((c.in-None.ensures pass).1 is))
    c.give_text-answer.ensures (c.if-answer-code.true ∙ c.code.ensures))

pub returns-else-answer-code : goal.returns-else-answer-code
returns-else-answer-code c =
    gives_undone (cookie_text true false c.args.cookie.now.fields) c.give_text-answer.result c.args.visit.now c.args.out.now c.give_text-answer.new.out
    (λ pass is. none-some pass ((c.in-None.ensures pass).1 is)) c.give_text-answer.ensures (λ done. c.if-answer-code.false (done ∙ sym c.code.ensures))
