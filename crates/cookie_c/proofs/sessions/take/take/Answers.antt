use Rattle.std.proofs.Common.{◌≡◌, None, Some, ap, inl, refl, rules, sym, ◌∙◌}
use Rattle.cookie_c.specs.Handles.{opened_in}
use Rattle.cookie_c.specs.OpenedSessions.{opened_of, session_of}
use Rattle.cookie_c.specs.declared.handle.content.Content.{Content}
use Rattle.cookie_c.proofs.sessions.take.take.Goals as goal

pub returns-in-Some-take_first : goal.returns-in-Some-take_first
returns-in-Some-take_first c =
    let (all, of_content, taken) = c.in-Some-take_first.ensures.some in
    let had : opened_of c.args.opened.now ≡ Some all =
    ap opened_in (sym c.in-Some.ensures.taken) ∙ ap (λ (seen : Content). opened_in (Some seen)) (sym c.as_mut.ensures.value) ∙ of_content in
    let left : opened_of (record { handle = c.take.new.self }) ≡ None = search rules in
    let puts : session_of (record { handle = c.put.new.self }) ≡ Some c.in-Some-take_first.taken = search rules in
    inl (all, c.in-Some-take_first.taken, had, taken, refl, left, puts)
