use Rattle.std.proofs.Common.{alloc_error, subst, sym}
use Rattle.cookie_agent.specs.Sent.{IsOrderedHeader}
use Rattle.cookie_theorems.proofs.OwnLemmas.{request_opened, request_own, request_saved, request_set}
use Rattle.cookie_theorems.proofs.open_for_agent.open_for_agent.Goals as goal

pub returns-clause-opened : goal.returns-clause-opened
returns-clause-opened c =
    let sent = subst (IsOrderedHeader c.args.site.now c.args.now c.args.agent.now.cookies) (sym c.deref.ensures.value) c.in_ok-header.ensures.value in
    request_opened c.args.sessions.now c.args.agent.now c.args.site.now c.args.now alloc_error _ sent c.open_field.result c.open_field.ensures.answers

pub returns-clause-own_set : goal.returns-clause-own_set
returns-clause-own_set c =
    let sent = subst (IsOrderedHeader c.args.site.now c.args.now c.args.agent.now.cookies) (sym c.deref.ensures.value) c.in_ok-header.ensures.value in
    request_set c.args.sessions.now c.args.agent.now c.args.site.now c.args.now alloc_error _ sent c.open_field.result c.open_field.ensures.answers

pub returns-clause-own : goal.returns-clause-own
returns-clause-own c =
    let sent = subst (IsOrderedHeader c.args.site.now c.args.now c.args.agent.now.cookies) (sym c.deref.ensures.value) c.in_ok-header.ensures.value in
    request_own c.args.sessions.now c.args.agent.now c.args.site.now c.args.now alloc_error _ sent c.open_field.result c.open_field.ensures.answers

pub returns-clause-saved : goal.returns-clause-saved
returns-clause-saved c =
    let sent = subst (IsOrderedHeader c.args.site.now c.args.now c.args.agent.now.cookies) (sym c.deref.ensures.value) c.in_ok-header.ensures.value in
    request_saved c.args.sessions.now c.args.agent.now c.args.site.now c.args.now alloc_error _ sent c.open_field.result c.open_field.ensures.answers c.open_field.ensures.once
