use Rattle.std.proofs.Common.{Ok, inl}
use Rattle.cookie_c.proofs.agent.walk.tell_cookie.Goals as goal

pub returns-in-Ok : goal.returns-in-Ok
returns-in-Ok c = inl (c.give.ensures c.args.now (Ok c.args.cookie.now) c.in-Ok.ensures)
