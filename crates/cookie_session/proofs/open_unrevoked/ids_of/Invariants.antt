use Rattle.std.proofs.Common.{◌≡◌, map, take}
use Rattle.cookie_session.proofs.open_unrevoked.ids_of.Given as goal

-- these are the ids of the sessions so far
abbrev pub invariant-loop-one : goal.invariant-loop-one
invariant-loop-one l = l.ids.items ≡ map (λ o. o.session.id) (take l.one-index l.opened)
