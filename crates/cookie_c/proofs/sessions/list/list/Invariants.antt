use Rattle.std.proofs.Common.{◌≡◌, fold}
use Rattle.cookie_c.specs.TextLists.{list_of_texts, with_listed}
use Rattle.cookie_c.proofs.sessions.list.list.Given as goal

-- the list so far, with the pairs that are left, is the whole
abbrev pub invariant-loop-name : goal.invariant-loop-name
invariant-loop-name l = fold with_listed l.list.items l.name-iterator ≡ list_of_texts l.visit.session.texts
