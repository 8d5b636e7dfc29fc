use Rattle.std.proofs.Common.{◌≡◌, ◌∙◌, None, Some, sym, arith}
use Rattle.cookie_theorems.proofs.serve.save_visit.Goals as goal

pub replace-requires : goal.replace-requires
replace-requires g c = (c.replaced.ensures c.in-Some.from).0 c.in-Some.is

pub save_own-requires : goal.save_own-requires
save_own-requires g c pass replaces = let none : None ≡ Some pass = sym c.in-None.is ∙ (c.replaced.ensures pass).1 replaces in grind (arith, none)
