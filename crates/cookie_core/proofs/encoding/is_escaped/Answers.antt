use Rattle.std.proofs.Common.{ℕ, Bool, get_or, arith, nat_eq, refl}
use Rattle.std.proofs.lemmas.Bool.{agree_below_at}
use Rattle.cookie_core.specs.Escapes.{is_escaped}
use Rattle.cookie_core.specs.declared.encoding.TheConstants.{ARE_ESCAPED}
use Rattle.cookie_core.proofs.encoding.is_escaped.Goals as goal

-- the table says so
abbrev is_listed : ℕ → Bool
is_listed byte = nat_eq (get_or ARE_ESCAPED byte 0) 1

pub returns : goal.returns
returns c = agree_below_at is_listed is_escaped 256 c.args.byte refl (omega arith)
