use Rattle.std.proofs.Common.{ℕ, Bool, get_or, arith, nat_eq, refl}
use Rattle.std.proofs.lemmas.Bool.{agree_below_at}
use Rattle.cookie_session.specs.Form.{is_mark}
use Rattle.cookie_session.specs.declared.pair_text.TheConstants.{MARKS}
use Rattle.cookie_session.proofs.pair_text.is_mark.Goals as goal

-- the table says so
abbrev is_listed : ℕ → Bool
is_listed byte = nat_eq (get_or MARKS byte 0) 1

pub returns : goal.returns
returns c = agree_below_at is_listed is_mark 256 c.args.byte refl (omega arith)
