use Rattle.std.proofs.Common.{◌∷◌, []}
use Rattle.std.proofs.lemmas.Simd.{pick_l_left}
use Rattle.cookie_crypt.specs.Aes.{shift_rows}
use Rattle.cookie_crypt.proofs.aes.shift_rows.Goals as goal

pub returns : goal.returns
unfolding shift_rows
returns c = pick_l_left 0 c.args.state c.args.state 16 (0 ∷ 5 ∷ 10 ∷ 15 ∷ 4 ∷ 9 ∷ 14 ∷ 3 ∷ 8 ∷ 13 ∷ 2 ∷ 7 ∷ 12 ∷ 1 ∷ 6 ∷ 11 ∷ []) c.fits-state.0 tt
