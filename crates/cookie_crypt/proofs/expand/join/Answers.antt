use Rattle.std.proofs.Common.{◌≡◌, ℕ, ◌++◌, List, slice_index, length, sym, refl, ◌∙◌, arith}
use Rattle.std.proofs.lemmas.List.{length-append}
use Rattle.std.proofs.lemmas.List.FromFn.{fill_by_all}
use Rattle.cookie_crypt.proofs.Made.{made_all}
use Rattle.cookie_crypt.proofs.expand.join.Goals as goal

pub returns : goal.returns
returns c =
    let both : List ℕ = c.args.first.now ++ c.args.second.now in
    let long : length both ≡ 64 = omega (arith, length-append c.args.first.now c.args.second.now, c.told-first, c.told-second) in
    made_all _ 64 c.loop-i.i c.loop-i.bytes (omega arith) c.loop-i.invariant
    ∙ sym (fill_by_all (λ k. slice_index both k) both 64 0 long (λ k h. refl))
