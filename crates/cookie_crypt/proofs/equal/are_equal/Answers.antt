use Rattle.std.proofs.Common.{ℕ, slice_index, ap, sym, ◌∙◌, arith, below_more, bit_xor, eq-eqb, eqb-true, rules}
use Rattle.std.specs.Int.Bits.{bit_or, xor_self}
use Rattle.std.proofs.lemmas.Grind.{same_number_lists}
use Rattle.cookie_crypt.proofs.EqualLemmas.{neither, no_difference}
use Rattle.cookie_crypt.proofs.equal.are_equal.Goals as goal

pub loop-i-preserved : goal.loop-i-preserved
loop-i-preserved c =
    let a : ℕ = slice_index c.args.first.now c.loop-i.i in
    let b : ℕ = slice_index c.args.second.now c.loop-i.i in
    let known = c.loop-i.invariant in
    record {
      same = λ e. ap (λ x. bit_or x (bit_xor a b)) (known.same e) ∙ ap (λ xs. bit_or 0 (bit_xor a (slice_index xs c.loop-i.i))) (sym e) ∙ ap (bit_or 0) (xor_self a);
      each = λ zero. let both = neither c.loop-i.differences (bit_xor a b) zero in below_more _ _ (known.each both.0) (no_difference a b both.1);
    }

pub returns : goal.returns
returns c =
    let known = c.loop-i.invariant in (
      λ true. same_number_lists c.args.first.now c.args.second.now (search rules) (λ k h. known.each (eqb-true c.loop-i.differences 0 true) k (omega arith)),
      λ e. eq-eqb c.loop-i.differences 0 (known.same e),
    )
