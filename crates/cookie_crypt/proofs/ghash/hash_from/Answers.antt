use Rattle.std.proofs.Common.{◌≡◌, ℕ, List, length, map, refl, ap, sym, ◌∙◌, arith, rules, bit_xor}
use Rattle.std.specs.List.{range_with_len}
use Rattle.std.proofs.lemmas.List.FromFn.{map-range_with_len_more}
use Rattle.cookie_crypt.specs.BlockField.{field_product}
use Rattle.cookie_crypt.specs.Ghash.{ghash_from}
use Rattle.cookie_crypt.specs.Gcm.{block_at, blocks}
use Rattle.cookie_crypt.specs.Steps.{block_count}
use Rattle.cookie_crypt.proofs.HornerLemmas.{ghash_from-push}
use Rattle.cookie_crypt.proofs.ghash.hash_from.Goals as goal

pub loop-i-init : goal.loop-i-init
unfolding ghash_from
loop-i-init c = record { counted = search rules; sum_is = refl }

pub loop-i-preserved : goal.loop-i-preserved
loop-i-preserved c =
    let i : ℕ = c.loop-i.i in
    let h : ℕ = c.args.multiples.now in
    let before = c.loop-i.invariant in
    let taken : List ℕ = map (block_at c.args.bytes.now) (range_with_len 0 i) in
    record {
      counted = search (rules, c.product-sum.ensures.counted, before.counted);
      sum_is =
          c.product-sum.ensures.made
          ∙ ap (λ x. field_product (bit_xor c.loop-i.sum x) h) c.block_at.ensures
          ∙ ap (λ x. field_product (bit_xor x (block_at c.args.bytes.now i)) h) before.sum_is
          ∙ sym (ghash_from-push h c.args.hash (block_at c.args.bytes.now i) taken)
          ∙ ap (ghash_from h c.args.hash) (sym (map-range_with_len_more (block_at c.args.bytes.now) 0 i i (omega arith)));
    }

pub returns-clause-made : goal.returns-clause-made
unfolding blocks
returns-clause-made c =
    let h : ℕ = c.args.multiples.now in
    let all : c.loop-i.i ≡ block_count (length c.args.bytes.now) = omega arith in
    c.loop-i.invariant.sum_is ∙ ap (λ n. ghash_from h c.args.hash (map (block_at c.args.bytes.now) (range_with_len 0 n))) all
