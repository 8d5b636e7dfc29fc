use Rattle.std.proofs.Common.{drop, sym, ◌∙◌, arith}
use Rattle.std.proofs.lemmas.List.{length-drop, length-take-le, take_all}
use Rattle.cookie.proofs.secure.key.Key.of.Goals as goal

pub slice_bounds-half_of-end : goal.slice_bounds-half_of-end
slice_bounds-half_of-end c = sym (length-take-le 32 c.args.bytes.now (omega (arith, c.told-bytes)))

pub half_of-requires : goal.half_of-requires
half_of-requires c = length-take-le 32 c.args.bytes.now (omega (arith, c.told-bytes))

pub invariant_of-result : goal.invariant_of-result
invariant_of-result c =
    let half = c.half_of-2.ensures
    ∙ take_all 32 (drop 32 c.args.bytes.now) (omega (arith, length-drop 32 c.args.bytes.now, c.told-bytes)) in
    record {
      signs = c.of.ensures ∙ c.half_of.ensures;
      encrypts = c.of-2.ensures ∙ half;
      long = c.told-bytes;
    }
