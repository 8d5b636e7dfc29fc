use Rattle.std.proofs.Common.{lit<, ◌≡◌, ◌<◌, length, arith, slice_index, true}
use Rattle.std.proofs.lemmas.Bool.Decides.{nat_tests}
use Rattle.std.proofs.lemmas.Str.{IsCharBoundary-after_ascii}
use Rattle.cookie_core.proofs.quotes.trim_quotes.Goals as goal

pub range-requires-clause-start_boundary : goal.range-requires-clause-start_boundary
range-requires-clause-start_boundary c some =
    let v = c.args.value.now in
    let long : 1 < length v = grind (arith, nat_tests, c.if-value-ge2.true) in
    let first : slice_index v 0 ≡ 34 = grind (arith, nat_tests, c.starts_with.ensures.byte (lit< tt), c.if-starts_with.true) in
    IsCharBoundary-after_ascii v 0 c.utf8.value (omega arith) (omega arith)
