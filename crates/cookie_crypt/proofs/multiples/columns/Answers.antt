use Rattle.std.proofs.Common.{[], map, slice_index, get_or, ap, arith}
use Rattle.std.specs.List.{range_with_len}
use Rattle.cookie_crypt.specs.Code.{rows, column, columns}
use Rattle.cookie_crypt.proofs.Made.{are_made_more, are_made_all}
use Rattle.cookie_crypt.proofs.multiples.columns.Goals as goal

pub loop-b-preserved : goal.loop-b-preserved
unfolding rows
loop-b-preserved c =
    are_made_more (column c.args.h) 16 c.loop-b.b c.loop-b.columns _
    (ap (λ table. map (λ j. slice_index (get_or table j []) c.loop-b.b) (range_with_len 0 16)) c.rows-rows.ensures)
    (omega arith) c.loop-b.invariant

pub returns : goal.returns
unfolding columns
returns c = are_made_all (column c.args.h) 16 c.loop-b.b c.loop-b.columns (omega arith) c.loop-b.invariant
