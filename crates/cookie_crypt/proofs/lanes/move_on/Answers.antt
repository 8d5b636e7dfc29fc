use Rattle.std.proofs.Common.{◌<◌, length, slice_index, ap, sym, subst, ◌∙◌}
use Rattle.cookie_crypt.proofs.LaneLemmas.{lanes_are_bytes}
use Rattle.cookie_crypt.proofs.ColumnLemmas.{shuffled, length-moved, bytes_moved}
use Rattle.cookie_crypt.proofs.lanes.move_on.Goals as goal

pub returns-clause-value : goal.returns-clause-value
returns-clause-value c = shuffled c.args.before c.args.bytes c.fits-before.0 c.fits-bytes.0

pub returns-clause-lanes : goal.returns-clause-lanes
returns-clause-lanes c =
    let before = c.args.before in
    let bytes = c.args.bytes in
    let is = shuffled before bytes c.fits-before.0 c.fits-bytes.0 in (
      ap length is ∙ length-moved before bytes c.fits-bytes.0,
      λ i. subst (λ l. slice_index l i < 256) (sym is) (bytes_moved (slice_index before 15) bytes (lanes_are_bytes before c.fits-before.1 15) (lanes_are_bytes bytes c.fits-bytes.1) c.fits-bytes.0 i),
    )
