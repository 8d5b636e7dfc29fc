use Rattle.std.proofs.Common.{ap, ◌∙◌}
use Rattle.cookie_crypt.specs.Code.{columns}
use Rattle.cookie_crypt.proofs.multiples.Multiples.new.Goals as goal

pub invariant_of-result : goal.invariant_of-result
invariant_of-result c = (c.ranges.block.fits, c.columns.ensures, c.columns-2.ensures ∙ ap columns c.times_x_to_the_fourth.ensures)
