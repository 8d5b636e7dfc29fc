use Rattle.std.proofs.Common.{ap, ◌∙◌}
use Rattle.cookie_crypt.specs.BlockField.{times_x, times_power}
use Rattle.cookie_crypt.proofs.block_field.times_x_to_the_fourth.Goals as goal

pub returns : goal.returns
unfolding times_power
returns c =
    c.times_x-4.ensures ∙ ap times_x (c.times_x-3.ensures ∙ ap times_x (c.times_x-2.ensures ∙ ap times_x c.times_x.ensures))
