use Rattle.std.proofs.Common.{ap, ◌∙◌}
use Rattle.cookie_crypt.specs.BlockField.{field_product}
use Rattle.cookie_crypt.proofs.multiples.Multiples.product.Goals as goal

pub returns : goal.returns
returns c =
    c.product.ensures _ c.self.invariant.0 c.self.invariant.1 c.self.invariant.2 ∙ ap (field_product c.args.block) c.self.view_is
