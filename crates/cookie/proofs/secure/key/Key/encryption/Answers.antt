use Rattle.std.proofs.Common.{ap, ◌∙◌, drop, arith}
use Rattle.std.proofs.lemmas.List.{take_all, length-drop}
use Rattle.cookie.specs.Keys.{encryption_half}
use Rattle.cookie.proofs.secure.key.Key.encryption.Goals as goal

pub returns : goal.returns
returns c =
    take_all 32 (drop 32 c.self.inside.bytes) (omega (arith, length-drop 32 c.self.inside.bytes, c.self.invariant.long))
    ∙ ap encryption_half c.self.view_is
