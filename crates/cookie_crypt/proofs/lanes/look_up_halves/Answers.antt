use Rattle.cookie_crypt.specs.Lanes.{entry}
use Rattle.cookie_crypt.proofs.lanes.look_up_halves.Goals as goal

pub returns : goal.returns
returns c f g v p q =
    c.sum.ensures (λ b. entry c.args.firsts (f b)) (λ b. entry c.args.seconds (g b)) v (c.look_up.ensures f v p) (c.look_up-2.ensures g v q)
