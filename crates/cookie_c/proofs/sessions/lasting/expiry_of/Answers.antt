use Rattle.std.proofs.Common.{◌+◌, min, ap, refl, subst, ◌∙◌}
use Rattle.cookie_c.specs.Sites.{IsAtSecond, last_second}
use Rattle.cookie_c.proofs.sessions.lasting.expiry_of.Goals as goal

pub returns : goal.returns
returns c =
    let end = c.end_of.ensures ∙ ap (λ age. min (c.args.now + age) last_second) c.age_of.ensures in
    (c.in-Some.moment, subst (λ second. IsAtSecond second c.in-Some.moment) end c.in-Some.ensures.1, refl)
