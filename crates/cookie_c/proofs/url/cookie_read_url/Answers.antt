use Rattle.std.proofs.Common.{inl, rules}
use Rattle.cookie_c.proofs.url.cookie_read_url.Goals as goal

pub returns-in-Ok-of-clause-read : goal.returns-in-Ok-of-clause-read
returns-in-Ok-of-clause-read c =
    λ _. inl (c.in-Ok-of.address, (search rules), c.give.ensures)
