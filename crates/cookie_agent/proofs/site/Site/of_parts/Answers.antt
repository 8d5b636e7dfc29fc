-- The host was lowered, and the path begins with `/`.
use Rattle.std.proofs.Common.{codes, eqb, sym, ap, ◌∙◌}
use Rattle.std.specs.List.{starts_with}
use Rattle.std.specs.Str.{str_to_ascii_lowercase}
use Rattle.cookie_agent.proofs.SiteLemmas.{lowered_twice, request_path-begins}
use Rattle.cookie_agent.proofs.site.Site.of_parts.Goals as goal

pub invariant_of-result : goal.invariant_of-result
invariant_of-result c = (
  ap str_to_ascii_lowercase c.in_ok-to_ascii_lowercase.ensures.ok ∙ lowered_twice c.args.host.now ∙ sym c.in_ok-to_ascii_lowercase.ensures.ok,
  ap (λ p. starts_with eqb p (codes "/")) c.in_ok-request_path.ensures ∙ request_path-begins c.args.path.now,
)
