-- What the map has under the key, or nothing.
use Rattle.std.proofs.Common.{[], option_map, unwrap_or, ap, ◌∙◌}
use Rattle.cookie_agent.specs.IndexCode.{numbers_at}
use Rattle.cookie_agent.proofs.domain_index.DomainIndex.at.Goals as goal

pub returns-in-Some : goal.returns-in-Some
unfolding numbers_at
returns-in-Some c = c.as_slice.ensures.value ∙ ap (λ o. unwrap_or (option_map (λ v. v.items) o) []) c.in-Some.ensures.value

pub returns-in-None : goal.returns-in-None
unfolding numbers_at
returns-in-None c = ap (λ o. unwrap_or (option_map (λ v. v.items) o) []) c.in-None.ensures.value
