use Rattle.std.proofs.Common.{sym, ap, ◌∙◌}
use Rattle.std.specs.Hash.FoldHasher as folding
use Rattle.std.specs.List.{fold}
use Rattle.std.specs.RandomState.{initial_hasher}
use Rattle.cookie.specs.NameHash.{first_state, state_after, hash_of}
use Rattle.cookie.proofs.NameHashLemmas.{state_after-Fixed, state_after-Keyed}
use Rattle.cookie.proofs.name_hash.NameHashBuildHasher.hash_one.Goals as goal

pub returns-in-Fixed : goal.returns-in-Fixed
returns-in-Fixed g c =
    let input = g.T.Hash.hash_input c.args.x in
    c.finish.ensures ∙ ap folding.finish (c.hash.ensures ∙ ap (λ s. fold folding.write s input) c.default-state.ensures)
    ∙ sym (ap (λ h. hash_of (fold state_after (first_state h) input)) c.in-Fixed.is ∙ ap hash_of (state_after-Fixed input folding.initial))

pub returns-in-Keyed : goal.returns-in-Keyed
returns-in-Keyed g c =
    let input = g.T.Hash.hash_input c.args.x in
    c.hash_one.ensures
    ∙ sym (ap (λ h. hash_of (fold state_after (first_state h) input)) c.in-Keyed.is ∙ ap hash_of (state_after-Keyed input (initial_hasher c.in-Keyed.keys)))
