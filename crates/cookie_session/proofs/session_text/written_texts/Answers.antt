use Rattle.std.proofs.Common.{rules}
use Rattle.cookie_session.proofs.ReadLemmas.{remains_after}
use Rattle.cookie_session.proofs.session_text.written_texts.Goals as goal

pub loop-rest-preserved-in_ok-put : goal.loop-rest-preserved-in_ok-put
loop-rest-preserved-in_ok-put c = (
  search rules,
  λ pairs are shown.
      remains_after c.loop-rest.rest.now c.first_pair.result.0.now c.first_pair.result.1.now c.first_pair.result.2.now _ _ c.loop-rest.texts c.put.new.self pairs
      (search rules) c.first_pair.ensures.parts c.in_ok-name.ensures c.in_ok-value.ensures (search rules) (c.loop-rest.invariant.1 pairs are shown),
)

pub loop-rest-preserved : goal.loop-rest-preserved
loop-rest-preserved c = (
  search rules,
  λ pairs are shown.
      remains_after c.loop-rest.rest.now c.first_pair.result.0.now c.first_pair.result.1.now c.first_pair.result.2.now _ _ c.loop-rest.texts c.put.new.self pairs
      (search rules) c.first_pair.ensures.parts c.in_ok-name.ensures c.in_ok-value.ensures (search rules) (c.loop-rest.invariant.1 pairs are shown),
)
