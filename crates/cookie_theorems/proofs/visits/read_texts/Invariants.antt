use Rattle.std.proofs.Common.{◌≡◌, drop, map, string_bytes}
use Rattle.cookie_theorems.specs.Reading.{agent_after_texts}
use Rattle.cookie_theorems.proofs.visits.read_texts.Given as goal

-- what the texts that are left make of the agent is what all make of it
abbrev pub invariant-loop-text : goal.invariant-loop-text
invariant-loop-text l =
    agent_after_texts l.site l.now (map string_bytes (drop l.text-index l.texts)) l.agent ≡ agent_after_texts l.site l.now (map string_bytes l.texts) l.fn.agent
