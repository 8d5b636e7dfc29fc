use Rattle.session_revocations.proofs.MemoryLemmas.{on_revoked}
use Rattle.session_revocations.proofs.memory_revocations.MemoryRevocationsRevocations.revoke.Goals as goal

pub returns-clause-revoked : goal.returns-clause-revoked
returns-clause-revoked c kept can = on_revoked c.args.self.now c.revoke.new.self c.args.id.now c.args.until c.revoke.result c.revoke.ensures.ok
