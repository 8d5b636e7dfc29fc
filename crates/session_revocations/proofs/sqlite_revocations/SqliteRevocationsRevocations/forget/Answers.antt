use Rattle.sqlite.specs.Held.{state}
use Rattle.session_revocations.specs.Held.{rows_of}
use Rattle.session_revocations.proofs.SetLemmas.{on_forgotten}
use Rattle.session_revocations.proofs.sqlite_revocations.SqliteRevocationsRevocations.forget.Goals as goal

pub returns-clause-forgotten : goal.returns-clause-forgotten
returns-clause-forgotten g c kept =
    on_forgotten c.args.now (rows_of (state g.S.Store c.args.self.now)) (rows_of (state g.S.Store c.forget.new.self)) c.forget.result kept.1 (c.forget.ensures.forgotten kept.0)
