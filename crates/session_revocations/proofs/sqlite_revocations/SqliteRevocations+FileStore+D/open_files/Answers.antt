use Rattle.std.proofs.Common.{◌≡◌, sym, subst}
use Rattle.std.proofs.lemmas.Result.{IfOk-weaker}
use Rattle.sqlite.specs.Files.{Finds, file_state, image_of}
use Rattle.sqlite.specs.Held.{Held}
use Rattle.sqlite.specs.State.{HasCleanDisk, Opens}
use Rattle.sqlite_store.specs.declared.store.FileStore.{FileStore}
use Rattle.session_revocations.specs.Crash.{AreRowsLeft, IsLeftBy, IsLeftOpen}
use Rattle.session_revocations.specs.Held.{rows_of}
use Rattle.session_revocations.proofs.CrashLemmas.{found_left, found_same}
use Rattle.session_revocations.proofs.sqlite_revocations.SqliteRevocations+FileStore+D.open_files.Goals as goal

pub returns-in-Ok-clause-found : goal.returns-in-Ok-clause-found
returns-in-Ok-clause-found g c =
    let files = c.args.files in
    IfOk-weaker c.adopt.result (λ r. r ≡ c.in-Ok.conn) _ (λ r same.
    subst (λ h. HasCleanDisk (file_state h) → Finds files h × Opens (file_state h)) (sym same) (λ clean.
    (c.in-Ok.ensures.found clean, (c.in-Ok.ensures.opened clean).0)))
    c.adopt.ensures

pub returns-in-Ok-clause-after_crash : goal.returns-in-Ok-clause-after_crash
returns-in-Ok-clause-after_crash g c =
    let image = image_of g.D.Disk c.args.files in
    IfOk-weaker c.adopt.result (λ r. r ≡ c.in-Ok.conn) _ (λ r same.
    subst (λ h. HasCleanDisk (file_state h) → (before : Held (FileStore g.row.D.Denot g.D.Disk)) → IsLeftOpen before image → rows_of (file_state h) ≡ rows_of (file_state before)) (sym same)
    (λ clean before left.
    let found = c.in-Ok.ensures.found clean in
    found_same before c.in-Ok.conn image (c.in-Ok.ensures.opened clean).0 (record { holds = found.holds; reads = found.reads }) g.met.D.Disk.seen_may_stay left))
    c.adopt.ensures

pub returns-in-Ok-clause-within : goal.returns-in-Ok-clause-within
returns-in-Ok-clause-within g c =
    let image = image_of g.D.Disk c.args.files in
    IfOk-weaker c.adopt.result (λ r. r ≡ c.in-Ok.conn) _ (λ r same.
    subst (λ h. HasCleanDisk (file_state h) → (before : Held (FileStore g.row.D.Denot g.D.Disk)) → IsLeftBy before image → AreRowsLeft before (rows_of (file_state h))) (sym same)
    (λ clean before left.
    let found = c.in-Ok.ensures.found clean in
    found_left before c.in-Ok.conn image (c.in-Ok.ensures.opened clean).0 (record { holds = found.holds; reads = found.reads }) left))
    c.adopt.ensures
