-- What the two files of a set hold after a crash.
use Rattle.std.specs.Prelude.{◌≡◌, IsTrue, List}
use Rattle.sqlite.specs.Files.{file_state}
use Rattle.sqlite.specs.Held.{Held, IsConnected}
use Rattle.sqlite.specs.Order.{Row}
use Rattle.sqlite.specs.State.{HasCleanDisk}
use Rattle.sqlite.specs.Tree.{Trees}
use Rattle.sqlite_disk.specs.declared.Disk.{Ghosts}
use Rattle.sqlite_store.specs.FileStore.{recovers, state as store_state, view}
use Rattle.sqlite_store.specs.declared.store.FileStore.{FileStore}
use Rattle.sqlite_wal.specs.Recovery.{Image}
use Rattle.session_revocations.specs.Held.{IsKept}

-- A crash may leave the files so, and until then the disk returned what was written. The connection keeps what each
-- connection keeps.
pub record IsLeftBy {D : Type 0} {g : Ghosts D} (before : Held (FileStore D g)) (image : Image)
    : Type 0 where
  pub clean : HasCleanDisk (file_state before)
  pub connected : IsConnected (view before.store) (recovers before.store) before.schema
      before.saved before.in_transaction
  pub left : (store_state before.store).may_leave image

-- a crash may leave the files of an open set so
pub record IsLeftOpen {D : Type 0} {g : Ghosts D} (before : Held (FileStore D g)) (image : Image)
    : Type 0 where
  pub crashed : IsLeftBy before image
  pub is_open : IsTrue (file_state before).is_open
  pub kept : IsKept (file_state before)

-- the rows of one of the databases that a crash may leave
abbrev pub AreRowsLeft : {D : Type 0} {g : Ghosts D} → Held (FileStore D g) → List Row → Type 0
AreRowsLeft before rows =
    ∥ ((db : Trees) × (file_state before).may_leave db × (rows ≡ db 0)) ∥₁
