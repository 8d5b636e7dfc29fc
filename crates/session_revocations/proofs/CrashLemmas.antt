-- What an open finds after a crash.
use Rattle.std.proofs.Common.{◌≡◌, ap, ◌∙◌}
use Rattle.std.proofs.Math.Logic.{∥∥₁_elim, ∥∥₁_map}
use Rattle.sqlite.proofs.Theorems.{next_run}
use Rattle.sqlite.specs.Effect.{Database}
use Rattle.sqlite.specs.Files.{file_state}
use Rattle.sqlite.specs.Held.{Held}
use Rattle.sqlite.specs.Start.{FindsIn}
use Rattle.sqlite.specs.State.{Opens}
use Rattle.sqlite.specs.Tree.{Trees}
use Rattle.sqlite_disk.specs.declared.Disk.{Ghosts}
use Rattle.sqlite_store.specs.Laws.{settled_at}
use Rattle.sqlite_store.specs.FileStore.{recovers}
use Rattle.sqlite_store.specs.declared.store.FileStore.{FileStore}
use Rattle.sqlite_trees.specs.Props.{Trees-set}
use Rattle.sqlite_wal.proofs.LogLemmas.{SeenMayStay}
use Rattle.sqlite_wal.specs.Recovery.{Image}
use Rattle.session_revocations.specs.Crash.{AreRowsLeft, IsLeftBy, IsLeftOpen}
use Rattle.session_revocations.specs.Held.{rows_of}

module _ {D : Type 0} {g : Ghosts D} (before new : Held (FileStore D g)) (image : Image) (opened : Opens (file_state new)) (found : FindsIn image (file_state new)) where
  -- it is one of those that the crash may leave
  pub found_left : IsLeftBy before image → AreRowsLeft before (rows_of (file_state new))
  found_left left =
      ∥∥₁_map (next_run before.store (left.connected.numbered left.clean) (left.connected.found left.clean) image left.left (file_state new) found) (λ may.
      let r : (db : Trees) × recovers before.store db × (rows_of (file_state new) ≡ db 0) =
      ((file_state new).committed.trees, may, ap (λ (d : Database). d.trees 0) opened.clean) in r)

  -- and while it is open only its own rows may be left
  pub found_same : SeenMayStay g → IsLeftOpen before image → rows_of (file_state new) ≡ rows_of (file_state before)
  found_same stays left =
      let crashed = left.crashed in
      let trees : (file_state new).committed.trees ≡ (file_state before).committed.trees =
      ∥∥₁_elim (next_run before.store (crashed.connected.numbered crashed.clean) (crashed.connected.found crashed.clean) image crashed.left (file_state new) found) (Trees-set _ _)
      (λ may. settled_at before.store stays _ left.is_open may) in
      ap (λ (d : Database). d.trees 0) opened.clean ∙ ap (λ (t : Trees). t 0) trees ∙ ap (λ (d : Database). d.trees 0) ((left.kept crashed.clean left.is_open).settled)
