-- What a connection to the table shows between two calls.
use Rattle.std.specs.Prelude.{◌≡◌, ℕ, zero, suc, ◌+◌, pos, Bool, false, List, IsTrue}
use Rattle.sqlite.specs.Order.{Row}
use Rattle.sqlite.specs.State.{State, HasCleanDisk}
use Rattle.session_revocations.specs.Revoked.{IsExtended, IsPruned, is_among, is_among_until}
use Rattle.session_revocations.specs.Table.{no_schema, revoked_schema}

-- the rows of the table
abbrev pub rows_of : State → List Row
rows_of s = s.now.trees 0

-- the id is revoked
abbrev pub is_revoked_in : State → List ℕ → Bool
is_revoked_in s id = is_among (rows_of s) id

-- the table is there, and all that was written is committed
pub record Keeps (s : State) : Type 0 where
  pub schema : s.now.schema ≡ revoked_schema
  pub settled : s.committed ≡ s.now
  pub autocommit : s.in_transaction ≡ false

-- so it is while the connection is open and the disk has returned what was written
abbrev pub IsKept : State → Type 0
IsKept s = HasCleanDisk s → IsTrue s.is_open → Keeps s

-- all that was written is committed
pub record Starts (s : State) : Type 0 where
  pub settled : s.committed ≡ s.now
  pub autocommit : s.in_transaction ≡ false

-- while the connection is open and the disk has returned what was written, the database is committed and has no tables
abbrev pub IsBlank : State → Type 0
IsBlank s = HasCleanDisk s → IsTrue s.is_open → Starts s × (s.now.schema ≡ no_schema)

-- Each row is as it was, unless the connection is shut or the disk has returned something else.
abbrev pub IsStill : State → State → Type 0
IsStill old new = HasCleanDisk new → IsTrue new.is_open → rows_of new ≡ rows_of old

-- The id is revoked until this second, or until a later one if it was before, and every other id is as before.
abbrev pub Revokes : List ℕ → ℕ → List Row → List Row → Type 0
Revokes id until old new = IsExtended old id (pos until) new

-- Exactly the ids stay whose second comes after now, each until the same second.
abbrev pub Forgets : ℕ → List Row → List Row → Type 0
Forgets now old new = IsPruned old (pos (now + 1)) new

-- The connection was open, if it is open and the disk has returned what was written.
abbrev pub WasOpen : State → State → Type 0
WasOpen old new = HasCleanDisk new → IsTrue new.is_open → IsTrue old.is_open

-- the id is revoked until this second or a later one; until 0 or a later one, if it is revoked at all
abbrev pub lasts_until : List Row → List ℕ → ℕ → Type 0
lasts_until rows id zero = IsTrue (is_among rows id)
lasts_until rows id (suc second) = IsTrue (is_among_until rows id (pos (suc second)))
