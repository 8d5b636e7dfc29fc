-- Which ids the rows of the table revoke, and until when.
use Rattle.std.specs.Prelude.{◌≡◌, ℕ, ℤ, Bool, false, ◌&&◌, ◌||◌, List, [], ◌∷◌, bytes_eq, int_le}
use Rattle.std.specs.List.{list_any}
use Rattle.sqlite.specs.Collation.TheVariants.{Binary}
use Rattle.sqlite.specs.Edit.{is_taken}
use Rattle.sqlite.specs.Ops.{binary, is_true}
use Rattle.sqlite.specs.Order.{Row, column}
use Rattle.sqlite.specs.Tree.{put_row}
use Rattle.sqlite.specs.declared.types.Value.{Value}
use Rattle.sqlite.specs.declared.types.Value.TheVariants.{Null, Int, Real, Text, Blob}
use Rattle.sqlite_sql.specs.declared.ops.BinaryOp.TheVariants.{Compare}
use Rattle.sqlite_sql.specs.declared.ops.CompareOp.TheVariants.{Ge}

-- the value is this blob
abbrev pub is_blob : List ℕ → Value → Bool
is_blob id (Blob bytes) = bytes_eq bytes id
is_blob id Null = false
is_blob id (Int n) = false
is_blob id (Real x) = false
is_blob id (Text text) = false

-- the value is this second or a later one, as SQL's >=; the column has integers only
abbrev pub is_since : ℤ → Value → Bool
is_since second value = is_true (binary (Compare Ge Binary) value (Int second))

-- a row of the table: its rowid, the id, and the second until which the id is revoked
abbrev pub entry : ℤ → List ℕ → ℤ → Row
entry n id until = Int n ∷ Blob id ∷ Int until ∷ []

-- the row revokes this id
abbrev pub has_id : List ℕ → Row → Bool
has_id id row = is_blob id (column row 1)

-- the row revokes this id, until this second or a later one
abbrev pub lasts : List ℕ → ℤ → Row → Bool
lasts id second row = has_id id row && is_since second (column row 2)

-- these rows revoke the id
abbrev pub is_among : List Row → List ℕ → Bool
is_among rows id = list_any (has_id id) rows

-- these rows revoke the id until this second or a later one
abbrev pub is_among_until : List Row → List ℕ → ℤ → Bool
is_among_until rows id second = list_any (lasts id second) rows

-- the rows, with one more for this id and second
abbrev pub IsAdded : List Row → List ℕ → ℤ → List Row → Type 0
IsAdded rows id until after =
    (n : ℤ) × (is_taken rows (entry n id until) ≡ false) × (after ≡ put_row (entry n id until) rows)

-- the id is revoked until this second if it wasn't until a later one, and nothing else changes
pub record IsExtended (rows : List Row) (id : List ℕ) (until : ℤ) (after : List Row) : Type 0 where
  pub ids : (x : List ℕ) → is_among after x ≡ (bytes_eq id x || is_among rows x)
  pub untils : (x : List ℕ) (second : ℤ)
      → is_among_until after x second
      ≡ ((bytes_eq id x && int_le second until) || is_among_until rows x second)

-- Exactly what lasts until this second or a later one stays, and lasts as long as before.
pub record IsPruned (rows : List Row) (from : ℤ) (after : List Row) : Type 0 where
  pub ids : (x : List ℕ) → is_among after x ≡ is_among_until rows x from
  pub untils : (x : List ℕ) (second : ℤ)
      → is_among_until after x second ≡ (is_among_until rows x from && is_among_until rows x second)
