-- Mirrors private code: what a deletion by rowids needs of the rows.
use Rattle.std.specs.Prelude.{◌≡◌, ℤ, List, [], ◌∷◌, Option, None, Some, IsTrue, int_lt, ⊤}
use Rattle.sqlite.specs.Order.{Row, column}
use Rattle.sqlite.specs.Tree.{rowid}
use Rattle.sqlite.specs.declared.types.Value.TheVariants.{Int}
use Rattle.sqlite_rules.specs.Lists.{Has}

-- each row has an integer rowid and an integer second, and rows of one rowid have one second
pub record HasRowids (rows : List Row) : Type 0 where
  pub numbers : (r : Row) → Has rows r
      → (n : ℤ) × (until : ℤ) × (rowid r ≡ Int n) × (column r 2 ≡ Int until)
  pub alike : (r s : Row) → Has rows r → Has rows s → rowid r ≡ rowid s → column r 2 ≡ column s 2

-- the number comes after the one before it, if there is one
abbrev pub IsAfter : Option ℤ → ℤ → Type 0
IsAfter None n = ⊤
IsAfter (Some last) n = IsTrue (int_lt last n)

-- each row begins with two integers, of which the first one rises
abbrev pub AreRising : Option ℤ → List Row → Type 0
AreRising last [] = ⊤
AreRising last (r ∷ rows) = (n : ℤ) × (until : ℤ) × (column r 0 ≡ Int n) × (column r 1 ≡ Int until)
    × IsAfter last n × AreRising (Some n) rows
