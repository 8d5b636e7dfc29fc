-- The message that the next page shows.
use Rattle.std.specs.Prelude.{ℕ, List, codes}

-- the name of its text
abbrev pub flash_name : List ℕ
flash_name = codes "flash"
