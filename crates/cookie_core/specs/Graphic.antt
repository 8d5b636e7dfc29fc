-- Mirrors private code: texts that begin and end with graphic ASCII.
use Rattle.std.specs.Prelude.{◌≡◌, ℕ, ◌-◌, ◌<◌, ◌&&◌, nat_lt, Bool, true, List, length, slice_index}

-- graphic ASCII
abbrev pub is_graphic : ℕ → Bool
is_graphic byte = nat_lt 32 byte && nat_lt byte 127

-- the text begins and ends with it
pub record HasGraphicEnds (text : List ℕ) : Type 0 where
  pub some : 0 < length text
  pub first : is_graphic (slice_index text 0) ≡ true
  pub last : is_graphic (slice_index text (length text - 1)) ≡ true
