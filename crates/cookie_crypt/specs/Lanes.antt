-- Mirrors private code: look-ups in tables of sixteen bytes.
use Rattle.std.specs.Prelude.{◌≡◌, ℕ, ◌/◌, List, Bool, ◌||◌, nat_lt, nat_le, slice_index, if◌then◌else◌, IsTrue, length, map, bit_and, bit_xor}
use Rattle.std.specs.Simd.Lanes.{Each1}
use Rattle.cookie_crypt.specs.Bytes.{IsBytes}

-- what a look-up gives at a place: 0 from 128 on
abbrev pub entry : List ℕ → ℕ → ℕ
entry table place = if nat_le 128 place then 0 else slice_index table place

-- a place in a table, or one from 128 on
abbrev pub is_place : ℕ → Bool
is_place place = nat_le 128 place || nat_lt place 16

abbrev pub ArePlaces : List ℕ → Type 0
ArePlaces places = Each1 (λ place. IsTrue (is_place place)) places

-- sixteen bytes
abbrev pub IsLanes : List ℕ → Type 0
IsLanes bytes = (length bytes ≡ 16) × IsBytes bytes

-- the sum of what the halves of each byte look up
unfoldable pub looked_up : List ℕ → List ℕ → List ℕ → List ℕ
looked_up upper lower bytes =
    map (λ byte. bit_xor (entry upper (byte / 16)) (entry lower (bit_and byte 15))) bytes
