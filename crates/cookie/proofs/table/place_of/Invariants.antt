use Rattle.std.proofs.Common.{◌≡◌, drop, position}
use Rattle.std.specs.List.{position_from}
use Rattle.std.specs.Map.{keys_of}
use Rattle.std.specs.Str.{bytes_eq}
use Rattle.cookie.specs.Table.{key_name}
use Rattle.cookie.proofs.table.place_of.Given as goal

-- the place is the first among what is left
abbrev pub invariant-loop-i : goal.invariant-loop-i
invariant-loop-i g l =
    position_from (λ key. bytes_eq l.name (key_name key)) l.i (keys_of (drop l.i l.pairs)) ≡ position (λ key. bytes_eq l.name (key_name key)) (keys_of l.pairs)
