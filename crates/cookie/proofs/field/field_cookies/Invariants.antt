use Rattle.std.proofs.Common.{◌≡◌, ◌++◌, map, length}
use Rattle.std.specs.List.{flat_map}
use Rattle.cookie_core.specs.Pieces.{pieces}
use Rattle.cookie.specs.FieldPieces.{cookies_of_piece}
use Rattle.cookie.specs.Originals.{field_cookies}
use Rattle.cookie.proofs.field.field_cookies.Given as goal

-- the cookies so far, with those of the pieces that are left, are the whole
abbrev pub invariant-loop-end : goal.invariant-loop-end
invariant-loop-end l =
    map (λ c. c.fields) l.cookies.items ++ flat_map cookies_of_piece (pieces l.rest) ≡ field_cookies l.fn.field

abbrev pub decreases-loop-end : goal.decreases-loop-end
decreases-loop-end l = length l.rest
