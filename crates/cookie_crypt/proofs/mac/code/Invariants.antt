use Rattle.std.proofs.Common.{◌++◌, ℕ, List, map, take}
use Rattle.std.specs.List.{concat}
use Rattle.sha2.specs.Hashers.{Holds256}
use Rattle.cookie_crypt.specs.Hmac.{masked}
use Rattle.cookie_crypt.proofs.mac.code.Given as goal

-- the inner hasher holds the masked key and the pieces so far
abbrev pub invariant-loop-piece : goal.invariant-loop-piece
invariant-loop-piece l = (key : List ℕ) → Holds256 l.fn.inner (masked key 0x36)
    → Holds256 l.inner (masked key 0x36 ++ concat (map (λ piece. piece.now) (take l.piece-index l.pieces)))
