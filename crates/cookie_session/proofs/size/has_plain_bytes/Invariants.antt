use Rattle.std.proofs.Common.{◌≡◌, length, take, true}
use Rattle.cookie.specs.Escapes.{escape}
use Rattle.cookie_session.proofs.size.has_plain_bytes.Given as goal

-- if the bytes so far are plain, they have no escapes
abbrev pub invariant-loop-byte : goal.invariant-loop-byte
invariant-loop-byte l = l.are_plain ≡ true → length (escape (take l.byte-index l.text)) ≡ l.byte-index
