use Rattle.std.proofs.Common.{◌≡◌, ◌≤◌, ◌*◌, length, take}
use Rattle.cookie.specs.Escapes.{escape}
use Rattle.cookie_session.proofs.size.printed_length.Given as goal

-- the bytes so far are counted, three for each at most
abbrev pub invariant-loop-byte : goal.invariant-loop-byte
invariant-loop-byte l = record {
  counted : l.count ≡ length (escape (take l.byte-index l.text));
  low : l.count ≤ 3 * l.byte-index;
}
