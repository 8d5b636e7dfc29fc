use Rattle.std.proofs.Common.{All, length}
use Rattle.cookie.specs.AttributeValues.{FitsField}
use Rattle.cookie_http.specs.Response.{LacksRoom}
use Rattle.cookie_http.proofs.ResponseLemmas.{IsWritten}
use Rattle.cookie_http.proofs.response.append_delta.Given as goal

-- the cookies that are left can stand in fields, for which there is room, and those before them have theirs
abbrev pub invariant-loop-cookie : goal.invariant-loop-cookie
invariant-loop-cookie l = record {
  fit : All FitsField l.cookie-iterator;
  room : ¬ (LacksRoom (length l.cookie-iterator) l.made);
  written : IsWritten l.jar.delta l.headers l.made l.cookie-iterator;
}
