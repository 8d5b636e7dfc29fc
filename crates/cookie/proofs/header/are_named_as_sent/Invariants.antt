use Rattle.std.proofs.Common.{◌≡◌, length}
use Rattle.std.specs.List.{list_all}
use Rattle.cookie_core.specs.Pieces.{pieces}
use Rattle.cookie_core.specs.SentNames.{is_named_as_sent}
use Rattle.cookie.proofs.header.are_named_as_sent.Given as goal
use denote.Shadow.{shadow}
use denote.Text.{Utf8}

-- the pieces that are left decide
abbrev pub invariant-loop-end : goal.invariant-loop-end
invariant-loop-end l = record {
  decide : list_all is_named_as_sent (pieces l.rest) ≡ list_all is_named_as_sent (pieces l.header);
  text : shadow (Utf8 l.rest);
}

abbrev pub decreases-loop-end : goal.decreases-loop-end
decreases-loop-end l = length l.rest
