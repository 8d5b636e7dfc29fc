use Rattle.std.proofs.Common.{◌≡◌, ◌++◌, All, map}
use Rattle.std.specs.FinMap.{entries}
use Rattle.std.specs.String.{string_bytes}
use Rattle.cookie.specs.Header.{more_joined}
use Rattle.cookie_client.specs.Client.{header_text, pair_text}
use Rattle.cookie_client.proofs.HeaderLemmas.{IsKnown}
use Rattle.cookie_client.proofs.client.Client.header.Given as goal

-- what is written, with what the rest adds, is the whole, and the pairs that were written are cookies'
abbrev pub invariant-loop-name : goal.invariant-loop-name
invariant-loop-name l = record {
  text : string_bytes l.header ++ more_joined (map pair_text l.name-iterator) ≡ header_text l.self;
  known : All IsKnown l.name-iterator → All IsKnown (entries l.self);
}
