use Rattle.std.proofs.Common.{◌≡◌, ◌++◌, map}
use Rattle.std.specs.FinMap.{entries}
use Rattle.std.specs.String.{string_bytes}
use Rattle.cookie_client.specs.Client.{after_texts}
use Rattle.cookie_client.specs.Session.{set_cookie_lines}
use Rattle.cookie_client.proofs.engine.tell.Given as goal

-- what is written, with the texts that are left, is the whole, and so is what the client has read
abbrev pub invariant-loop-text : goal.invariant-loop-text
invariant-loop-text l = record {
  lines : string_bytes l.written ++ set_cookie_lines (map (λ e. e.1) l.text-iterator) ≡ set_cookie_lines (map (λ e. e.1) (entries l.texts));
  read : after_texts l.now (map (λ e. e.1) l.text-iterator) l.client ≡ after_texts l.now (map (λ e. e.1) (entries l.texts)) l.fn.client;
}
