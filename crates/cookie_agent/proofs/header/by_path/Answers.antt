-- The closure answers the length of the path, turned round.
use Rattle.std.proofs.Common.{rules, arith}
use Rattle.std.proofs.lemmas.List.Sorted.{answers_always}
use denote.Ref.{Bor}
use Rattle.cookie_agent.specs.Sent.{path_length}
use Rattle.cookie_browser.specs.Storage.{KeptView}
use Rattle.cookie_agent.proofs.OrderLemmas.{by_path}
use Rattle.cookie_agent.proofs.header.by_path.Goals as goal

pub returns : goal.returns
returns c =
    let s = c.in_ok-sort_by_key.ensures in
    by_path _ _ (omega (arith, s.len, c.sort_by_key.new.self.ok.0, c.args.sent.ok.0)) s.permutation
    (s.sorted (λ (b : Bor KeptView). record { 0 = path_length b.now }) (answers_always _ _ _ (λ f a r g h. search rules)))
    (s.stable (λ (b : Bor KeptView). record { 0 = path_length b.now }) (answers_always _ _ _ (λ f a r g h. search rules)))
