use Rattle.std.proofs.Common.{◌++◌, map, sym, ap, ◌∙◌}
use Rattle.std.proofs.lemmas.List.{append-nil}
use Rattle.std.specs.Prelude.{codes}
use Rattle.std.specs.String.{string_bytes}
use Rattle.cookie_client.specs.Client.{after_texts}
use Rattle.cookie_client.specs.Session.{set_cookie_lines}
use Rattle.cookie_client.proofs.SessionLemmas.{line-more}
use Rattle.cookie_client.proofs.engine.tell.Goals as goal

pub loop-text-init : goal.loop-text-init
loop-text-init c =
    let all = c.into_iter-text-iterator.ensures.into_iter_gives ∙ c.pairs-text-items.ensures.listed in
    record {
      lines = ap (λ b. b ++ set_cookie_lines (map (λ e. e.1) c.into_iter-text-iterator.result)) c.new-written.ensures.bytes
          ∙ ap (λ es. set_cookie_lines (map (λ e. e.1) es)) all;
      read = ap (λ es. after_texts c.args.now (map (λ e. e.1) es) c.args.client.now) all;
    }

pub loop-text-preserved : goal.loop-text-preserved
loop-text-preserved c =
    let s = c.in-Some.ensures.steps in
    let left = map (λ e. e.1) c.next.new.self in
    record {
      lines = ap (λ b. b ++ set_cookie_lines left) c.in_ok-push_line.ensures
          ∙ line-more (string_bytes c.loop-text.written) (codes "Set-Cookie: ") c.in-Some.text.now (codes "\n") (set_cookie_lines left)
          ∙ ap (λ es. string_bytes c.loop-text.written ++ set_cookie_lines (map (λ e. e.1) es)) (sym s)
          ∙ c.loop-text.invariant.lines;
      read = ap (after_texts c.args.now left) c.in_ok-read.ensures.gives.0
          ∙ ap (λ es. after_texts c.args.now (map (λ e. e.1) es) c.loop-text.client) (sym s)
          ∙ c.loop-text.invariant.read;
    }

pub returns-clause-lines : goal.returns-clause-lines
returns-clause-lines c =
    sym (append-nil (string_bytes c.loop-text.written))
    ∙ ap (λ es. string_bytes c.loop-text.written ++ set_cookie_lines (map (λ e. e.1) es)) (sym c.in-None.ensures.steps.0) ∙ c.loop-text.invariant.lines

pub returns-clause-client : goal.returns-clause-client
returns-clause-client c =
    ap (λ es. after_texts c.args.now (map (λ e. e.1) es) c.loop-text.client) (sym c.in-None.ensures.steps.0) ∙ c.loop-text.invariant.read
