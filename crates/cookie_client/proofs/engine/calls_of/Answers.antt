use Rattle.std.proofs.Common.{◌≡◌, ◌+◌, ◌++◌, List, [], ◌∷◌, length, map, Some, option_map, sym, ap, ◌∙◌, arith}
use Rattle.std.proofs.lemmas.List.{map-append}
use Rattle.std.specs.Result.{result_map_both}
use Rattle.cookie.specs.Jar.{Change}
use Rattle.cookie_client.specs.Calls.{change_of}
use Rattle.cookie_client.specs.Session.{call_of, changes_in}
use Rattle.cookie_client.proofs.SessionLemmas.{changes_in-next, more_changes, no_changes, not_empty}
use Rattle.cookie_client.proofs.engine.calls_of.Goals as goal

pub loop-line-init : goal.loop-line-init
loop-line-init c = record {
  asked = ap (λ front. result_map_both (λ changes. map change_of front ++ changes) (λ fault. fault) (changes_in c.args.now 2 c.args.lines)) c.new-calls.ensures.items
      ∙ no_changes (changes_in c.args.now 2 c.args.lines);
  room = omega (arith, c.requires);
}

pub loop-line-preserved : goal.loop-line-preserved
loop-line-preserved c =
    let s = c.in-Some.ensures.steps in
    let now = c.args.now in
    let number = c.loop-line.number + 1 in
    let line = c.in-Some.line.now in
    let left = c.next.new.self in
    let front : List Change = map change_of c.loop-line.calls.items in
    let call = c.in-Some-2.call in
    let asks : call_of now line ≡ Some (change_of call) = sym c.in_ok-call.ensures ∙ ap (option_map change_of) c.in-Some-2.is in
    record {
      asked = ap (λ items. result_map_both (λ changes. map change_of items ++ changes) (λ fault. fault) (changes_in now (number + 1) left)) c.in_ok-push-in-Some-2.ensures.items
          ∙ ap (λ f. result_map_both (λ changes. f ++ changes) (λ fault. fault) (changes_in now (number + 1) left)) (map-append change_of c.loop-line.calls.items (call ∷ []))
          ∙ more_changes front (change_of call) (changes_in now (number + 1) left)
          ∙ ap (result_map_both (λ changes. front ++ changes) (λ fault. fault)) (sym (changes_in-next now number line left (change_of call) (not_empty line c.is_empty.result c.is_empty.ensures c.if-is_empty.false) asks))
          ∙ ap (λ lines. result_map_both (λ changes. front ++ changes) (λ fault. fault) (changes_in now number lines)) (sym s)
          ∙ c.loop-line.invariant.asked;
      room = omega (arith, ap length s, c.loop-line.invariant.room);
    }
