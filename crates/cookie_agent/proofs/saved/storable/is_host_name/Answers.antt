use Rattle.std.proofs.Common.{◌≡◌, ◌+◌, ◌<◌, ◌==◌, ◌&&◌, true, false, not, length, get_or, drop, sym, ap, rules, ◌∙◌}
use Rattle.std.proofs.lemmas.Bool.{and_right}
use Rattle.std.proofs.lemmas.List.{drop_all}
use Rattle.std.specs.Prelude.{nat_lt}
use Rattle.cookie_agent.specs.Storable.{can_follow, is_name_rest}
use Rattle.cookie_agent.proofs.StorableLemmas.{name_step, named}
use Rattle.cookie_agent.proofs.saved.storable.is_host_name.Goals as goal

pub returns-then-not-can_follow : goal.returns-then-not-can_follow
returns-then-not-can_follow c =
    let text = c.args.text.now in
    let i = c.loop-byte.byte-index in
    let due = c.loop-byte.is_label_due in
    let below : i < length text = c.loop-byte-test.true in
    let stops : can_follow due (get_or text i 0) ≡ false = search rules in
    let rest : is_name_rest true text ≡ false
    = c.loop-byte.invariant ∙ name_step due text i 0 below ∙ ap (λ b. b && is_name_rest (get_or text i 0 == 46) (drop (i + 1) text)) stops in
    sym (and_right (nat_lt 0 (length text)) (is_name_rest true text) rest)

pub loop-byte-preserved : goal.loop-byte-preserved
loop-byte-preserved c =
    let text = c.args.text.now in
    let i = c.loop-byte.byte-index in
    let due = c.loop-byte.is_label_due in
    let below : i < length text = c.loop-byte-test.true in
    let goes_on : can_follow due (get_or text i 0) ≡ true = search rules in
    c.loop-byte.invariant ∙ name_step due text i 0 below ∙ ap (λ b. b && is_name_rest (get_or text i 0 == 46) (drop (i + 1) text)) goes_on

pub returns : goal.returns
returns c =
    let text = c.args.text.now in
    let i = c.loop-byte.byte-index in
    let whole : is_name_rest true text ≡ true
    = c.loop-byte.invariant ∙ ap (is_name_rest c.loop-byte.is_label_due) (drop_all i text c.loop-byte-test.false) in
    ap not c.is_empty.ensures ∙ named text whole
