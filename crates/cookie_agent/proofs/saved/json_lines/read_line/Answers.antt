use Rattle.std.proofs.Common.{◌≡◌, ◌==◌, length, false, sym, ◌∙◌, rules}
use Rattle.std.proofs.lemmas.Result.{IfOk-weaker}
use Rattle.serde_json.specs.Errors.{IsMemory}
use Rattle.serde_json.specs.View.{view}
use Rattle.cookie_agent.proofs.JsonLinesLemmas.{broken_line, whole_line}
use Rattle.cookie_agent.proofs.saved.json_lines.read_line.Goals as goal

pub returns-in-Ok : goal.returns-in-Ok
returns-in-Ok c =
    let text = c.args.line.now in
    let filled : (length text == 0) ≡ false = sym c.is_empty.ensures ∙ c.if-is_empty.false in
    let read = c.in-Ok.ensures.ok in
    IfOk-weaker c.cookie_in.result _ _ (λ line h. h ∙ sym (whole_line c.args.now text (view c.in-Ok.value) filled read.0 read.1)) c.cookie_in.ensures

pub returns-else-is_memory : goal.returns-else-is_memory
returns-else-is_memory c =
    let text = c.args.line.now in
    let filled : (length text == 0) ≡ false = sym c.is_empty.ensures ∙ c.if-is_empty.false in
    let other : ¬ (IsMemory c.in-Err.error) = search rules in
    sym (broken_line c.args.now text filled (c.in-Err.ensures.err other))
