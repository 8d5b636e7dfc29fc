use Rattle.std.proofs.Common.{◌≡◌, ◌∷◌, [], string_bytes, ap, append_assoc, ◌∙◌}
use Rattle.serde_json.specs.View.{view}
use Rattle.serde_json.specs.Written.{compact_text, has_float}
use Rattle.cookie_browser.specs.RefusedCode.{kept_view}
use Rattle.cookie_agent.specs.JsonLines.{cookie_data}
use Rattle.cookie_agent.specs.JsonLinesCode.{timed}
use Rattle.cookie_agent.proofs.JsonLinesLemmas.{cookie_data-no_float}
use Rattle.cookie_agent.proofs.saved.json_lines.push_line.Goals as goal

pub returns : goal.returns
returns c =
    let cookie = timed c.args.times (kept_view c.args.cookie.now) in
    let is : view c.in_ok-object.field-0 ≡ cookie_data cookie c.args.times.expiry = c.in_ok-object.ensures in
    let text : string_bytes c.in_ok-line.line ≡ compact_text (view c.in_ok-object.field-0) =
    c.in_ok-line.ensures.text (ap has_float is ∙ cookie_data-no_float cookie c.args.times.expiry) in
    rw (c.in_ok-extend_from_slice-2.ensures.items, c.in_ok-extend_from_slice.ensures.items, c.as_bytes.ensures.value, text, is)
    (append_assoc c.args.text.now.items (compact_text (cookie_data cookie c.args.times.expiry)) (10 ∷ []))
