use Rattle.std.proofs.Common.{◌≡◌, None, IsUtf8, option_map, pos, rules, ap, sym, ◌∙◌}
use Rattle.cookie_browser.proofs.AgeLemmas.{seconds_of_digits-text}
use Rattle.cookie_agent.proofs.saved.cookies_txt.seconds_of.Goals as goal

pub returns-in_err-ok : goal.returns-in_err-ok
returns-in_err-ok c =
    let ds = c.args.digits.now in
    let other : ¬ (IsUtf8 ds) = search rules in
    let left : c.from_residual.result ≡ None = search rules in
    left ∙ sym (ap (option_map pos) (seconds_of_digits-text ds other))
