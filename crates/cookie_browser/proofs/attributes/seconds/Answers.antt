use Rattle.std.proofs.Common.{◌≡◌, min, None, IsUtf8, option_map, rules, ap, sym, ◌∙◌}
use Rattle.cookie_browser.specs.Received.{age_limit}
use Rattle.cookie_browser.proofs.AgeLemmas.{seconds_of_digits-text}
use Rattle.cookie_browser.proofs.attributes.seconds.Goals as goal

pub returns-in_err-digits : goal.returns-in_err-digits
returns-in_err-digits c =
    let ds = c.args.digits.now in
    let other : ¬ (IsUtf8 ds) = search rules in
    let left : c.from_residual.result ≡ None = search rules in
    left ∙ sym (ap (option_map (λ n. min n age_limit)) (seconds_of_digits-text ds other))
