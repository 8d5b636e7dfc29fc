use Rattle.std.proofs.Common.{◌≡◌, ◌-◌, false, nat_eq, refl, sym, ◌∙◌}
use Rattle.std.specs.List.{list_any}
use Rattle.cookie_core.proofs.EscapeLemmas.{no_percent_no_escape_within}
use Rattle.cookie_core.proofs.cookie.parse.escaped_pair.Goals as goal

pub returns-then-not-has_percent-clause-escape : goal.returns-then-not-has_percent-clause-escape
returns-then-not-has_percent-clause-escape c =
    let text = c.args.text.now in
    let none : list_any (λ b. nat_eq b 37) text ≡ false = sym c.has_percent.ensures ∙ c.if-not-has_percent.true in
    rw (no_percent_no_escape_within text c.args.name.start (c.args.name.end - c.args.name.start) none, no_percent_no_escape_within text c.args.value.start (c.args.value.end - c.args.value.start) none) refl
