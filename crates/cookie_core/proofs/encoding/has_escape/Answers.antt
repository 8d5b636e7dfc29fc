use Rattle.std.proofs.Common.{◌≡◌, nat_eq, false, sym, subst}
use Rattle.std.specs.List.{list_any}
use Rattle.cookie_core.proofs.EscapeLemmas.{no_percent_no_escape}
use Rattle.cookie_core.proofs.encoding.has_escape.Goals as goal

pub returns-then-not-contains : goal.returns-then-not-contains
returns-then-not-contains c =
    sym (no_percent_no_escape c.args.text.now (subst (λ t. list_any (λ b. nat_eq b 37) t ≡ false) c.as_bytes-bytes.ensures.value (sym c.if-not-contains.ensures.value)))
