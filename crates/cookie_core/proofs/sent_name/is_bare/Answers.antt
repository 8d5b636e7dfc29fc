use Rattle.std.proofs.Common.{Some, ap, subst, sym, ◌∙◌, lit<}
use Rattle.std.proofs.lemmas.Str.Pattern.{strip_prefix_char}
use Rattle.std.specs.List.{list_all}
use Rattle.cookie_core.specs.BareNames.{IsSettledName, is_bare_byte}
use Rattle.cookie_core.proofs.BareLemmas.{bare_settled, bare_settled-space}
use Rattle.cookie_core.proofs.sent_name.is_bare.Goals as goal

pub returns-in-Some : goal.returns-in-Some
returns-in-Some c bare =
    let whole = strip_prefix_char 32 c.args.name.now (Some c.in-Some.name) c.in-Some.ensures.cases (lit< tt) in
    subst IsSettledName (sym whole)
    (bare_settled-space c.in-Some.name.now (ap (list_all is_bare_byte) (sym c.as_bytes.ensures.value) ∙ sym c.are_bare.ensures ∙ bare))

pub returns-in-None : goal.returns-in-None
returns-in-None c bare =
    bare_settled c.args.name.now (ap (list_all is_bare_byte) (sym c.as_bytes-in-None.ensures.value) ∙ sym c.are_bare-in-None.ensures ∙ bare)
