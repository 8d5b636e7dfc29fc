use Rattle.std.proofs.Common.{Some, None, sym, ap, ◌∙◌, lit<}
use Rattle.std.proofs.lemmas.Str.Pattern.{strip_suffix_char}
use Rattle.cookie_client.specs.Lines.{without_return}
use Rattle.cookie_client.proofs.LineLemmas.{without_return-one, without_return-none}
use Rattle.cookie_client.proofs.lines.without_return.Goals as goal

pub returns-in-Some : goal.returns-in-Some
returns-in-Some c =
    let is = strip_suffix_char 13 c.args.line.now (Some c.in-Some.line) c.in-Some.ensures.cases (lit< tt) in
    sym (without_return-one c.in-Some.line.now) ∙ ap without_return (sym is)

pub returns-in-None : goal.returns-in-None
returns-in-None c =
    sym (without_return-none c.args.line.now (strip_suffix_char 13 c.args.line.now None c.in-None.ensures.cases (lit< tt)))
