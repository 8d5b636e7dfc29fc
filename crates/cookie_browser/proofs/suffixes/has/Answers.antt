use Rattle.std.proofs.Common.{bytes_eq, sym, ap, ◌∙◌}
use Rattle.std.specs.List.{list_any}
use Rattle.std.specs.String.{string_bytes}
use Rattle.cookie_browser.specs.SuffixCode.{texts_of}
use Rattle.cookie_browser.proofs.AnyLemmas.{any-map}
use Rattle.cookie_browser.proofs.SuffixLemmas.{none-invalid}
use Rattle.cookie_browser.proofs.suffixes.has.Goals as goal

pub returns-in-Ok : goal.returns-in-Ok
returns-in-Ok c =
    c.contains.ensures
    ∙ sym (any-map (bytes_eq c.in-Ok.text.now) string_bytes c.args.texts.now.keys)
    ∙ ap (λ t. list_any (bytes_eq t) (texts_of c.args.texts.now.keys)) c.in-Ok.ensures.cases.0

pub returns-in-Err : goal.returns-in-Err
returns-in-Err c = sym (none-invalid c.args.text.now c.args.texts.now.keys c.in-Err.ensures.cases.0)
