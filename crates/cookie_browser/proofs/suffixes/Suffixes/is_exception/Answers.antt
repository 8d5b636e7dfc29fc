use Rattle.std.proofs.Common.{sym, ap, ◌∙◌}
use Rattle.std.specs.List.{list_any}
use Rattle.cookie_browser.specs.Suffixes.{is_exception}
use Rattle.cookie_browser.specs.SuffixCode.{texts_of}
use Rattle.cookie_browser.proofs.SuffixLemmas.{any-exception}
use Rattle.cookie_browser.proofs.suffixes.Suffixes.is_exception.Goals as goal

pub returns : goal.returns
returns c =
    let domain = c.args.domain.now in
    c.has.ensures
    ∙ sym (any-exception domain (texts_of c.self.inside.plain.keys) (texts_of c.self.inside.wild.keys) (texts_of c.self.inside.except.keys))
    ∙ ap (list_any (is_exception domain)) c.self.view_is
