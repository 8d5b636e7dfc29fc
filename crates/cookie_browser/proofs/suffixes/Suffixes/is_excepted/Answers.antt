use Rattle.std.proofs.Common.{sym, ap, ◌∙◌}
use Rattle.std.specs.List.{list_any}
use Rattle.cookie_browser.specs.Suffixes.{is_excepted}
use Rattle.cookie_browser.specs.SuffixCode.{texts_of}
use Rattle.cookie_browser.proofs.SuffixLemmas.{any-excepted}
use Rattle.cookie_browser.proofs.suffixes.Suffixes.is_excepted.Goals as goal

pub returns : goal.returns
returns c =
    let domain = c.args.domain.now in
    c.has_domain_of.ensures
    ∙ sym (any-excepted domain (texts_of c.self.inside.plain.keys) (texts_of c.self.inside.wild.keys) (texts_of c.self.inside.except.keys))
    ∙ ap (list_any (is_excepted domain)) c.self.view_is
