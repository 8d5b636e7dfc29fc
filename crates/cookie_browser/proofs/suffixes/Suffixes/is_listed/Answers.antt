use Rattle.std.proofs.Common.{◌||◌, sym, ap, ◌∙◌}
use Rattle.std.specs.List.{list_any}
use Rattle.cookie_browser.specs.Suffixes.{is_covered}
use Rattle.cookie_browser.specs.SuffixCode.{texts_of}
use Rattle.cookie_browser.proofs.SuffixLemmas.{covered-or, none-invalid}
use Rattle.cookie_browser.proofs.suffixes.Suffixes.is_listed.Goals as goal

pub returns-else-is_one_label : goal.returns-else-is_one_label
returns-else-is_one_label c =
    let domain = c.args.domain.now in
    let sets = c.self.inside in
    c.has_parent.ensures
    ∙ covered-or domain (texts_of sets.plain.keys) (texts_of sets.wild.keys) (texts_of sets.except.keys) (none-invalid domain sets.plain.keys c.in-Err.ensures.cases.0)
    ∙ ap (list_any (is_covered domain)) c.self.view_is
    ∙ ap (λ b. b || list_any (is_covered domain) c.args.self.now) (sym (sym c.is_one_label.ensures ∙ c.if-is_one_label.false))
