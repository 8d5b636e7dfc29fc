use Rattle.std.proofs.Common.{option_copied, sym, ap, ◌∙◌}
use Rattle.std.specs.List.{list_any}
use Rattle.cookie_browser.specs.Suffixes.{has_parent}
use Rattle.cookie_browser.specs.SuffixCode.{texts_of}
use Rattle.cookie_browser.proofs.AnyLemmas.{any-never}
use Rattle.cookie_browser.proofs.suffixes.has_parent.Goals as goal

pub returns-in-None : goal.returns-in-None
returns-in-None c =
    let texts = texts_of c.args.texts.now.keys in
    sym (ap (λ o. list_any (λ text. has_parent text o) texts) (sym c.cut.ensures.after ∙ ap option_copied c.in-None.is) ∙ any-never texts)
