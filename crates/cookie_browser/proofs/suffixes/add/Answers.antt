use Rattle.std.proofs.Common.{option_map, sym, ap, ◌∙◌}
use Rattle.std.specs.List.{cons_option, list_any}
use Rattle.std.specs.String.{string_bytes}
use Rattle.cookie_browser.specs.SuffixCode.{texts_of}
use Rattle.cookie_browser.proofs.SuffixLemmas.{put-same}
use Rattle.cookie_browser.proofs.suffixes.add.Goals as goal

pub returns-in_ok-insert : goal.returns-in_ok-insert
returns-in_ok-insert c test =
    let olds = c.args.texts.now.keys in
    put-same c.in-Some.text olds c.insert.new.self.keys c.in_ok-insert.field-0 c.in_ok-insert.ensures.added c.in_ok-insert.ensures.keys test
    ∙ ap (λ o. list_any test (cons_option o (texts_of olds))) (sym (ap (option_map string_bytes) c.in-Some.is) ∙ c.in_ok-text.ensures)
