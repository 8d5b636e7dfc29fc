use Rattle.std.proofs.Common.{◌≡◌, ◌||◌, option_copied, sym, ap, ◌∙◌}
use Rattle.std.specs.Char.{is_ascii_whitespace}
use Rattle.std.specs.List.{before_first, cons_option, list_any}
use Rattle.cookie_browser.specs.Bytes.{cut}
use Rattle.cookie_browser.specs.SuffixList.{rule_of, rule_of_line}
use Rattle.cookie_browser.proofs.CutLemmas.{rest-shorter}
use Rattle.cookie_browser.proofs.SuffixLemmas.{rules_after, rules-cut, moved}
use Rattle.cookie_browser.proofs.suffixes.Suffixes.new.Goals as goal

pub loop-rest-smaller : goal.loop-rest-smaller
loop-rest-smaller c = rest-shorter 10 c.in-Some.text.now _ _ (ap option_copied c.in-Some.is) c.cut.ensures.after

pub loop-rest-preserved : goal.loop-rest-preserved
loop-rest-preserved c test =
    let t = c.in-Some.text.now in
    let old = c.loop-rest.suffixes in
    let written : rule_of c.first_word.result.now ≡ rule_of_line (cut 10 t).0 =
    ap rule_of (c.first_word.ensures ∙ ap (before_first is_ascii_whitespace) c.cut.ensures.before) in
    ap (λ o. list_any test c.add_rule.new.self || list_any test (rules_after o)) c.cut.ensures.after
    ∙ moved test (rule_of_line (cut 10 t).0) old c.add_rule.new.self (rules_after (cut 10 t).1)
    (λ p. c.in_ok-add_rule.ensures p ∙ ap (λ o. list_any p (cons_option o old)) written)
    ∙ ap (λ rules. list_any test old || list_any test rules) (sym (rules-cut t))
    ∙ ap (λ o. list_any test old || list_any test (rules_after (option_copied o))) (sym c.in-Some.is)
    ∙ c.loop-rest.invariant test
