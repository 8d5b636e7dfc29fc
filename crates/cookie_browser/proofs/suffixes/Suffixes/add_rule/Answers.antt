use Rattle.std.proofs.Common.{sym, ap, ◌∙◌}
use Rattle.std.specs.List.{cons_option, list_any}
use Rattle.std.proofs.lemmas.List.{take_rest}
use Rattle.std.proofs.lemmas.Result.{on_ok_weaker}
use Rattle.cookie_browser.specs.SuffixList.{canonical}
use Rattle.cookie_browser.specs.SuffixCode.{texts_of}
use Rattle.cookie_browser.proofs.SuffixLemmas.{no-rule, wild-added, except-added, plain-added}
use Rattle.cookie_browser.proofs.suffixes.Suffixes.add_rule.Goals as goal

pub returns-then-is_no_rule : goal.returns-then-is_no_rule
returns-then-is_no_rule c test =
    ap (λ o. list_any test (cons_option o c.args.self.now)) (sym (no-rule c.args.rule.now (sym c.is_no_rule.ensures ∙ c.if-is_no_rule.true)))

pub returns-then-starts_with : goal.returns-then-starts_with
returns-then-starts_with c =
    let wild = texts_of c.self.inside.wild.keys in
    on_ok_weaker c.add.result
    (λ same. wild-added c.args.rule.now c.args.self.now (texts_of c.self.inside.plain.keys) wild (texts_of c.self.inside.except.keys) (texts_of c.add.new.texts.keys)
    (sym c.is_no_rule.ensures ∙ c.if-is_no_rule.false) (sym c.starts_with.ensures.value ∙ c.if-starts_with.true) c.self.view_is
    (λ test. same test ∙ ap (λ l. list_any test (cons_option (canonical l) wild)) (take_rest c.args.rule.now 2)))
    c.add.ensures

pub returns-then-starts_with-2 : goal.returns-then-starts_with-2
returns-then-starts_with-2 c =
    let except = texts_of c.self.inside.except.keys in
    on_ok_weaker c.add-then-starts_with-2.result
    (λ same. except-added c.args.rule.now c.args.self.now (texts_of c.self.inside.plain.keys) (texts_of c.self.inside.wild.keys) except (texts_of c.add-then-starts_with-2.new.texts.keys)
    (sym c.is_no_rule.ensures ∙ c.if-is_no_rule.false) (sym c.starts_with.ensures.value ∙ c.if-starts_with.false) (sym c.starts_with-2.ensures.value ∙ c.if-starts_with-2.true) c.self.view_is
    (λ test. same test ∙ ap (λ l. list_any test (cons_option (canonical l) except)) (take_rest c.args.rule.now 1)))
    c.add-then-starts_with-2.ensures

pub returns : goal.returns
returns c =
    on_ok_weaker c.add-2.result
    (plain-added c.args.rule.now c.args.self.now (texts_of c.self.inside.plain.keys) (texts_of c.self.inside.wild.keys) (texts_of c.self.inside.except.keys) (texts_of c.add-2.new.texts.keys)
    (sym c.is_no_rule.ensures ∙ c.if-is_no_rule.false) (sym c.starts_with.ensures.value ∙ c.if-starts_with.false) (sym c.starts_with-2.ensures.value ∙ c.if-starts_with-2.false) c.self.view_is)
    c.add-2.ensures
