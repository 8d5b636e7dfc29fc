use Rattle.std.proofs.Common.{◌≡◌, ◌-◌, ◌==◌, ℕ, true, not, codes, eqb, length, take, ap, sym, ◌∙◌, rules, tests}
use Rattle.std.specs.Prelude.{reverse}
use Rattle.std.specs.List.{starts_with}
use Rattle.std.proofs.lemmas.Bool.{cond-true}
use Rattle.std.proofs.lemmas.Iterator.Adapters.{YieldsList-from_rev_slice}
use Rattle.std.proofs.lemmas.Iterator.Consumers.{count_from_yields_List}
use Rattle.std.proofs.lemmas.Iterator.Search.{YieldsList-from_take_while}
use Rattle.std.proofs.lemmas.List.Folds.{length-prefix_len}
use Rattle.cookie_browser.specs.Request.{or_root}
use Rattle.cookie_browser.proofs.request.folder_of.Goals as goal

pub returns : goal.returns
returns c =
    let path = c.args.path.now in
    let last = count_from_yields_List c.take_while.result _ c.count-last.ensures.ran (YieldsList-from_take_while _ (λ (byte : ℕ). not (byte == 47)) (YieldsList-from_rev_slice path (cc)) c.take_while.ensures.closure c.take_while.ensures.done (λ x b q k. search (rules, tests))) ∙ length-prefix_len (λ (byte : ℕ). not (byte == 47)) (reverse path) in
    let begins : starts_with eqb path (codes "/") ≡ true = sym c.starts_with.ensures.value ∙ c.if-not-starts_with.false in
    c.or_root.ensures
    ∙ ap (λ n. or_root (take n path)) (c.saturating_sub.ensures ∙ ap (λ n. length path - n - 1) last)
    ∙ sym (cond-true (starts_with eqb path (codes "/")) _ _ begins)
