-- What stays in the list are the numbers of full slots, and the other lists are as they were.
use Rattle.std.proofs.Common.{◌≡◌, ℕ, Bool, true, filter, is_some, rules, sym, subst}
use Rattle.std.proofs.lemmas.Fn.{filter_same}
use Rattle.std.specs.List.{Contains}
use Rattle.cookie_agent.specs.IndexCode.{numbers_at}
use Rattle.cookie_agent.specs.RowsCode.{slot_at}
use Rattle.cookie_agent.proofs.DomainIndexLemmas.{Contains-passing, numbers-set, numbers-some, stays}
use Rattle.cookie_agent.proofs.domain_index.DomainIndex.prune.Goals as goal

pub returns-in-Some : goal.returns-in-Some
returns-in-Some c other x full here =
    let m = c.args.self.now.numbers in
    let w = c.retain.new.self in
    let n = c.get_mut.follows.lender w in
    let key = c.args.key.now in
    let old = c.in-Some.numbers.now in
    let test : ℕ → Bool = λ n. is_some (slot_at c.args.slots.now n) in
    let left : w.items ≡ filter test old.items = filter_same _ test _ (λ x b f h. search rules) _ _ c.retain.ensures.filtered in
    let written = numbers-set m n key w old c.in-Some.ensures.value (c.get_mut.follows.holds w).0 in
    stays (numbers_at (record { numbers = m })) (numbers_at (record { numbers = n })) key w.items written (λ n. test n ≡ true)
    (λ n full had. subst (λ l. Contains l n) (sym left) (Contains-passing test old.items n full (subst (λ l. Contains l n) (numbers-some m key old c.in-Some.ensures.value) had))) other x full here
