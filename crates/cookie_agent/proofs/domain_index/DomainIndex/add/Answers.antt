-- The list at the key has one more number, and the others are as they were.
use Rattle.std.proofs.Common.{◌≡◌, [], ◌∷◌, sym, subst, ◌∙◌, arith, rules}
use Rattle.std.proofs.lemmas.List.Elements.{Contains-append_left, Contains-push}
use Rattle.std.specs.List.{Contains}
use Rattle.cookie_agent.specs.IndexCode.{numbers_at}
use Rattle.cookie_agent.proofs.DomainIndexLemmas.{is_written, numbers-insert, numbers-none, numbers-same, numbers-set, numbers-some, stays}
use Rattle.cookie_agent.proofs.domain_index.DomainIndex.add.Goals as goal

pub returns-in-Some-clause-added : goal.returns-in-Some-clause-added
returns-in-Some-clause-added c =
    let m = c.args.self.now.numbers in
    let w = c.push.new.self in
    let n = c.get_mut.follows.lender w in
    let key = c.as_slice.result.now in
    let written = numbers-set m n key w c.in-Some.numbers.now c.in-Some.ensures.value (c.get_mut.follows.holds w).0 in
    subst (λ k. Contains (numbers_at (record { numbers = n }) k) c.args.number) c.as_slice.ensures.value
    (subst (λ l. Contains l c.args.number) (sym (is_written (numbers_at (record { numbers = m })) (numbers_at (record { numbers = n })) key w.items written ∙ c.in_ok-push.ensures.items))
    (Contains-push c.in-Some.numbers.now.items c.args.number))

pub returns-in-Some-clause-stay : goal.returns-in-Some-clause-stay
returns-in-Some-clause-stay c other x here =
    let m = c.args.self.now.numbers in
    let w = c.push.new.self in
    let n = c.get_mut.follows.lender w in
    let key = c.as_slice.result.now in
    let written = numbers-set m n key w c.in-Some.numbers.now c.in-Some.ensures.value (c.get_mut.follows.holds w).0 in
    stays (numbers_at (record { numbers = m })) (numbers_at (record { numbers = n })) key w.items written (λ n. Unit {0})
    (λ n live old. subst (λ l. Contains l n) (sym c.in_ok-push.ensures.items) (Contains-append_left c.in-Some.numbers.now.items (c.args.number ∷ []) n
    (subst (λ l. Contains l n) (numbers-some m key c.in-Some.numbers.now c.in-Some.ensures.value) old))) other x tt here

pub returns-in_err-push-clause-stay : goal.returns-in_err-push-clause-stay
returns-in_err-push-clause-stay c other x here =
    let m = c.args.self.now.numbers in
    let w = c.push.new.self in
    let n = c.get_mut.follows.lender w in
    let key = c.as_slice.result.now in
    let written = numbers-set m n key w c.in-Some.numbers.now c.in-Some.ensures.value (c.get_mut.follows.holds w).0 in
    stays (numbers_at (record { numbers = m })) (numbers_at (record { numbers = n })) key w.items written (λ n. Unit {0})
    (λ n live old. subst (λ l. Contains l n) (sym c.in_err-push.ensures.items)
    (subst (λ l. Contains l n) (numbers-some m key c.in-Some.numbers.now c.in-Some.ensures.value) old)) other x tt here

pub returns-in_err-insert-clause-stay : goal.returns-in_err-insert-clause-stay
returns-in_err-insert-clause-stay c other x here =
    let m = c.args.self.now.numbers in
    let same : c.get_mut.follows.lender-at-none.entries ≡ m.entries = search (rules, c.get_mut.follows.holds-at-none) in
    subst (λ l. Contains l x) (sym (numbers-same m c.insert.new.self (c.in_err-insert.ensures.err ∙ same) other)) here

pub returns-clause-added : goal.returns-clause-added
returns-clause-added c =
    let m = c.get_mut.follows.lender-at-none in
    let n = c.insert.new.self in
    let v = c.push-2.new.self in
    let written = numbers-insert m n c.args.key v c.in_ok-insert.ensures.entries in
    subst (λ l. Contains l c.args.number) (sym (is_written (numbers_at (record { numbers = m })) (numbers_at (record { numbers = n })) c.args.key.items v.items written ∙ c.in_ok-push-2.ensures.items))
    (Contains-push c.new-numbers.result.items c.args.number)

pub returns-clause-stay : goal.returns-clause-stay
returns-clause-stay c other x here =
    let before = c.args.self.now.numbers in
    let m = c.get_mut.follows.lender-at-none in
    let same : m.entries ≡ before.entries = search (rules, c.get_mut.follows.holds-at-none) in
    let n = c.insert.new.self in
    let v = c.push-2.new.self in
    let key = c.as_slice.result.now in
    let written = numbers-insert m n c.args.key v c.in_ok-insert.ensures.entries in
    let none : numbers_at (record { numbers = before }) key ≡ [] = numbers-none before key (rw c.in_default.is at c.get_mut.ensures.value) in
    let empty : numbers_at (record { numbers = m }) c.args.key.items ≡ [] = numbers-same before m same c.args.key.items ∙ subst (λ k. numbers_at (record { numbers = before }) k ≡ []) c.as_slice.ensures.value none in
    stays (numbers_at (record { numbers = m })) (numbers_at (record { numbers = n })) c.args.key.items v.items written (λ n. Unit {0})
    (λ n live old. let gone = subst (λ l. Contains l n) empty old in absurd (omega (arith, gone.1))) other x tt
    (subst (λ l. Contains l x) (sym (numbers-same before m same other)) here)
