use Rattle.std.proofs.Common.{◌≡◌, ◌%◌, ◌/◌, ap, ◌∙◌, arith, true, false, ◌==◌}
use Rattle.std.proofs.lemmas.Bool.Decides.{nat_tests}
use Rattle.cookie_crypt.specs.Aes.{added_word, word_sum, round_constant}
use Rattle.cookie_crypt.proofs.aes.added_word.Goals as goal

pub returns-then-i-eq0 : goal.returns-then-i-eq0
unfolding added_word
returns-then-i-eq0 c =
    let test : (c.args.i % 8 == 0) ≡ true = grind (arith, nat_tests) in
    rw test (c.word_sum.ensures ∙ ap (λ x. word_sum x (round_constant (c.args.i / 8))) c.sub_word.ensures)

pub returns-then-i-eq4 : goal.returns-then-i-eq4
unfolding added_word
returns-then-i-eq4 c =
    let test : (c.args.i % 8 == 0) ≡ false = grind (arith, nat_tests) in
    let test4 : (c.args.i % 8 == 4) ≡ true = grind (arith, nat_tests) in
    rw (test, test4) c.sub_word-then-i-eq4.ensures

pub returns-else-i-eq4 : goal.returns-else-i-eq4
unfolding added_word
returns-else-i-eq4 c =
    let test : (c.args.i % 8 == 0) ≡ false = grind (arith, nat_tests) in
    let test4 : (c.args.i % 8 == 4) ≡ false = grind (arith, nat_tests) in
    rw (test, test4)
