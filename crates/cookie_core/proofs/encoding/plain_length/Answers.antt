use Rattle.std.proofs.Common.{◌≡◌, ◌+◌, nat_lt, length, true, false, sym, ap, ◌∙◌, arith}
use Rattle.std.proofs.lemmas.Bool.Decides.{nat_tests}
use Rattle.cookie_core.specs.EscapeTest.{starts_with_escape}
use Rattle.cookie_core.proofs.EscapeLemmas.{rest_slice, IsPlainTo-found, IsPlainTo-more, IsPlainTo-all, IsPlainTo-end, IsPlainTo-escape}
use Rattle.cookie_core.proofs.encoding.plain_length.Goals as goal

pub returns-then-starts_with_escape-clause-kept : goal.returns-then-starts_with_escape-clause-kept
returns-then-starts_with_escape-clause-kept c =
    (IsPlainTo-found c.args.text.now c.loop-passed.at c.in-Some.passed c.loop-passed.invariant.bound c.in-Some.ensures.0 c.loop-passed.invariant.plain).1.kept

pub returns-then-starts_with_escape-clause-escape : goal.returns-then-starts_with_escape-clause-escape
returns-then-starts_with_escape-clause-escape c =
    let (below, plain) = IsPlainTo-found c.args.text.now c.loop-passed.at c.in-Some.passed c.loop-passed.invariant.bound c.in-Some.ensures.0 c.loop-passed.invariant.plain in
    let inside : nat_lt (c.loop-passed.at + c.in-Some.passed) (length c.args.text.now) ≡ true = grind (arith, nat_tests) in
    IsPlainTo-escape c.args.text.now (c.loop-passed.at + c.in-Some.passed) (ap starts_with_escape (sym (rest_slice c.args.text.now (c.loop-passed.at + c.in-Some.passed))) ∙ sym c.starts_with_escape.ensures ∙ c.if-starts_with_escape.true) plain ∙ sym inside

pub loop-passed-preserved : goal.loop-passed-preserved
loop-passed-preserved c =
    let (below, plain) = IsPlainTo-found c.args.text.now c.loop-passed.at c.in-Some.passed c.loop-passed.invariant.bound c.in-Some.ensures.0 c.loop-passed.invariant.plain in
    record {
      bound = omega arith;
      plain = IsPlainTo-more c.args.text.now (c.loop-passed.at + c.in-Some.passed) below (ap starts_with_escape (sym (rest_slice c.args.text.now (c.loop-passed.at + c.in-Some.passed))) ∙ sym c.starts_with_escape.ensures ∙ c.if-starts_with_escape.false) plain;
    }

pub returns-clause-kept : goal.returns-clause-kept
returns-clause-kept c =
    (IsPlainTo-all c.args.text.now c.loop-passed.at c.loop-passed.invariant.bound c.in_default.ensures c.loop-passed.invariant.plain).kept

pub returns-clause-escape : goal.returns-clause-escape
returns-clause-escape c =
    let plain = IsPlainTo-all c.args.text.now c.loop-passed.at c.loop-passed.invariant.bound c.in_default.ensures c.loop-passed.invariant.plain in
    let outside : nat_lt (length c.args.text.now) (length c.args.text.now) ≡ false = grind (arith, nat_tests) in
    IsPlainTo-end c.args.text.now plain ∙ sym outside
