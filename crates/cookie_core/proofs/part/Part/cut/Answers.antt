use Rattle.std.proofs.Common.{◌≡◌, ◌+◌, length, slice_index, sym, subst, arith}
use Rattle.std.proofs.lemmas.Bool.{eq-eqb, eqb-true}
use Rattle.std.proofs.lemmas.Str.{IsCharBoundary-after_ascii, IsCharBoundary-end}
use Rattle.cookie_core.specs.Pieces.{Lacks}
use Rattle.cookie_core.specs.Spans.{StandsIn}
use Rattle.cookie_core.proofs.SpanLemmas.{Lacks-before, span}
use Rattle.cookie_core.proofs.part.Part.cut.Goals as goal

pub inner-requires-2 : goal.inner-requires-2
inner-requires-2 c =
    let text = c.text-text.result.now in
    let at = c.in-Some.at in
    let found = rw c.as_bytes.ensures.value at c.in-Some.ensures in
    let mark : slice_index text at ≡ c.args.mark = eqb-true (slice_index text at) c.args.mark found.1 in
    subst (λ t. StandsIn t (span (at + 1) (length text))) c.text-text.ensures (
      omega (arith, found.0.high),
      IsCharBoundary-after_ascii text at c.text-text.utf8 found.0.high (omega (arith, mark, c.requires)),
      IsCharBoundary-end text,
    )

pub returns-clause-before : goal.returns-clause-before
returns-clause-before c =
    let text = c.text-text.result.now in
    let at = c.in-Some.at in
    let found = rw c.as_bytes.ensures.value at c.in-Some.ensures in
    let before = Lacks-before c.args.mark text at (λ i lt e. found.0.before i (omega arith) lt (eq-eqb (slice_index text i) c.args.mark e)) in
    subst (Lacks c.args.mark) (sym c.inner.ensures.text) (rw (← c.text-text.ensures) before)
