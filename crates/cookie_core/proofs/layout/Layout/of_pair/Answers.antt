use Rattle.std.proofs.Common.{IfOk, false, refl, sym, ap, subst, ◌∙◌}
use Rattle.std.proofs.lemmas.List.{append-nil}
use Rattle.cookie_core.specs.Layout.{laid_out, IsLayoutIn}
use Rattle.cookie_core.specs.Pieces.{Lacks, offset_of}
use Rattle.cookie_core.specs.Reads.{Reads}
use Rattle.cookie_core.proofs.OffsetLemmas.{offset_of-none}
use Rattle.cookie_core.proofs.layout.Layout.of_pair.Goals as goal

pub of_pieces-requires-clause-apart : goal.of_pieces-requires-clause-apart
of_pieces-requires-clause-apart c = subst (Lacks 59) (sym c.all.ensures.text) c.requires

pub of_pieces-requires-clause-end : goal.of_pieces-requires-clause-end
of_pieces-requires-clause-end c =
    c.all.ensures.span.1 ∙ sym (offset_of-none 59 c.args.text.now c.requires) ∙ ap (offset_of 59) (sym c.all.ensures.place)

pub returns-clause-reads : goal.returns-clause-reads
returns-clause-reads c =
    subst (λ t. Reads false c.args.text.now (laid_out t c.of_pieces.result)) c.all.ensures.place (c.of_pieces.ensures.reads c.args.text.now (sym c.all.ensures.text ∙ sym (append-nil _)))

pub returns-clause-place : goal.returns-clause-place
returns-clause-place c =
    subst (λ t. IfOk c.of_pieces.result (IsLayoutIn t)) c.all.ensures.place c.of_pieces.ensures.place

pub returns-clause-unset : goal.returns-clause-unset
returns-clause-unset c = c.of_pieces.ensures.unset refl
