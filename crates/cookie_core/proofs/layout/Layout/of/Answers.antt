use Rattle.std.proofs.Common.{◌≡◌, IfOk, false, sym, ap, subst, ◌∙◌}
use Rattle.cookie_core.specs.Layout.{laid_out, IsLayoutIn}
use Rattle.cookie_core.specs.Parts.{IsOptionalPartOf}
use Rattle.cookie_core.specs.Pieces.{offset_of}
use Rattle.cookie_core.specs.Reads.{Reads}
use Rattle.cookie_core.proofs.CookieOfLemmas.{cookie_of-result}
use Rattle.cookie_core.proofs.ReadingLemmas.{behind-cut}
use Rattle.cookie_core.proofs.OffsetLemmas.{first_span}
use Rattle.cookie_core.proofs.layout.Layout.of.Goals as goal
use Rattle.cookie_core.proofs.layout.Layout.of.Goals.{After-cut}

pub of_pieces-requires-clause-place : goal.of_pieces-requires-clause-place
of_pieces-requires-clause-place c =
    subst (λ t. IsOptionalPartOf t c.cut.result.1) (sym c.cut.ensures.place) c.cut.ensures.after_place

first : (c : After-cut) → (c.cut.result.0.span.start ≡ 0) × (c.cut.result.0.span.end ≡ offset_of 59 c.args.text.now)
first c =
    first_span 59 c.args.text.now c.all.result c.cut.result.0 c.cut.result.1 c.all.ensures.place (c.cut.ensures.place ∙ c.all.ensures.place) c.all.ensures.span.0 c.all.ensures.span.1 c.all.ensures.text c.cut.ensures.spans c.cut.ensures.cut c.cut.ensures.before

pub of_pieces-requires-clause-start : goal.of_pieces-requires-clause-start
of_pieces-requires-clause-start c = (first (goal.at.of_pieces-requires-clause-start c).After-cut).0

pub of_pieces-requires-clause-end : goal.of_pieces-requires-clause-end
of_pieces-requires-clause-end c =
    (first (goal.at.of_pieces-requires-clause-end c).After-cut).1 ∙ ap (offset_of 59) (sym (c.cut.ensures.place ∙ c.all.ensures.place))

pub returns-clause-reads : goal.returns-clause-reads
returns-clause-reads c =
    subst (λ t. Reads false c.args.text.now (laid_out t c.of_pieces.result)) (c.cut.ensures.place ∙ c.all.ensures.place) (c.of_pieces.ensures.reads c.args.text.now (sym c.all.ensures.text ∙ behind-cut _ _ _ c.cut.ensures.cut))

pub returns-clause-value : goal.returns-clause-value
returns-clause-value c = cookie_of-result false c.args.text.now _ (returns-clause-reads c)

pub returns-clause-place : goal.returns-clause-place
returns-clause-place c =
    subst (λ t. IfOk c.of_pieces.result (IsLayoutIn t)) (c.cut.ensures.place ∙ c.all.ensures.place) c.of_pieces.ensures.place
