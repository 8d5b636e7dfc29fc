use Rattle.std.proofs.Common.{length, ap, rules, sym, ◌∙◌}
use Rattle.cookie_session.proofs.IdLemmas.{decoded_id, length-id_text, undecoded}
use Rattle.cookie_session.proofs.id.id_of.Goals as goal
use Rattle.cookie_session.proofs.id.id_of.Goals.{then-text-ne-TEXT_LENGTH-via-then-text-ne-TEXT_LENGTH, then-text-ne-TEXT_LENGTH-via-else-text-ne-TEXT_LENGTH+then-is_err}

pub returns-then-text-ne-TEXT_LENGTH : goal.returns-then-text-ne-TEXT_LENGTH
returns-then-text-ne-TEXT_LENGTH c written is shown = elim c.then-text-ne-TEXT_LENGTH.branch [
  | then-text-ne-TEXT_LENGTH-via-then-text-ne-TEXT_LENGTH w ↦ absurd (w.if-text-ne-TEXT_LENGTH.true (ap length shown ∙ length-id_text written is))
  | then-text-ne-TEXT_LENGTH-via-else-text-ne-TEXT_LENGTH+then-is_err w ↦
      absurd (undecoded c.args.text.now written w.decode_slice_unchecked.result (sym w.is_err.ensures.value ∙ w.if-is_err.true) w.decode_slice_unchecked.ensures.err is shown)
]

pub returns-in-Some : goal.returns-in-Some
returns-in-Some c written is shown =
    c.in-Some.ensures.cases.same
    ∙ decoded_id c.args.text.now written _ c.decode_slice_unchecked.new.output c.decode_slice_unchecked.result (sym c.is_err.ensures.value ∙ c.if-is_err.false)
    c.decode_slice_unchecked.ensures.ok (search rules) is shown
