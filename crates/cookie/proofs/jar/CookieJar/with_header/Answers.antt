use Rattle.std.proofs.Common.{true, refl, sym, ap, ◌∙◌}
use Rattle.std.specs.List.{filter_map}
use Rattle.cookie_core.proofs.CookieOfLemmas.{header_cookies-texts}
use Rattle.cookie_core.proofs.SplitLemmas.{NextCookie-decodes}
use Rattle.cookie_core.specs.CookieOf.{cookie_of, header_cookies}
use Rattle.cookie.specs.Originals.{with_originals}
use Rattle.cookie.proofs.OriginalLemmas.{with_originals-next}
use Rattle.cookie.proofs.jar.CookieJar.with_header.Goals as goal

pub loop-outcome-init : goal.loop-outcome-init
loop-outcome-init c =
    let left = c.into_iter-outcome-iterator.ensures.into_iter_gives in
    let split = c.split_parse_encoded_owned-outcome-items.ensures in
    record {
      is_decoded = ap (λ s. s.is_decoded) (left ∙ split.value);
      jar = ap (λ cookies. with_originals cookies c.args.self)
          (ap (λ s. filter_map (cookie_of true) s.texts) left ∙ sym (header_cookies-texts true _ _ split.texts) ∙ ap (header_cookies true) c.in_ok-text.ensures.ok);
    }

pub loop-outcome-preserved : goal.loop-outcome-preserved
loop-outcome-preserved c =
    let before = c.loop-outcome.invariant in
    let steps = c.in-Some.ensures.steps in
    let (text, first, agrees) = NextCookie-decodes c.loop-outcome.outcome-iterator c.next.new.self c.in-Some.outcome before.is_decoded steps in
    record {
      is_decoded = steps.3.is_decoded ∙ before.is_decoded;
      jar = ap (with_originals (filter_map (cookie_of true) c.next.new.self.texts)) (c.in_ok-put_piece.ensures.added text agrees)
          ∙ with_originals-next (cookie_of true) text c.next.new.self.texts _ c.loop-outcome.jar refl
          ∙ ap (λ texts. with_originals (filter_map (cookie_of true) texts) c.loop-outcome.jar) (sym first)
          ∙ before.jar;
    }
