use Rattle.std.proofs.Common.{◌∙◌}
use Rattle.cookie_session.proofs.ReadLemmas.{parsed}
use Rattle.cookie_session.proofs.session_text.parse_session.Goals as goal

pub returns : goal.returns
returns c s is =
    c.of.ensures
    ∙ parsed c.args.text.now _ _ _ _ _ _ _ _ _ _ _ _ _ _ _ _ _ _ c.id_of.result c.number_of.result c.number_of-2.result c.number_of-3.result c.number_of-4.result c.in_ok-texts.texts
    c.first_pair.ensures.parts c.first_pair-2.ensures.parts c.first_pair-3.ensures.parts c.first_pair-4.ensures.parts c.first_pair-5.ensures.parts c.first_pair-6.ensures.parts
    (λ written whole e. c.id_of.ensures written whole (c.as_bytes-5.ensures.value ∙ e)) (λ n small e. c.number_of.ensures n small (c.as_bytes.ensures.value ∙ e))
    (λ n small e. c.number_of-2.ensures n small (c.as_bytes-2.ensures.value ∙ e)) (λ n small e. c.number_of-3.ensures n small (c.as_bytes-3.ensures.value ∙ e))
    (λ n small e. c.number_of-4.ensures n small (c.as_bytes-4.ensures.value ∙ e)) c.in_ok-texts.ensures s is
