-- What the keys of a handle find in a sealed text.
use Rattle.std.proofs.Common.{◌≡◌, ◌↔◌, ℕ, List, Option, None, Some, option_map, inl, inr, sym, ap, ◌∙◌}
use Rattle.std.proofs.lemmas.Option.{none-some}
use Rattle.cookie_session.specs.KeyRing.{OpensTextAt}
use Rattle.cookie_session.specs.OpenedText.{text_opened_at}
use Rattle.cookie_session.specs.declared.opened_text.OpenedText.{OpenedText}
use Rattle.cookie_c.specs.Answers.{IsGiven, IsRead, IsReadInMemory, IsRefused}
use Rattle.cookie_c.specs.KeyCalls.{IsSealedBy}
use Rattle.cookie_c.specs.declared.answer.Answer.{Answer}
use Rattle.cookie_c.specs.declared.status.Status.TheVariants as status

module _ (keys : List (List ℕ)) (name text : List ℕ) (found : Option OpenedText)
    (finds : (place : ℕ) (value : List ℕ) → (option_map text_opened_at found ≡ Some (place, value)) ↔ OpensTextAt None keys place name text value)
    (answer : Answer) (old new : List ℕ) where
  pub sealed_some : (opened : OpenedText) → found ≡ Some opened → IsGiven (text_opened_at opened).1 answer old new
      → IsRead (IsSealedBy keys name text) status.NotSealed answer old new
  sealed_some opened is given =
      let (place, value) = text_opened_at opened in
      inl (value, (place, (finds place value).0 (ap (option_map text_opened_at) is)), given)

  pub sealed_none : found ≡ None → IsRefused status.NotSealed answer old new → IsReadInMemory (IsSealedBy keys name text) status.NotSealed answer old new
  sealed_none is refused =
      inl (inr ((λ v sealed. none-some (sealed.0, v) (sym (ap (option_map text_opened_at) is) ∙ (finds sealed.0 v).1 sealed.1)), refused))
