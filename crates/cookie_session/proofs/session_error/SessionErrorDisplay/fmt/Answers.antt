-- Texts that are written one after the other, whatever options the formatter has.
use Rattle.std.proofs.Common.{◌≡◌, ℕ, List, [], ◌∷◌, ◌++◌, codes, refl, sym, ap, subst, ◌∙◌}
use Rattle.std.proofs.lemmas.List.Folds.{concat-append}
use Rattle.std.specs.Fmt.{HasWrittenStyled}
use Rattle.std.specs.List.{FoldsTo}
use Rattle.std.specs.declared.fmt.Formatter.{Formatter}
use Rattle.cookie_session.specs.SessionError.{session_refusal_text}
use Rattle.cookie_session.proofs.session_error.SessionErrorDisplay.fmt.Goals as goal

module _ {W : Type 0} (took : W → List ℕ → W → Type 0) where
  FoldsTo-append : (xs ys : List (List ℕ)) (w v u : W) → FoldsTo took w xs v → FoldsTo took v ys u → FoldsTo took w (xs ++ ys) u
  FoldsTo-append [] ys w v u p q = subst (λ x. FoldsTo took x ys u) (sym p) q
  FoldsTo-append (x ∷ xs) ys w v u p q = (p.0, p.1, FoldsTo-append xs ys p.0 v u p.2 q)

  -- two texts
  styled-append : (f g h : Formatter W) (a b : List ℕ) → HasWrittenStyled took f a g → HasWrittenStyled took g b h → HasWrittenStyled took f (a ++ b) h
  styled-append f g h a b p q =
      record {
        wrote = record {
          parts = p.wrote.parts ++ q.wrote.parts;
          calls = FoldsTo-append p.wrote.parts q.wrote.parts _ _ _ p.wrote.calls q.wrote.calls;
          whole = concat-append p.wrote.parts q.wrote.parts ∙ (λ i. p.wrote.whole i ++ q.wrote.whole i);
        };
        spec = q.spec ∙ p.spec;
        flush = q.flush;
      }

  -- three texts, which are this one
  styled-three : (f g h i : Formatter W) (a b c all : List ℕ) → all ≡ a ++ (b ++ c) → HasWrittenStyled took f a g → HasWrittenStyled took g b h
      → HasWrittenStyled took h c i → HasWrittenStyled took f all i
  styled-three f g h i a b c all is p q r =
      subst (λ bs. HasWrittenStyled took f bs i) (sym is) (styled-append f g i a (b ++ c) p (styled-append g h i b c q r))

pub returns-in_ok-write_str-in-TooLarge-2-clause-styled : goal.returns-in_ok-write_str-in-TooLarge-2-clause-styled
returns-in_ok-write_str-in-TooLarge-2-clause-styled g c flush ok =
    let front = c.in_ok-write_str-in-TooLarge.ensures.styled flush refl in
    let number = c.in_ok-write_str-in-TooLarge-2.ensures.styled front.flush refl in
    let back = c.write_str-in-TooLarge-3.ensures.styled number.flush ok in
    styled-three g.W.Write.write_str_gives c.args.f.now c.write_str-in-TooLarge.new.self c.write_str-in-TooLarge-2.new.self c.write_str-in-TooLarge-3.new.self
    (codes "the cookie is too large: expected <= 4096 bytes, got ") c.format.result.now (codes " bytes") (session_refusal_text c.args.self.now)
    (ap session_refusal_text c.in-TooLarge.is ∙ (λ i. codes "the cookie is too large: expected <= 4096 bytes, got " ++ (sym c.format.ensures.text i ++ codes " bytes")))
    front number back
