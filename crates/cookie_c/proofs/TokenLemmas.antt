-- How a token is made for C, by what the library's call does.
use Rattle.std.proofs.Common.{◌≡◌, ℕ, inl, List, ap, subst, ◌∙◌}
use Rattle.jiff.specs.Types.{DateTime}
use Rattle.cookie_session.specs.Tokens.{CanMakeToken, IsReadUntilEnd, made_token, new_token}
use Rattle.cookie_session.specs.declared.tokens.Tokens.{Tokens}
use Rattle.cookie_c.specs.Answers.{IsGiven, IsRefused}
use Rattle.cookie_c.specs.Tokens.{MakesToken}
use Rattle.cookie_c.specs.declared.answer.Answer.{Answer}
use Rattle.cookie_c.specs.declared.status.Status.TheVariants as status

module _ (site : Tokens) (nonce : List ℕ) (time : DateTime) (value : List ℕ) (answer : Answer) (old new : List ℕ) where
  -- the token is made under this nonce, and given
  pub makes_given : (other token : List ℕ) → other ≡ nonce → token ≡ made_token site other time value → CanMakeToken site time value
      → IsReadUntilEnd site token (new_token site time value) → IsGiven token answer old new → MakesToken site nonce time value answer old new
  makes_given other token drawn is can reads given =
      let same : token ≡ made_token site nonce time value = is ∙ ap (λ n. made_token site n time value) drawn in
      record {
        too_long = λ cannot. absurd (cannot can);
        made = λ _. inl (subst (λ t. IsGiven t answer old new) same given, subst (λ t. IsReadUntilEnd site t (new_token site time value)) same reads);
      }

  pub makes_too_long : ¬ (CanMakeToken site time value) → IsRefused status.TooLong answer old new → MakesToken site nonce time value answer old new
  makes_too_long cannot refused = record { too_long = λ _. inl refused; made = λ can. absurd (cannot can) }
