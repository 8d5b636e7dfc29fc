-- How what the user agent has is ended for C, by what the library's call does.
use Rattle.std.proofs.Common.{◌≡◌, ◌↔◌, ◌≤◌, inl, inr, Bool, Option, Some, None, arith, ap, refl, subst, sym, true≢false, ◌∙◌}
use Rattle.std.proofs.lemmas.Option.{none-some, same_Some}
use Rattle.jiff.specs.Types.{DateTime}
use Rattle.cookie_session.specs.Endings.{IsEndedBy}
use Rattle.cookie_session.specs.Seconds.{second_of}
use Rattle.cookie_session.specs.Visit.{VisitState}
use Rattle.cookie_session.specs.declared.ending.Ending.TheVariants as endings
use Rattle.cookie_session.specs.declared.pass.Pass.{Pass}
use Rattle.cookie_c.specs.SessionCalls.{EndsGiven, LogsOut, ReplacesHeld}
use Rattle.cookie_c.specs.declared.status.Status.{Status}
use Rattle.cookie_c.specs.declared.status.Status.TheVariants as status

module _ (time : DateTime) (was_revoked : Bool) (old new : VisitState) where
  -- it is ended
  pub given_ended : (old.given ≡ None) ↔ (endings.Ended ≡ endings.Nobody)
      → IsEndedBy (second_of time) was_revoked old.given ↔ (endings.Ended ≡ endings.Ended)
      → new ≡ record old { given = None } → EndsGiven time was_revoked status.Done old new
  given_ended nobody ended taken =
      let (has, is, early, fresh) = ended.1 refl in
      record {
        nobody = λ none. absurd (let e : endings.Ended ≡ endings.Nobody = nobody.0 none in cc);
        gone = λ pass same why. absurd (elim why [
          | inl was ↦ true≢false (sym was ∙ fresh)
          | inr over ↦ let late : has.end ≤ second_of time = subst (λ (p : Pass). p.end ≤ second_of time) (same_Some pass has (sym same ∙ is)) over in omega (arith, early, late)
        ]);
        ended = λ _. (refl, taken);
      }

  -- the user agent has none
  pub given_nobody : (old.given ≡ None) ↔ (endings.Nobody ≡ endings.Nobody) → new ≡ old → EndsGiven time was_revoked status.NotFound old new
  given_nobody nobody stays = record {
    nobody = λ _. (refl, stays);
    gone = λ pass same _. absurd (none-some pass (sym (nobody.1 refl) ∙ same));
    ended = λ by. absurd (let (has, is, _, _) = by in none-some has (sym (nobody.1 refl) ∙ is));
  }

  -- it was revoked before, or is over
  pub given_gone : (old.given ≡ None) ↔ (endings.Gone ≡ endings.Nobody)
      → IsEndedBy (second_of time) was_revoked old.given ↔ (endings.Gone ≡ endings.Ended) → new ≡ old
      → EndsGiven time was_revoked status.Gone old new
  given_gone nobody ended stays = record {
    nobody = λ none. absurd (let e : endings.Gone ≡ endings.Nobody = nobody.0 none in cc);
    gone = λ _ _ _. (refl, stays);
    ended = λ by. absurd (let e : endings.Gone ≡ endings.Ended = ended.0 by in cc);
  }

module _ (time : DateTime) (was_revoked : Bool) where
  -- it is ended, and then the handle's session is freed
  pub logs_out : (old mid left : Option VisitState) → ReplacesHeld time was_revoked status.Done old mid → left ≡ None
      → LogsOut time was_revoked status.Done old left
  logs_out None mid left is none = absurd (let e : status.Done ≡ status.NoSession = is.0 in cc)
  logs_out (Some had) mid left (made, put, is) none = record {
    nobody = λ nobody. absurd (let e : status.Done ≡ status.NotFound = (is.nobody nobody).0 in cc);
    gone = λ pass same why. absurd (let e : status.Done ≡ status.Gone = (is.gone pass same why).0 in cc);
    ended = λ _. (refl, none);
  }

  -- it isn't, and the handle keeps its session
  pub logs_none_out : (why : Status) (old mid : Option VisitState) → ¬ (why ≡ status.Done) → ReplacesHeld time was_revoked why old mid
      → LogsOut time was_revoked why old mid
  logs_none_out why None mid undone is = is
  logs_none_out why (Some had) mid undone (made, put, is) = record {
    nobody = λ nobody. let kept = is.nobody nobody in (kept.0, put ∙ ap (λ (m : VisitState). Some m) kept.1);
    gone = λ pass same because. let kept = is.gone pass same because in (kept.0, put ∙ ap (λ (m : VisitState). Some m) kept.1);
    ended = λ by. absurd (undone (is.ended by).0);
  }
