-- The session of one request, and when it must be saved.
use Rattle.std.specs.Prelude.{◌≡◌, ℕ, ◌+◌, ◌/◌, ◌≤◌, ◌⊎◌, Bool, false, true, List, Option, Some, None, min, refl}
use Rattle.std.specs.Coded.{Coded, code_by, coded×, coded_bool, coded_list, coded_option, coded_ℕ}
use Rattle.std.specs.FinMap.{empty}
use Rattle.jiff.specs.Types.{DateTime}
use Rattle.cookie_session.specs.Seconds.{second_of}
use Rattle.cookie_session.specs.Session.{SessionState, pass_of, session_code}
use Rattle.cookie_session.specs.declared.pass.Pass.{Pass}
use Rattle.cookie_session.specs.declared.sessions.Sessions.{Sessions}

-- the session of a request, and what is known of its cookie
pub record VisitState : Type 0 where
  pub session : SessionState
  -- the place of the key that opened it, if one did
  pub place : Option ℕ
  -- what the user agent has, if it has a session: that of `session`, or the one that a renewal replaces
  pub given : Option Pass
  -- whether it was changed since
  pub is_changed : Bool
  -- whether each session that the request has open is revoked, and it has one, and none was started by name since
  pub shows_revoked : Bool

-- how a pass is stored, as a pair
abbrev pub pass_code : Coded Pass
pass_code =
    code_by (List ℕ × ℕ) (coded× (coded_list coded_ℕ) coded_ℕ) (λ pass. (pass.id, pass.end))
    (λ parts. record { id = parts.0; end = parts.1 }) (λ _. refl)

-- how a visit is stored, as a pair
abbrev pub visit_code : Coded VisitState
visit_code =
    code_by (SessionState × (Option ℕ × (Option Pass × (Bool × Bool))))
    (coded× session_code
    (coded× (coded_option coded_ℕ)
    (coded× (coded_option pass_code) (coded× coded_bool coded_bool))))
    (λ visit.
    (visit.session, (visit.place, (visit.given, (visit.is_changed, visit.shows_revoked)))))
    (λ parts. record {
      session = parts.0;
      place = parts.1.0;
      given = parts.1.1.0;
      is_changed = parts.1.1.1.0;
      shows_revoked = parts.1.1.1.1;
    }) (λ _. refl)

-- the visit of a request whose session was found open by the key at this place
abbrev pub opened_visit : SessionState → ℕ → VisitState
opened_visit session place =
    record {
      session = session;
      place = Some place;
      given = Some (pass_of session);
      is_changed = false;
      shows_revoked = false;
    }

-- the visit of a request without a session, for which this one started
abbrev pub new_visit : SessionState → Bool → VisitState
new_visit session shows_revoked =
    record {
      session = session;
      place = None;
      given = None;
      is_changed = false;
      shows_revoked = shows_revoked;
    }

-- the visit once this session started in the place of its own
abbrev pub renewed_visit : SessionState → VisitState → VisitState
renewed_visit session visit =
    record visit { session = session; is_changed = true; shows_revoked = false }

-- the visit once its session's cookie was given out
abbrev pub saved_visit : VisitState → VisitState
saved_visit visit = record visit { given = Some (pass_of visit.session) }

-- what the user agent has is another pass than the session's, so the session's cookie replaces it
abbrev pub Replaces : VisitState → Pass → Type 0
Replaces visit pass = (visit.given ≡ Some pass) × ¬ (pass ≡ pass_of visit.session)

-- a tenth of the idle time, the site's or its own, has passed since it was last saved
abbrev pub IsDue : Sessions → DateTime → SessionState → Type 0
IsDue site now session = session.seen + min session.idle site.idle / 10 ≤ second_of now

-- It must be saved: it was changed, or no key or an older one opened it, or it is due. But never a new session without
-- texts, nor one that wasn't started by name where the request shows a revoked one.
pub record MustSave (site : Sessions) (now : DateTime) (visit : VisitState) : Type 0 where
  pub some : visit.place ≡ None → visit.given ≡ None → ¬ (visit.session.texts ≡ empty)
  pub unrevoked : visit.shows_revoked ≡ false
  pub needed : (visit.is_changed ≡ true) ⊎ (¬ (visit.place ≡ Some 0)) ⊎ IsDue site now visit.session
