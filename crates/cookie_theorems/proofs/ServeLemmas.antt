-- What came of a save and of a logout.
use Rattle.std.proofs.Common.{◌≡◌, ◌⊎◌, ◌↔◌, ◌<◌, ◌≤◌, ◌+◌, ◌/◌, inl, inr, ⊎_elim, ℕ, suc, zero, min, Bool, true, false, List, Option, None, Some, Result, Ok, Err, IfErr, IfOk, OnErr, OnOk, refl, sym, ap, subst, ◌∙◌, arith}
use Rattle.jiff.specs.Types.{DateTime}
use Rattle.std.specs.FinMap.{FinMap, empty, empty_of_len, len, len-empty}
use Rattle.std.proofs.lemmas.Bool.{cases_lt}
use Rattle.cookie.specs.Jar.{name_cmp}
use Rattle.cookie_session.specs.Id.{IsId}
use Rattle.cookie_session.specs.Endings.{IsGone, MayBeSpent}
use Rattle.cookie_session.specs.Revocations.{AreSame}
use Rattle.cookie_session.specs.Seconds.{second_of}
use Rattle.cookie_session.specs.Session.{pass_of}
use Rattle.cookie_session.specs.Sessions.{CanSave, CanSealSession, bare_cookie, meets_prefix, started_at}
use Rattle.cookie_session.specs.Size.{most_bytes}
use Rattle.cookie_session.specs.Visit.{IsDue, MustSave, Replaces, VisitState, renewed_visit, saved_visit}
use Rattle.cookie_session.specs.declared.pass.Pass.{Pass}
use Rattle.cookie_session.specs.declared.session_error.SessionError.{SessionError}
use Rattle.cookie_session.specs.declared.session_error.SessionError.TheVariants as refusal
use Rattle.cookie_session.specs.declared.sessions.Sessions.{Sessions}
use Rattle.cookie_session.specs.declared.visit_error.VisitError.{VisitError}
use Rattle.cookie_session.specs.declared.visit_error.VisitError.TheVariants as failure
use Rattle.cookie_theorems.specs.Acts.{IsAnew, IsLoggedOut, IsNoSave, IsNoStart, IsSavedIfNeeded, Leaves, StartsVisit}
use Rattle.cookie_theorems.specs.declared.event.Event.{Event}
use Rattle.cookie_theorems.specs.declared.event.Event.TheVariants as events
use Rattle.cookie_theorems.specs.declared.handling.Handling.{Handling}
use Rattle.cookie_theorems.specs.declared.site_request.SiteRequest.{SiteRequest}
use Rattle.cookie_theorems.proofs.HistoryLemmas.{Set}

-- ---- whether a session must be saved

implies_or : (P Q : Type 0) → P ⊎ (¬ P) → Q ⊎ (¬ Q) → (P → Q) ⊎ (¬ (P → Q))
implies_or P Q first (inl also) = inl (λ holds. also)
implies_or P Q (inl holds) (inr none) = inr (λ implies. none (implies holds))
implies_or P Q (inr not) (inr none) = inl (λ holds. absurd (not holds))

either_or : (P Q : Type 0) → P ⊎ (¬ P) → Q ⊎ (¬ Q) → (P ⊎ Q) ⊎ (¬ (P ⊎ Q))
either_or P Q (inl holds) second = inl (inl holds)
either_or P Q (inr not) (inl also) = inl (inr also)
either_or P Q (inr not) (inr none) = inr (λ either. ⊎_elim not none either)

not_or : (P : Type 0) → P ⊎ (¬ P) → (¬ P) ⊎ (¬ (¬ P))
not_or P (inl holds) = inr (λ not. not holds)
not_or P (inr not) = inl not

is_or_not : (test wanted : Bool) → (test ≡ wanted) ⊎ (¬ (test ≡ wanted))
is_or_not true true = inl refl
is_or_not false false = inl refl
is_or_not true false = inr (λ same. grind (arith, same))
is_or_not false true = inr (λ same. grind (arith, same))

none_or : (X : Type 0) (found : Option X) → (found ≡ None) ⊎ (¬ (found ≡ None))
none_or X None = inl refl
none_or X (Some x) = inr (λ same. grind (arith, same))

newest_or : (place : Option ℕ) → (place ≡ Some 0) ⊎ (¬ (place ≡ Some 0))
newest_or None = inr (λ same. grind (arith, same))
newest_or (Some zero) = inl refl
newest_or (Some (suc place)) = inr (λ same. grind (arith, same))

le_or : (a b : ℕ) → (a ≤ b) ⊎ (¬ (a ≤ b))
le_or a b = ⊎_elim (λ more. inr (λ less. omega (arith, more, less))) inl (cases_lt b a)

empty_or : (texts : FinMap name_cmp (List ℕ)) → (texts ≡ empty) ⊎ (¬ (texts ≡ empty))
empty_or texts =
    ⊎_elim (λ none. inl (empty_of_len texts (omega (arith, none))))
    (λ some. inr (λ is. some (omega (arith, ap len is ∙ len-empty name_cmp (List ℕ))))) (le_or (len texts) 0)

module _ (site : Sessions) (now : DateTime) (visit : VisitState) where
  abbrev HasSome : Type 0
  HasSome = visit.place ≡ None → visit.given ≡ None → ¬ (visit.session.texts ≡ empty)

  abbrev IsNeeded : Type 0
  IsNeeded = (visit.is_changed ≡ true) ⊎ (¬ (visit.place ≡ Some 0)) ⊎ IsDue site now visit.session

  must_by : HasSome ⊎ (¬ HasSome) → (visit.shows_revoked ≡ false) ⊎ (¬ (visit.shows_revoked ≡ false)) → IsNeeded ⊎ (¬ IsNeeded)
      → MustSave site now visit ⊎ (¬ MustSave site now visit)
  must_by (inl some) (inl unrevoked) (inl needed) = inl (record { some = some; unrevoked = unrevoked; needed = needed })
  must_by (inr none) unrevoked needed = inr (λ must. none must.some)
  must_by (inl some) (inr revoked) needed = inr (λ must. revoked must.unrevoked)
  must_by (inl some) (inl unrevoked) (inr not) = inr (λ must. not must.needed)

  must_save_or_not : MustSave site now visit ⊎ (¬ MustSave site now visit)
  must_save_or_not =
      must_by
      (implies_or _ _ (none_or ℕ visit.place) (implies_or _ _ (none_or Pass visit.given) (not_or _ (empty_or visit.session.texts))))
      (is_or_not visit.shows_revoked false)
      (either_or _ _ (is_or_not visit.is_changed true) (either_or _ _ (not_or _ (newest_or visit.place)) (le_or (visit.session.seen + min visit.session.idle site.idle / 10) (second_of now))))

pub same_sets : (old new : Set) → new ≡ old → AreSame old new
same_sets old new same = subst (λ (set : Set). AreSame old set) (sym same) (λ id second. ((λ there. there), (λ there. there)))

-- the pass that is replaced is one
one_replaced : (visit : VisitState) (first other : Pass) → Replaces visit first → Replaces visit other → first ≡ other
one_replaced visit first other one also = let same : Some first ≡ Some other = sym one.0 ∙ also.0 in grind (arith, same)

-- what is known of a save
pub record IsSave (E G : Type 0) (site : Sessions) (now : DateTime) (visit after : VisitState) (result : Result Bool (VisitError E)) : Type 0 where
  pub skipped : (¬ MustSave site now visit) → (result ≡ Ok false) × (after ≡ visit)
  pub saved : MustSave site now visit → IfOk result (λ is_saved. (is_saved ≡ true) × (after ≡ saved_visit visit))
  pub stays : OnErr result (after ≡ visit)
  pub prefix : MustSave site now visit → (¬ (meets_prefix site.cookie.now.fields ≡ true)) ↔ (result ≡ Err (failure.Session refusal.Prefix))
  pub over : MustSave site now visit → meets_prefix site.cookie.now.fields ≡ true → (¬ (CanSave site now visit.session)) ↔ (result ≡ Err (failure.Session refusal.Over))
  pub too_long : MustSave site now visit → CanSave site now visit.session → ¬ (result ≡ Err (failure.Session refusal.Prefix)) → ¬ (result ≡ Err (failure.Session refusal.OutOfMemory))
      → (¬ (CanSealSession (bare_cookie site now visit.session))) ↔ (result ≡ Err (failure.Session refusal.TooLong))
  pub too_large : (size : ℕ) → result ≡ Err (failure.Session (refusal.TooLarge size)) → most_bytes < size
  pub failed : result ≡ Err (failure.Session refusal.Generator) → G

module _ (E G : Type 0) (site : Sessions) (now : DateTime) (visit after : VisitState) (result : Result Bool (VisitError E)) (save : IsSave E G site now visit after result) where
  -- a save that was done was needed
  pub was_needed : result ≡ Ok true → MustSave site now visit
  was_needed was = elim (must_save_or_not site now visit) [
    | inl needed ↦ needed
    | inr not ↦ absurd (let both : Ok true ≡ Ok false = sym was ∙ (save.skipped not).0 in grind (arith, both))
  ]

  pub was_kept : (saved : Bool) → result ≡ Ok saved → MustSave site now visit → (saved ≡ true) × (after ≡ saved_visit visit)
  was_kept saved was needed = subst (λ (r : Result Bool (VisitError E)). IfOk r (λ is_saved. (is_saved ≡ true) × (after ≡ saved_visit visit))) was (save.saved needed)

  pub was_not : result ≡ Ok false → ¬ MustSave site now visit
  was_not was needed = let same : false ≡ true = (was_kept false was needed).0 in grind (arith, same)

  -- and one that failed, too
  fail_needed : (error : VisitError E) → result ≡ Err error → MustSave site now visit
  fail_needed error was = elim (must_save_or_not site now visit) [
    | inl needed ↦ needed
    | inr not ↦ absurd (let both : Err error ≡ Ok false = sym was ∙ (save.skipped not).0 in grind (arith, both))
  ]

  fail_stays : (error : VisitError E) → result ≡ Err error → after ≡ visit
  fail_stays error was = subst (λ (r : Result Bool (VisitError E)). OnErr r (after ≡ visit)) was save.stays

  no_save : (why : SessionError) → result ≡ Err (failure.Session why) → IsNoSave G site now visit.session why
  no_save refusal.OutOfMemory was = tt
  no_save refusal.Prefix was = (save.prefix (fail_needed (failure.Session refusal.Prefix) was)).1 was
  no_save refusal.Over was =
      let needed = fail_needed (failure.Session refusal.Over) was in
      elim (is_or_not (meets_prefix site.cookie.now.fields) true) [
        | inl meets ↦ (save.over needed meets).1 was
        | inr not ↦ absurd (let both : Err (failure.Session refusal.Over) ≡ Err (failure.Session refusal.Prefix) = sym was ∙ (save.prefix needed).0 not in grind (arith, both))
      ]
  no_save (refusal.TooLarge size) was = save.too_large size was
  no_save refusal.TooLong was = λ can.
      (save.too_long (fail_needed (failure.Session refusal.TooLong) was) can
      (λ other. let both : Err (failure.Session refusal.TooLong) ≡ Err (failure.Session refusal.Prefix) = sym was ∙ other in grind (arith, both))
      (λ other. let both : Err (failure.Session refusal.TooLong) ≡ Err (failure.Session refusal.OutOfMemory) = sym was ∙ other in grind (arith, both))).1 was
  no_save refusal.Generator was = save.failed was

  pub saved_over : (from to : Pass) → Replaces visit from → to ≡ pass_of visit.session → result ≡ Ok true → IsSavedIfNeeded E G site now visit (events.Replaced from to) after
  saved_over from to replaces is was =
      let needed = was_needed was in
      inr (needed, inr (inl (from, replaces, inl (ap (events.Replaced from) is, (was_kept true was needed).1))))

  pub saved_none : result ≡ Ok false → IsSavedIfNeeded E G site now visit events.Plain after
  saved_none was = let not = was_not was in inl (not, refl, (save.skipped not).1)

  pub saved_own : ((pass : Pass) → ¬ Replaces visit pass) → (saved : Bool) → result ≡ Ok saved → IsSavedIfNeeded E G site now visit events.Plain after
  saved_own none false was = saved_none was
  saved_own none true was = let needed = was_needed was in inr (needed, inl (refl, none, (was_kept true was needed).1))

  pub failed_over : (from : Pass) → Replaces visit from → (error : VisitError E) → result ≡ Err error → (event : Event)
      → ((why : SessionError) → error ≡ failure.Session why → event ≡ events.Refused why) → (error ≡ failure.Gone → event ≡ events.Gone from)
      → ((why : E) → error ≡ failure.Revocations why → event ≡ events.Unsure from) → IsSavedIfNeeded E G site now visit event after
  failed_over from replaces (failure.Session why) was event refused gone unsure =
      inr (fail_needed (failure.Session why) was, inr (inr (why, refused why refl, no_save why was, fail_stays (failure.Session why) was)))
  failed_over from replaces failure.Gone was event refused gone unsure =
      inr (fail_needed failure.Gone was, inr (inl (from, replaces, inr (inl (gone refl), fail_stays failure.Gone was))))
  failed_over from replaces (failure.Revocations why) was event refused gone unsure =
      inr (fail_needed (failure.Revocations why) was, inr (inl (from, replaces, inr (inr (unsure why refl, why), fail_stays (failure.Revocations why) was))))

  pub failed_own : (error : VisitError E) → result ≡ Err error → (¬ (result ≡ Err failure.Gone)) → ((why : E) → ¬ (result ≡ Err (failure.Revocations why))) → (event : Event)
      → ((why : SessionError) → error ≡ failure.Session why → event ≡ events.Refused why) → IsSavedIfNeeded E G site now visit event after
  failed_own (failure.Session why) was no_gone no_unsure event refused =
      inr (fail_needed (failure.Session why) was, inr (inr (why, refused why refl, no_save why was, fail_stays (failure.Session why) was)))
  failed_own failure.Gone was no_gone no_unsure event refused = absurd (no_gone was)
  failed_own (failure.Revocations why) was no_gone no_unsure event refused = absurd (no_unsure why was)

-- ---- what is revoked after a failure

pub failed_leaves : (E : Type 0) (now : ℕ) (from : Pass) (old new : Set) (error : VisitError E) (event : Event)
    → ((why : SessionError) → error ≡ failure.Session why → event ≡ events.Refused why) → (error ≡ failure.Gone → event ≡ events.Gone from)
    → ((why : E) → error ≡ failure.Revocations why → event ≡ events.Unsure from)
    → ((why : SessionError) → error ≡ failure.Session why → AreSame old new) → (error ≡ failure.Gone → IsGone now from old new) → ((why : E) → error ≡ failure.Revocations why → MayBeSpent from old new)
    → Leaves now event old new
failed_leaves E now from old new (failure.Session why) event refused gone unsure same over may = subst (λ e. Leaves now e old new) (sym (refused why refl)) (same why refl)
failed_leaves E now from old new failure.Gone event refused gone unsure same over may = subst (λ e. Leaves now e old new) (sym (gone refl)) (over refl)
failed_leaves E now from old new (failure.Revocations why) event refused gone unsure same over may = subst (λ e. Leaves now e old new) (sym (unsure why refl)) (may why refl)

pub refused_leaves : (E : Type 0) (now : ℕ) (old new : Set) (error : VisitError E) (event : Event)
    → ((why : SessionError) → error ≡ failure.Session why → event ≡ events.Refused why) → ((why : E) → error ≡ failure.Revocations why → event ≡ events.Failed)
    → ¬ (error ≡ failure.Gone) → AreSame old new → Leaves now event old new
refused_leaves E now old new (failure.Session why) event refused failed never same = subst (λ e. Leaves now e old new) (sym (refused why refl)) same
refused_leaves E now old new failure.Gone event refused failed never same = absurd (never refl)
refused_leaves E now old new (failure.Revocations why) event refused failed never same = subst (λ e. Leaves now e old new) (sym (failed why refl)) same

-- the pass that the clauses name is the one that is replaced
pub gone_one : (visit : VisitState) (now : ℕ) (from : Pass) (old new : Set) → Replaces visit from → ((pass : Pass) × Replaces visit pass × IsGone now pass old new) → IsGone now from old new
gone_one visit now from old new replaces (pass, also, gone) = subst (λ (p : Pass). IsGone now p old new) (one_replaced visit pass from also replaces) gone

pub unsure_one : (visit : VisitState) (from : Pass) (old new : Set) → Replaces visit from → ((pass : Pass) × Replaces visit pass × MayBeSpent pass old new) → MayBeSpent from old new
unsure_one visit from old new replaces (pass, also, may) = subst (λ (p : Pass). MayBeSpent p old new) (one_replaced visit pass from also replaces) may

-- ---- a logout

pub failed_logout : (E : Type 0) (visit : VisitState) (pass : Pass) → visit.given ≡ Some pass → (error : VisitError E) → (event : Event)
    → ((why : SessionError) → error ≡ failure.Session why → event ≡ events.Refused why) → ((why : E) → error ≡ failure.Revocations why → event ≡ events.Unsure pass)
    → ((why : SessionError) → error ≡ failure.Session why → why ≡ refusal.OutOfMemory) → ¬ (error ≡ failure.Gone) → IsLoggedOut E visit event
failed_logout E visit pass given (failure.Session why) event refused unsure memory never = inr (pass, given, inr (inr (refused why refl ∙ ap events.Refused (memory why refl))))
failed_logout E visit pass given failure.Gone event refused unsure memory never = absurd (never refl)
failed_logout E visit pass given (failure.Revocations why) event refused unsure memory never = inr (pass, given, inr (inl (unsure why refl, why)))

pub given_one : (visit : VisitState) (pass other : Pass) → visit.given ≡ Some pass → visit.given ≡ Some other → other ≡ pass
given_one visit pass other given also = let same : Some pass ≡ Some other = sym given ∙ also in grind (arith, same)

-- ---- a session that starts anew

pub anew : (G D : Type 0) (site : Sessions) (now : DateTime) (texts : FinMap name_cmp (List ℕ)) (visit next : VisitState) (result : Result (Unit {0}) SessionError) (event : Event)
    → OnOk result (next ≡ renewed_visit (started_at site now next.session.id texts) visit) → OnOk result (IsId next.session.id × D) → IfErr result (λ why. (why ≡ refusal.Generator) × G) → OnErr result (next ≡ visit)
    → OnOk result (event ≡ events.Plain) → IfErr result (λ why. event ≡ events.Refused why) → IsAnew G site now texts visit event next
anew G D site now texts visit next (Ok done) event renewed drawn failed stays plain refused = inl (plain, next.session.id, drawn.0, renewed)
anew G D site now texts visit next (Err why) event renewed drawn failed stays plain refused = inr (why, refused, inr failed, stays)

-- ---- a request that isn't opened

pub failed_open : (E G : Type 0) (old : Set) (request : SiteRequest) (visits : List (Option Handling)) (error : VisitError E) (event : Event)
    → ((why : SessionError) → error ≡ failure.Session why → event ≡ events.Refused why) → ((why : E) → error ≡ failure.Revocations why → event ≡ events.Failed)
    → ¬ (error ≡ failure.Gone) → ((why : SessionError) → error ≡ failure.Session why → IsNoStart G why) → StartsVisit E G old request visits event visits
failed_open E G old request visits (failure.Session why) event refused failed never start = inr (inl (why, refused why refl, start why refl, refl))
failed_open E G old request visits failure.Gone event refused failed never start = absurd (never refl)
failed_open E G old request visits (failure.Revocations why) event refused failed never start = inr (inr (failed why refl, why, refl))
