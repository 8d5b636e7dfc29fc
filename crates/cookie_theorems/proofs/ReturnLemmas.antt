-- A session that was saved is open in the jar of the client's next request.
use Rattle.std.proofs.Common.{◌≡◌, ℕ, ◌+◌, ◌-◌, ◌<◌, ◌≤◌, pos, ◌*ℤ◌, Bool, true, false, cond, List, [], ◌∷◌, ◌++◌, All, None, Some, IfSome, option_map, refl, sym, ap, subst, arith, ◌∙◌}
use Rattle.std.proofs.lemmas.List.Elements.{All-append, All-cons, All-head, All-nil, All-tail}
use Rattle.std.proofs.lemmas.Option.{none-some}
use Rattle.std.proofs.lemmas.Slice.Eq.{bytes_eq-Decides}
use Rattle.std.specs.FinMap.{get}
use Rattle.std.specs.List.{AllZip}
use Rattle.std.specs.Prelude.{int_div, int_lt, min}
use Rattle.jiff.specs.Types.{DateTime}
use Rattle.jiff.proofs.SpanFacts.{signed_arith}
use Rattle.cookie.specs.DeltaTexts.{AreDeltaTexts}
use Rattle.cookie.specs.History.{accepted_items, after_all}
use Rattle.cookie.specs.Jar.{Add, Change, JarState, Name, added_mark, after, view}
use Rattle.cookie.specs.Record.{IsCookie, Record, plain}
use Rattle.cookie.specs.Sealing.{IsNonce}
use Rattle.cookie.proofs.AnswerLemmas.{view-stored}
use Rattle.cookie.proofs.NameLemmas.{get_inserted}
use Rattle.cookie_client.specs.Agreement.{Agrees, value_of}
use Rattle.cookie_client.specs.Calls.{IsFit, IsFitAddition, IsFitCall, IsKnownChange, IsOutcome, changes_of}
use Rattle.cookie_client.specs.Client.{Values, after_texts}
use Rattle.cookie_client.specs.declared.call.JarCall.{JarCall}
use Rattle.cookie_client.proofs.AgreementLemmas.{agreement}
use Rattle.cookie_client.proofs.ChangeLemmas.{fit_changes, known_changes}
use Rattle.cookie_session.specs.Seconds.{second_of}
use Rattle.cookie_session.specs.Session.{SessionState, seen_at}
use Rattle.cookie_session.specs.Sessions.{CanSave, CanSealSession, IsOpen, IsStored, bare_cookie, meets_prefix, saved_cookie, time_left}
use Rattle.cookie_session.specs.Size.{browser_length, most_bytes}
use Rattle.cookie_session.specs.declared.sessions.Sessions.{Sessions}
use Rattle.cookie_theorems.specs.Returning.{CanReturn, IsHandled}

-- ---- lists of calls

-- what holds of each call holds of the accepted ones
accepted_are : {X : Type 0} (P : X → Type 0) (outcomes : List Bool) (xs : List X) → All P xs → All P (accepted_items outcomes xs)
accepted_are P [] xs all = All-nil P
accepted_are P (outcome ∷ outcomes) [] all = All-nil P
accepted_are P (true ∷ outcomes) (x ∷ xs) all =
    All-cons P x (accepted_items outcomes xs) (All-head P x xs all) (accepted_are P outcomes xs (All-tail P x xs all))
accepted_are P (false ∷ outcomes) (x ∷ xs) all = accepted_are P outcomes xs (All-tail P x xs all)

-- one change more
one_more : (changes : List Change) (change : Change) (jar : JarState) → after change (after_all changes jar) ≡ after_all (changes ++ change ∷ []) jar
one_more [] change jar = refl
one_more (first ∷ changes) change jar = one_more changes change (after first jar)

-- ---- the age of the saved cookie

live_age : (age : ℕ) → 0 < age → int_lt (pos 0) (int_div (pos age *ℤ pos 1000000000) (pos 1000000000)) ≡ true
live_age age some = grind (arith, signed_arith)

some_left : (limit end idle now : ℕ) → now < limit → now < end → now - now < idle → 0 < min (min limit end - now) idle
some_left limit end idle now young own used = omega (arith, young, own, used)

-- ---- what the calls and the save make of a jar

pub handled : (IsDrawn : List ℕ → Type 0) (site : Sessions) (nonce : List ℕ) (now : DateTime) (session : SessionState) (start old new : JarState) (calls : List JarCall)
    (outcomes : List Bool) → AllZip IsOutcome calls outcomes → old ≡ after_all (changes_of outcomes calls) start → IsNonce nonce → IsDrawn nonce
    → new ≡ after (Add (saved_cookie site nonce now session)) old → meets_prefix site.cookie.now.fields ≡ true → CanSave site now session → CanSealSession (bare_cookie site now session)
    → IfSome (view new site.cookie.now.fields.name) (λ cookie. browser_length cookie ≤ most_bytes) → IsHandled IsDrawn site calls session now start new
handled IsDrawn site nonce now session start old new calls outcomes told played is_nonce drawn added meets lives within fits =
    let saved : Record = saved_cookie site nonce now session in
    record {
      outcomes = outcomes;
      told = told;
      nonce = nonce;
      is_nonce = is_nonce;
      drawn = drawn;
      made = added ∙ ap (after (Add saved)) played;
      meets = meets;
      lives = lives;
      within = within;
      fits = subst (λ o. IfSome o (λ cookie. browser_length cookie ≤ most_bytes))
          (ap (λ (j : JarState). view j site.cookie.now.fields.name) added ∙ view-stored old saved) fits;
    }

-- ---- the theorem

module _ (site : Sessions) (nonce : List ℕ) (now later : DateTime) (session : SessionState) (start old new : JarState) (calls : List JarCall) (outcomes : List Bool)
    (before client : Values) (can : CanReturn site start calls before now later (seen_at (second_of now) session)) (saves : CanSave site now session)
    (told : AllZip IsOutcome calls outcomes) (played : old ≡ after_all (changes_of outcomes calls) start)
    (added : new ≡ after (Add (saved_cookie site nonce now session)) old) (is : IfSome (view new site.cookie.now.fields.name) IsCookie)
    (texts : List (List ℕ)) (are : AreDeltaTexts new.delta texts) (read : client ≡ after_texts now texts before) where
  abbrev saved : Record
  saved = saved_cookie site nonce now session

  stands : get new.delta site.cookie.now.fields.name ≡ Some (added_mark saved)
  stands =
      let at : Name = site.cookie.now.fields.name in
      ap (λ (j : JarState). get j.delta at) added ∙ get_inserted old.delta at (added_mark saved) at
      ∙ ap (λ b. cond b (Some (added_mark saved)) (get old.delta at)) ((bytes_eq-Decides at at).1 refl)

  pub shown : view new site.cookie.now.fields.name ≡ Some saved
  shown = ap (λ (j : JarState). view j site.cookie.now.fields.name) added ∙ view-stored old saved

  fit : IsFitAddition now saved
  fit =
      record {
        name = can.named;
        live = live_age (time_left site (second_of now) session) (some_left (session.started + site.lifetime) session.end (min session.idle site.idle) (second_of now)
            saves.young saves.own saves.used);
        uncut = record { path = can.uncut.path; domain = can.uncut.domain };
      }

  agreed : Agrees now before (changes_of outcomes calls ++ Add saved ∷ []) new client
  agreed =
      agreement now (changes_of outcomes calls ++ Add saved ∷ [])
      (All-append IsKnownChange (changes_of outcomes calls) (Add saved ∷ []) (known_changes outcomes calls told)
      (All-cons IsKnownChange (Add saved) [] (subst (λ o. IfSome o IsCookie) shown is) (All-nil IsKnownChange)))
      start new can.fresh (added ∙ ap (after (Add saved)) played ∙ one_more (changes_of outcomes calls) (Add saved) start) before client texts are read

  -- the client holds the value of the saved cookie
  pub held : get client site.cookie.now.fields.name ≡ Some saved.value
  held =
      agreed.agrees
      (All-append (IsFit now) (changes_of outcomes calls) (Add saved ∷ [])
      (fit_changes now outcomes calls (accepted_are (IsFitCall now) outcomes calls can.fit))
      (All-cons (IsFit now) (Add saved) [] fit (All-nil (IsFit now))))
      site.cookie.now.fields.name (λ absent. absurd (none-some (added_mark saved) (sym absent ∙ stands)))
      ∙ ap value_of shown

  -- and nothing under the empty name
  pub still_unnamed : get client [] ≡ None
  still_unnamed = agreed.named can.unnamed

  pub returned_open : (next : JarState) → view next site.cookie.now.fields.name ≡ option_map (plain site.cookie.now.fields.name) (get client site.cookie.now.fields.name)
      → IsStored site (view new site.cookie.now.fields.name) (seen_at (second_of now) session)
      → IsOpen site (view next site.cookie.now.fields.name) later 0 (seen_at (second_of now) session)
  returned_open next shows kept =
      let at : Name = site.cookie.now.fields.name in
      let s : SessionState = seen_at (second_of now) session in
      let stored : IsStored site (Some saved) s = subst (λ o. IsStored site o s) shown kept in
      subst (λ o. IsOpen site o later 0 s) (sym (shows ∙ ap (option_map (plain at)) held)) (stored (plain at saved.value) refl later can.lives)
