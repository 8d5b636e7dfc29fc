-- What the acts of a site's handlers keep.
use Rattle.std.proofs.Common.{◌≡◌, ◌⊎◌, inl, inr, ◌<◌, ◌≤◌, ◌+◌, max, ℕ, List, [], ◌∷◌, ◌++◌, Option, None, Some, MatchOption, Result, Ok, Err, IfOk, drop, take, set, get_or, length, refl, sym, ap, subst, ◌∙◌, arith}
use Rattle.std.proofs.Math.ListN.{get_or-eq_default}
use Rattle.std.proofs.lemmas.List.{drop_more, get_or_default, set-get_or, set-set, take_more}
use Rattle.std.specs.FinMap.{FinMap, empty}
use Rattle.jiff.specs.Types.{DateTime}
use Rattle.cookie.specs.Jar.{name_cmp}
use Rattle.cookie_session.specs.Endings.{IsSpent}
use Rattle.cookie_session.specs.Revocations.{IsRevoked}
use Rattle.cookie_session.specs.Visit.{VisitState}
use Rattle.cookie_session.specs.declared.pass.Pass.{Pass}
use Rattle.cookie_theorems.specs.Acts.{AreActed, AreTimely, IsActed, IsAnew, IsLoggedOut, IsOffVisit, IsOnVisit, StartsVisit, IsSavedIfNeeded, IsWritten, Leaves, time_of, visit_at}
use Rattle.cookie_theorems.specs.Line.{Came, IsOneLogin, IsTouched, OpensAsBefore}
use Rattle.cookie_theorems.specs.declared.act.Act.{Act}
use Rattle.cookie_theorems.specs.declared.act.Act.TheVariants.{Open, Renew, Restart, Write, Save, LogOut, Forget}
use Rattle.cookie_theorems.specs.declared.event.Event.{Event}
use Rattle.cookie_theorems.specs.declared.event.Event.TheVariants.{Replaced, Ended, Unsure, Gone, Nobody, Refused, Failed, Forgotten, Plain}
use Rattle.cookie_theorems.specs.declared.handling.Handling.{Handling}
use Rattle.cookie_theorems.specs.declared.site_request.SiteRequest.{SiteRequest}
use Rattle.cookie_session.specs.declared.sessions.Sessions.{Sessions}
use Rattle.cookie_theorems.proofs.HistoryLemmas.{AreSpentOnce, IsSpentIn, Set, Spends, once_more, one_login, spent_more}

-- ---- which events come of which acts

-- one that leaves what is revoked
abbrev IsQuiet : Event → Type 0
IsQuiet (Replaced from to) = ⊥
IsQuiet (Ended pass) = ⊥
IsQuiet (Unsure pass) = ⊥
IsQuiet (Gone pass) = ⊥
IsQuiet Nobody = Unit {0}
IsQuiet (Refused why) = Unit {0}
IsQuiet Failed = Unit {0}
IsQuiet Forgotten = ⊥
IsQuiet Plain = Unit {0}

-- one that forgets nothing
abbrev Keeps : Event → Type 0
Keeps (Replaced from to) = Unit {0}
Keeps (Ended pass) = Unit {0}
Keeps (Unsure pass) = Unit {0}
Keeps (Gone pass) = Unit {0}
Keeps Nobody = Unit {0}
Keeps (Refused why) = Unit {0}
Keeps Failed = Unit {0}
Keeps Forgotten = ⊥
Keeps Plain = Unit {0}

module _ (P : Event → Type 0) (plain : P Plain) (event : Event) where
  -- what holds of each event of an act on a visit holds of one on the visit at a place
  of_visit : (IsDone : VisitState → Event → VisitState → Type 0) → ((visit next : VisitState) → IsDone visit event next → P event)
      → (place : ℕ) (visits after : List (Option Handling)) → IsOnVisit place IsDone visits event after → P event
  of_visit IsDone of place visits after is = by (visit_at visits place) is
    where
      by : (found : Option Handling) → MatchOption found ((event ≡ Plain) × (after ≡ visits)) (λ handling. (next : Handling) × IsDone handling.visit event next.visit × (after ≡ set visits place (Some next))) → P event
      by None is = subst P (sym is.0) plain
      by (Some handling) is = of handling.visit is.0.visit is.1

  of_end : (IsDone : VisitState → Event → Type 0) → ((visit : VisitState) → IsDone visit event → P event)
      → (place : ℕ) (visits after : List (Option Handling)) → IsOffVisit place IsDone visits event after → P event
  of_end IsDone of place visits after is = by (visit_at visits place) is
    where
      by : (found : Option Handling) → MatchOption found ((event ≡ Plain) × (after ≡ visits)) (λ handling. IsDone handling.visit event × (after ≡ set visits place None)) → P event
      by None is = subst P (sym is.0) plain
      by (Some handling) is = of handling.visit is.0

module _ (E G : Type 0) (event : Event) where
  quiet_opened : (old : Set) (request : SiteRequest) (visits after : List (Option Handling)) → StartsVisit E G old request visits event after → IsQuiet event
  quiet_opened old request visits after (inl is) = subst IsQuiet (sym is.0) tt
  quiet_opened old request visits after (inr (inl is)) = subst IsQuiet (sym is.1) tt
  quiet_opened old request visits after (inr (inr is)) = subst IsQuiet (sym is.0) tt

  quiet_anew : (site : Sessions) (now : DateTime) (texts : FinMap name_cmp (List ℕ)) (visit next : VisitState) → IsAnew G site now texts visit event next → IsQuiet event
  quiet_anew site now texts visit next (inl is) = subst IsQuiet (sym is.0) tt
  quiet_anew site now texts visit next (inr is) = subst IsQuiet (sym is.1) tt

  quiet_written : (name text : List ℕ) (visit next : VisitState) → IsWritten name text visit event next → IsQuiet event
  quiet_written name text visit next (inl is) = subst IsQuiet (sym is.0) tt
  quiet_written name text visit next (inr is) = subst IsQuiet (sym is.0) tt

  pub quiet_renewed : (site : Sessions) (now : DateTime) (place : ℕ) (visits after : List (Option Handling))
      → IsOnVisit place (λ visit. IsAnew G site now visit.session.texts visit) visits event after → IsQuiet event
  quiet_renewed site now place visits after is =
      of_visit IsQuiet tt event (λ visit. IsAnew G site now visit.session.texts visit) (λ visit next. quiet_anew site now visit.session.texts visit next) place visits after is

  pub quiet_restarted : (site : Sessions) (now : DateTime) (place : ℕ) (visits after : List (Option Handling)) → IsOnVisit place (IsAnew G site now empty) visits event after → IsQuiet event
  quiet_restarted site now place visits after is = of_visit IsQuiet tt event (IsAnew G site now empty) (λ visit next. quiet_anew site now empty visit next) place visits after is

  pub quiet_changed : (name text : List ℕ) (place : ℕ) (visits after : List (Option Handling)) → IsOnVisit place (IsWritten name text) visits event after → IsQuiet event
  quiet_changed name text place visits after is = of_visit IsQuiet tt event (IsWritten name text) (λ visit next. quiet_written name text visit next) place visits after is

  keeps_saved : (site : Sessions) (now : DateTime) (visit next : VisitState) → IsSavedIfNeeded E G site now visit event next → Keeps event
  keeps_saved site now visit next (inl is) = subst Keeps (sym is.1) tt
  keeps_saved site now visit next (inr (must, inl is)) = subst Keeps (sym is.0) tt
  keeps_saved site now visit next (inr (must, inr (inl (from, replaces, inl is)))) = subst Keeps (sym is.0) tt
  keeps_saved site now visit next (inr (must, inr (inl (from, replaces, inr (inl is, stays))))) = subst Keeps (sym is) tt
  keeps_saved site now visit next (inr (must, inr (inl (from, replaces, inr (inr is, stays))))) = subst Keeps (sym is.0) tt
  keeps_saved site now visit next (inr (must, inr (inr is))) = subst Keeps (sym is.1) tt

  keeps_logged_out : (visit : VisitState) → IsLoggedOut E visit event → Keeps event
  keeps_logged_out visit (inl is) = subst Keeps (sym is.0) tt
  keeps_logged_out visit (inr (pass, given, inl (inl is))) = subst Keeps (sym is) tt
  keeps_logged_out visit (inr (pass, given, inl (inr is))) = subst Keeps (sym is) tt
  keeps_logged_out visit (inr (pass, given, inr (inl is))) = subst Keeps (sym is.0) tt
  keeps_logged_out visit (inr (pass, given, inr (inr is))) = subst Keeps (sym is) tt

-- it leaves what is revoked
pub quiet_leaves : (event : Event) (now : ℕ) (revoked : Set) → IsQuiet event → Leaves now event revoked revoked
quiet_leaves (Replaced from to) now revoked none = absurd none
quiet_leaves (Ended pass) now revoked none = absurd none
quiet_leaves (Unsure pass) now revoked none = absurd none
quiet_leaves (Gone pass) now revoked none = absurd none
quiet_leaves Nobody now revoked quiet = λ id second. ((λ there. there), (λ there. there))
quiet_leaves (Refused why) now revoked quiet = λ id second. ((λ there. there), (λ there. there))
quiet_leaves Failed now revoked quiet = λ id second. ((λ there. there), (λ there. there))
quiet_leaves Forgotten now revoked none = absurd none
quiet_leaves Plain now revoked quiet = λ id second. ((λ there. there), (λ there. there))

-- ---- the visit at a place

pub none_past : (visits : List (Option Handling)) (place : ℕ) → length visits ≤ place → visit_at visits place ≡ None
none_past visits place past = get_or-eq_default visits None past

module _ (visits : List (Option Handling)) (place : ℕ) where
  -- what is read there
  pub found_at : (item : Option Handling) → item ≡ get_or visits place item → place < length visits → visit_at visits place ≡ item
  found_at item is below = get_or_default visits place None item below ∙ sym is

  -- where there is none, taking it out changes nothing
  pub take_none : visit_at visits place ≡ None → set visits place None ≡ visits
  take_none none = ap (set visits place) (sym none) ∙ set-get_or visits place None

  -- a visit that was taken out and put back
  pub put_back : (between after : List (Option Handling)) (next : Handling) → between ≡ set visits place None → after ≡ set between place (Some next) → after ≡ set visits place (Some next)
  put_back between after next taken put = put ∙ (ap (λ (some : List (Option Handling)). set some place (Some next)) taken ∙ set-set visits place None (Some next))

  pub on_none : (IsDone : VisitState → Event → VisitState → Type 0) (after : List (Option Handling)) → visit_at visits place ≡ None → after ≡ visits → IsOnVisit place IsDone visits Plain after
  on_none IsDone after is same = subst (λ (found : Option Handling). MatchOption found ((Plain ≡ Plain) × (after ≡ visits)) (λ handling. (next : Handling) × IsDone handling.visit Plain next.visit × (after ≡ set visits place (Some next)))) (sym is) (refl, same)

  pub on_some : (IsDone : VisitState → Event → VisitState → Type 0) (handling next : Handling) (event : Event) (after : List (Option Handling)) → visit_at visits place ≡ Some handling
      → IsDone handling.visit event next.visit → after ≡ set visits place (Some next) → IsOnVisit place IsDone visits event after
  on_some IsDone handling next event after is done same = subst (λ (found : Option Handling). MatchOption found ((event ≡ Plain) × (after ≡ visits)) (λ one. (next : Handling) × IsDone one.visit event next.visit × (after ≡ set visits place (Some next)))) (sym is) (next, done, same)

  pub off_none : (IsDone : VisitState → Event → Type 0) (after : List (Option Handling)) → visit_at visits place ≡ None → after ≡ visits → IsOffVisit place IsDone visits Plain after
  off_none IsDone after is same = subst (λ (found : Option Handling). MatchOption found ((Plain ≡ Plain) × (after ≡ visits)) (λ handling. IsDone handling.visit Plain × (after ≡ set visits place None))) (sym is) (refl, same)

  pub off_some : (IsDone : VisitState → Event → Type 0) (handling : Handling) (event : Event) (after : List (Option Handling)) → visit_at visits place ≡ Some handling
      → IsDone handling.visit event → after ≡ set visits place None → IsOffVisit place IsDone visits event after
  off_some IsDone handling event after is done same = subst (λ (found : Option Handling). MatchOption found ((event ≡ Plain) × (after ≡ visits)) (λ one. IsDone one.visit event × (after ≡ set visits place None))) (sym is) (done, same)

-- ---- both of two facts on what was returned

pub both_ok : {T E : Type 0} (result : Result T E) (P Q : T → Type 0) → IfOk result P → IfOk result Q → IfOk result (λ value. P value × Q value)
both_ok (Ok value) P Q first second = (first, second)
both_ok (Err error) P Q first second = tt

-- ---- one event

-- the pass is revoked until its own end
abbrev pub IsRevokedToEnd : Set → Pass → Type 0
IsRevokedToEnd set pass = (second : ℕ) → second ≤ pass.end → set pass.id second

-- Up to `floor` was forgotten. What is spent was spent once, and is revoked until its own end, or over by then.
pub record IsSound (floor : ℕ) (set : Set) (events : List Event) : Type 0 where
  pub once : AreSpentOnce events
  pub revoked : (pass : Pass) → IsSpentIn events pass → floor < pass.end → IsRevokedToEnd set pass

sound_login : (floor : ℕ) (set : Set) (events : List Event) → IsSound floor set events → (now : ℕ) → floor ≤ now → IsOneLogin set now events
sound_login floor set events sound now after = one_login set now events sound.once
    (λ pass spent opens. opens.0 (sound.revoked pass spent (omega (arith, after, opens.1)) 0 (omega arith)))

-- the pass that an event spends, if it spends one
abbrev spent_by : Event → Pass → Pass
spent_by (Replaced from to) pass = from
spent_by (Ended other) pass = other
spent_by (Unsure other) pass = pass
spent_by (Gone other) pass = pass
spent_by Nobody pass = pass
spent_by (Refused why) pass = pass
spent_by Failed pass = pass
spent_by Forgotten pass = pass
spent_by Plain pass = pass

-- an event spends one pass
one_spent : (pass : Pass) (event : Event) → Spends pass event → pass ≡ spent_by event pass
one_spent pass event (inl (to, is)) = subst (λ e. pass ≡ spent_by e pass) (sym is) refl
one_spent pass event (inr is) = subst (λ e. pass ≡ spent_by e pass) (sym is) refl

-- one that spends a pass
abbrev IsSpender : Event → Type 0
IsSpender (Replaced from to) = Unit {0}
IsSpender (Ended pass) = Unit {0}
IsSpender (Unsure pass) = ⊥
IsSpender (Gone pass) = ⊥
IsSpender Nobody = ⊥
IsSpender (Refused why) = ⊥
IsSpender Failed = ⊥
IsSpender Forgotten = ⊥
IsSpender Plain = ⊥

spender : (pass : Pass) (event : Event) → Spends pass event → IsSpender event
spender pass event (inl (to, is)) = subst IsSpender (sym is) tt
spender pass event (inr is) = subst IsSpender (sym is) tt

module _ (floor : ℕ) (old new : Set) (events : List Event) (sound : IsSound floor old events) where
  -- an event that spends nothing, where what was revoked still is
  sound_more : (event : Event) → (¬ IsSpender event) → ((id : List ℕ) (second : ℕ) → old id second → new id second) → IsSound floor new (events ++ event ∷ [])
  sound_more event none more = record {
    once = once_more events event sound.once (λ pass spends. absurd (none (spender pass event spends)));
    revoked = λ pass spent early second within. elim (spent_more events event pass spent) [
      | inl before ↦ more pass.id second (sound.revoked pass before early second within)
      | inr last ↦ absurd (none (spender pass event last))
    ];
  }

  -- an event that spends this pass alone
  sound_spent : (event : Event) (spent : Pass) → ((pass : Pass) → Spends pass event → pass ≡ spent) → (now : ℕ) → floor ≤ now → IsSpent now spent old new → IsSound floor new (events ++ event ∷ [])
  sound_spent event spent only now after (early, fresh, too) = record {
    once = once_more events event sound.once (λ pass spends before.
        fresh (sound.revoked spent (subst (IsSpentIn events) (only pass spends) before) (omega (arith, after, early)) 0 (omega arith)));
    revoked = λ pass is early' second within. elim (spent_more events event pass is) [
      | inl before ↦ (too pass.id second).1 (inr (sound.revoked pass before early' second within))
      | inr last ↦
          let same = only pass last in
          (too pass.id second).1 (inl (ap (λ (p : Pass). p.id) same, subst (λ (p : Pass). second ≤ p.end) same within))
    ];
  }

  -- a quiet event, or in this second another one that forgets nothing
  sound_event : (event : Event) (now : ℕ) → (IsQuiet event ⊎ (Keeps event × (floor ≤ now))) → Leaves now event old new → IsSound floor new (events ++ event ∷ [])
  sound_event (Replaced from to) now (inl none) leaves = absurd none
  sound_event (Replaced from to) now (inr keeps) leaves = sound_spent (Replaced from to) from (λ pass spends. one_spent pass (Replaced from to) spends) now keeps.1 leaves
  sound_event (Ended pass) now (inl none) leaves = absurd none
  sound_event (Ended pass) now (inr keeps) leaves = sound_spent (Ended pass) pass (λ other spends. one_spent other (Ended pass) spends) now keeps.1 leaves
  sound_event (Unsure pass) now when leaves = sound_more (Unsure pass) (λ none. none) (λ id second before. elim leaves [
    | inl same ↦ (same id second).1 before
    | inr too ↦ (too id second).1 (inr before)
  ])
  sound_event (Gone pass) now when leaves = sound_more (Gone pass) (λ none. none) (λ id second before. elim leaves [
    | inl same ↦ (same.1 id second).1 before
    | inr too ↦ (too.1 id second).1 (inr before)
  ])
  sound_event Nobody now when leaves = sound_more Nobody (λ none. none) (λ id second. (leaves id second).1)
  sound_event (Refused why) now when leaves = sound_more (Refused why) (λ none. none) (λ id second. (leaves id second).1)
  sound_event Failed now when leaves = sound_more Failed (λ none. none) (λ id second. (leaves id second).1)
  sound_event Forgotten now (inl none) leaves = absurd none
  sound_event Forgotten now (inr keeps) leaves = absurd keeps.0
  sound_event Plain now when leaves = sound_more Plain (λ none. none) (λ id second. (leaves id second).1)

  -- a forgetting
  sound_forgotten : (event : Event) (now : ℕ) → ((event ≡ Forgotten) ⊎ (event ≡ Failed)) → Leaves now event old new → IsSound (max floor now) new (events ++ event ∷ [])
  sound_forgotten event now is leaves = record {
    once = once_more events event sound.once (λ pass spends. absurd (none (spender pass event spends)));
    revoked = λ pass spent early second within. elim (spent_more events event pass spent) [
      | inl before ↦
          let revoked = sound.revoked pass before (omega (arith, early)) in
          elim is [
            | inl forgotten ↦ (subst (λ e. Leaves now e old new) forgotten leaves pass.id second).1 (revoked (now + 1) (omega (arith, early)), revoked second within)
            | inr failed ↦ (subst (λ e. Leaves now e old new) failed leaves pass.id second).1 (revoked second within)
          ]
      | inr last ↦ absurd (none (spender pass event last))
    ];
  }
    where
      none : ¬ IsSpender event
      none spends = elim is [
        | inl forgotten ↦ subst IsSpender forgotten spends
        | inr failed ↦ subst IsSpender failed spends
      ]

-- ---- one act

-- an act that comes in time keeps it
sound_act : (E G : Type 0) (now floor : ℕ) (old new : Set) (events : List Event) → IsSound floor old events → (act : Act) (acts : List Act) → AreTimely floor (act ∷ acts) now
    → (visits after : List (Option Handling)) (event : Event) → IsActed E G act visits old event after new
    → (next : ℕ) × AreTimely next acts now × IsSound next new (events ++ event ∷ [])
sound_act E G now floor old new events sound (Open request) acts timely visits after event is =
    let quiet = quiet_opened E G event old request visits after is.comes in
    (floor, timely, sound_event floor old new events sound event _ (inl quiet) is.leaves)
sound_act E G now floor old new events sound (Renew place site time) acts timely visits after event is =
    let quiet = quiet_renewed E G event site time place visits after is.comes in
    (floor, timely, sound_event floor old new events sound event _ (inl quiet) is.leaves)
sound_act E G now floor old new events sound (Restart place site time) acts timely visits after event is =
    let quiet = quiet_restarted E G event site time place visits after is.comes in
    (floor, timely, sound_event floor old new events sound event _ (inl quiet) is.leaves)
sound_act E G now floor old new events sound (Write place name text) acts timely visits after event is =
    let quiet = quiet_changed E G event name.now text.now place visits after is.comes in
    (floor, timely, sound_event floor old new events sound event _ (inl quiet) is.leaves)
sound_act E G now floor old new events sound (Save place site time) acts timely visits after event is =
    let keeps = of_visit Keeps tt event (IsSavedIfNeeded E G site time) (λ visit next. keeps_saved E G event site time visit next) place visits after is.comes in
    (floor, timely.1, sound_event floor old new events sound event _ (inr (keeps, timely.0)) is.leaves)
sound_act E G now floor old new events sound (LogOut place site time) acts timely visits after event is =
    let keeps = of_end Keeps tt event (IsLoggedOut E) (λ visit. keeps_logged_out E G event visit) place visits after is.comes in
    (floor, timely.1, sound_event floor old new events sound event _ (inr (keeps, timely.0)) is.leaves)
sound_act E G now floor old new events sound (Forget time) acts timely visits after event is =
    (max floor time, timely, sound_forgotten floor old new events sound event time (elim is.comes.0 [ inl forgotten ↦ inl forgotten | inr failed ↦ inr failed.0 ]) is.leaves)

-- ---- everybody else

came_more : (events : List Event) (last event : Event) → Came events event → Came (events ++ last ∷ []) event
came_more [] last event none = absurd none
came_more (first ∷ events) last event (inl here) = inl here
came_more (first ∷ events) last event (inr later) = inr (came_more events last event later)

came_last : (events : List Event) (event : Event) → Came (events ++ event ∷ []) event
came_last [] event = inl refl
came_last (first ∷ events) event = inr (came_last events event)

touched_more : (events : List Event) (event : Event) (id : List ℕ) → IsTouched events id → IsTouched (events ++ event ∷ []) id
touched_more events event id (pass, same, inl (to, came)) = (pass, same, inl (to, came_more events event (Replaced pass to) came))
touched_more events event id (pass, same, inr (inl came)) = (pass, same, inr (inl (came_more events event (Ended pass) came)))
touched_more events event id (pass, same, inr (inr came)) = (pass, same, inr (inr (came_more events event (Unsure pass) came)))

-- whoever is revoked after an event was before, or was touched
others_event : (old new : Set) (now : ℕ) (events : List Event) (event : Event) (id : List ℕ) → Leaves now event old new → ¬ IsTouched (events ++ event ∷ []) id → IsRevoked new id → IsRevoked old id
others_event old new now events (Replaced from to) id leaves untouched there = elim ((leaves.2 id 0).0 there) [
  | inl here ↦ absurd (untouched (from, sym here.0, inl (to, came_last events (Replaced from to))))
  | inr before ↦ before
]
others_event old new now events (Ended pass) id leaves untouched there = elim ((leaves.2 id 0).0 there) [
  | inl here ↦ absurd (untouched (pass, sym here.0, inr (inl (came_last events (Ended pass)))))
  | inr before ↦ before
]
others_event old new now events (Unsure pass) id leaves untouched there = elim leaves [
  | inl same ↦ (same id 0).0 there
  | inr too ↦ elim ((too id 0).0 there) [
    | inl here ↦ absurd (untouched (pass, sym here.0, inr (inr (came_last events (Unsure pass)))))
    | inr before ↦ before
  ]
]
others_event old new now events (Gone pass) id leaves untouched there = elim leaves [
  | inl same ↦ (same.1 id 0).0 there
  | inr too ↦ elim ((too.1 id 0).0 there) [
    | inl here ↦ subst (IsRevoked old) (sym here.0) too.0
    | inr before ↦ before
  ]
]
others_event old new now events Nobody id leaves untouched there = (leaves id 0).0 there
others_event old new now events (Refused why) id leaves untouched there = (leaves id 0).0 there
others_event old new now events Failed id leaves untouched there = (leaves id 0).0 there
others_event old new now events Forgotten id leaves untouched there = ((leaves id 0).0 there).1
others_event old new now events Plain id leaves untouched there = (leaves id 0).0 there

-- ---- some acts

acted_more : (E G : Type 0) → {S : Type 0} → (set : S → Set) → (acts : List Act) (events : List Event) (first old new : List (Option Handling) × S) (act : Act) (event : Event)
    → AreActed E G set acts first events old → IsActed E G act old.0 (set old.1) event new.0 (set new.1) → AreActed E G set (acts ++ act ∷ []) first (events ++ event ∷ []) new
acted_more E G set [] [] first old new act event same is = (new, subst (λ (s : List (Option Handling) × _). IsActed E G act s.0 (set s.1) event new.0 (set new.1)) (sym same) is, refl)
acted_more E G set [] (e ∷ events) first old new act event none is = absurd none
acted_more E G set (a ∷ acts) [] first old new act event none is = absurd none
acted_more E G set (a ∷ acts) (e ∷ events) first old new act event (next, one, rest) is = (next, one, acted_more E G set acts events next old new act event rest is)

module _ (E G : Type 0) {S : Type 0} (set : S → Set) (acts : List Act) (start : S) where
  -- what holds after the first of these acts
  pub record Stands (done : ℕ) (visits : List (Option Handling)) (store : S) (events : List Event) : Type 0 where
    pub acted : AreActed E G set (take done acts) ([], start) events (visits, store)
    pub sound : (now : ℕ) → AreTimely 0 acts now → (floor : ℕ) × AreTimely floor (drop done acts) now × IsSound floor (set store) events
    pub others : (id : List ℕ) → (¬ IsTouched events id) → IsRevoked (set store) id → IsRevoked (set start) id

  pub stands_first : Stands 0 [] start []
  stands_first = record {
    acted = refl;
    sound = λ now timely. (0, timely, record { once = tt; revoked = λ pass none. absurd none });
    others = λ id untouched there. there;
  }

  module _ (done : ℕ) (visits after : List (Option Handling)) (old new : S) (events : List Event) (before : Stands done visits old events)
      (act : Act) (event : Event) (below : done < length acts) (at : act ≡ get_or acts done act) (is : IsActed E G act visits (set old) event after (set new)) where
    left : drop done acts ≡ act ∷ drop (done + 1) acts
    left = drop_more acts done act below ∙ ap (λ a. a ∷ drop (done + 1) acts) (sym at)

    made : take (done + 1) acts ≡ take done acts ++ act ∷ []
    made = take_more acts done act below ∙ ap (λ a. take done acts ++ a ∷ []) (sym at)

    pub stands_more : Stands (done + 1) after new (events ++ event ∷ [])
    stands_more = record {
      acted = subst (λ some. AreActed E G set some ([], start) (events ++ event ∷ []) (after, new)) (sym made)
          (acted_more E G set (take done acts) events ([], start) (visits, old) (after, new) act event before.acted is);
      sound = λ now timely.
          let (floor, rest, sound) = before.sound now timely in
          sound_act E G now floor (set old) (set new) events sound act (drop (done + 1) acts) (subst (λ left. AreTimely floor left now) left rest) visits after event is;
      others = λ id untouched there.
          before.others id (λ touched. untouched (touched_more events event id touched))
          (others_event (set old) (set new) (time_of act) events event id is.leaves untouched there);
    }

  module _ (done : ℕ) (visits : List (Option Handling)) (store : S) (events : List Event) (stands : Stands done visits store events) where
    pub stands_login : drop done acts ≡ [] → (now : ℕ) → AreTimely 0 acts now → IsOneLogin (set store) now events
    stands_login end now timely =
        let (floor, rest, sound) = stands.sound now timely in
        sound_login floor (set store) events sound now (subst (λ left. AreTimely floor left now) end rest)

    pub stands_others : OpensAsBefore events (set start) (set store)
    stands_others site cookie now place session untouched opens = (opens.0, λ there. opens.1 (stands.others session.id untouched there))
