-- Events of which each pass is spent by one at most.
use Rattle.std.proofs.Common.{◌≡◌, ◌⊎◌, inl, inr, ◌<◌, ℕ, List, [], ◌∷◌, ◌++◌, refl, sym, ap, subst, ◌∙◌, arith}
use Rattle.cookie_session.specs.Revocations.{IsRevoked}
use Rattle.cookie_session.specs.declared.pass.Pass.{Pass}
use Rattle.cookie_theorems.specs.Line.{AreOfOneLine, Came, Follows, IsOneLogin, IsOpenable, IsPath}
use Rattle.cookie_theorems.specs.declared.event.Event.{Event}
use Rattle.cookie_theorems.specs.declared.event.Event.TheVariants.{Replaced, Ended, Unsure, Gone, Nobody, Refused, Failed, Forgotten, Plain}

abbrev pub Set : Type 1
Set = List ℕ → ℕ → Type 0

-- ---- spent passes

-- the event revoked the pass, for good
abbrev pub Spends : Pass → Event → Type 0
Spends pass event = ((to : Pass) × (event ≡ Replaced pass to)) ⊎ (event ≡ Ended pass)

abbrev pub IsSpentIn : List Event → Pass → Type 0
IsSpentIn [] pass = ⊥
IsSpentIn (event ∷ events) pass = Spends pass event ⊎ IsSpentIn events pass

-- what an event spends no later event spends
abbrev pub AreSpentOnce : List Event → Type 0
AreSpentOnce [] = Unit {0}
AreSpentOnce (event ∷ events) = ((pass : Pass) → Spends pass event → ¬ IsSpentIn events pass) × AreSpentOnce events

pub spent_more : (events : List Event) (event : Event) (pass : Pass) → IsSpentIn (events ++ event ∷ []) pass → IsSpentIn events pass ⊎ Spends pass event
spent_more [] event pass (inl here) = inr here
spent_more [] event pass (inr none) = absurd none
spent_more (first ∷ events) event pass (inl here) = inl (inl here)
spent_more (first ∷ events) event pass (inr later) = elim (spent_more events event pass later) [ inl before ↦ inl (inr before) | inr last ↦ inr last ]

pub once_more : (events : List Event) (event : Event) → AreSpentOnce events → ((pass : Pass) → Spends pass event → ¬ IsSpentIn events pass) → AreSpentOnce (events ++ event ∷ [])
once_more [] event once fresh = (λ pass spends none. none, tt)
once_more (first ∷ events) event once fresh = (
  λ pass spends later. elim (spent_more events event pass later) [
    | inl before ↦ once.0 pass spends before
    | inr last ↦ fresh pass last (inl spends)
  ],
  once_more events event once.1 (λ pass spends before. fresh pass spends (inr before)),
)

spent_of_follows : (events : List Event) (old new : Pass) → Follows events old new → IsSpentIn events old
spent_of_follows [] old new none = absurd none
spent_of_follows (first ∷ events) old new (inl here) = inl (inl (new, sym here))
spent_of_follows (first ∷ events) old new (inr later) = inr (spent_of_follows events old new later)

spent_of_ended : (events : List Event) (pass : Pass) → Came events (Ended pass) → IsSpentIn events pass
spent_of_ended [] pass none = absurd none
spent_of_ended (first ∷ events) pass (inl here) = inl (inr (sym here))
spent_of_ended (first ∷ events) pass (inr later) = inr (spent_of_ended events pass later)

-- the pass that an event gave out, if it gave one out in place of another
abbrev given_out : Pass → Event → Pass
given_out pass (Replaced from to) = to
given_out pass (Ended other) = pass
given_out pass (Unsure other) = pass
given_out pass (Gone other) = pass
given_out pass Nobody = pass
given_out pass (Refused why) = pass
given_out pass Failed = pass
given_out pass Forgotten = pass
given_out pass Plain = pass

same_given_out : (old first other : Pass) → Replaced old first ≡ Replaced old other → first ≡ other
same_given_out old first other same = ap (given_out old) same

-- an event that ended a login
abbrev IsEnding : Event → Type 0
IsEnding (Replaced from to) = ⊥
IsEnding (Ended pass) = Unit {0}
IsEnding (Unsure pass) = ⊥
IsEnding (Gone pass) = ⊥
IsEnding Nobody = ⊥
IsEnding (Refused why) = ⊥
IsEnding Failed = ⊥
IsEnding Forgotten = ⊥
IsEnding Plain = ⊥

ended_not_replaced : (pass from to : Pass) → ¬ (Ended pass ≡ Replaced from to)
ended_not_replaced pass from to same = subst IsEnding same tt

-- a pass is replaced by one pass at most
one_next : (events : List Event) → AreSpentOnce events → (old first other : Pass) → Follows events old first → Follows events old other → first ≡ other
one_next [] once old first other none also = absurd none
one_next (e ∷ events) once old first other (inl here) (inl also) = same_given_out old first other (here ∙ sym also)
one_next (e ∷ events) once old first other (inl here) (inr also) = absurd (once.0 old (inl (first, sym here)) (spent_of_follows events old other also))
one_next (e ∷ events) once old first other (inr follows) (inl also) = absurd (once.0 old (inl (other, sym also)) (spent_of_follows events old first follows))
one_next (e ∷ events) once old first other (inr follows) (inr also) = one_next events once.1 old first other follows also

-- an ended pass by none
ended_is_last : (events : List Event) → AreSpentOnce events → (pass next : Pass) → Came events (Ended pass) → ¬ Follows events pass next
ended_is_last [] once pass next none follows = absurd none
ended_is_last (e ∷ events) once pass next (inl here) (inl follows) = ended_not_replaced pass pass next (here ∙ sym follows)
ended_is_last (e ∷ events) once pass next (inl here) (inr follows) = once.0 pass (inr (sym here)) (spent_of_follows events pass next follows)
ended_is_last (e ∷ events) once pass next (inr ended) (inl follows) = once.0 pass (inl (next, sym follows)) (spent_of_ended events pass ended)
ended_is_last (e ∷ events) once pass next (inr ended) (inr follows) = ended_is_last events once.1 pass next ended follows

-- ---- a line leads to its last pass

abbrev IsChain : List Event → Pass → List Pass → Pass → Type 0
IsChain events first [] last = first ≡ last
IsChain events first (next ∷ chain) last = Follows events first next × IsChain events next chain last

module _ (events : List Event) (once : AreSpentOnce events) (last : Pass) (is_last : (next : Pass) → ¬ Follows events last next) where
  chain_on : (first next : Pass) → Follows events first next → (chain : List Pass) → IsChain events first chain last → (rest : List Pass) × IsChain events next rest last
  chain_on first next follows [] is = absurd (is_last next (subst (λ pass. Follows events pass next) is follows))
  chain_on first next follows (second ∷ chain) is = (chain, subst (λ pass. IsChain events pass chain last) (one_next events once first second next is.0 follows) is.1)

  leads : (first other : Pass) (chain : List Pass) → IsChain events first chain last → (path : List Pass) → IsPath events first path other → (rest : List Pass) × IsChain events other rest last
  leads first other chain is [] path = (chain, subst (λ pass. IsChain events pass chain last) path is)
  leads first other chain is (next ∷ path) way = elim way.0 [
    | inl follows ↦
        let (rest, rest_is) = chain_on first next follows chain is in
        leads next other rest rest_is path way.1
    | inr follows ↦ leads next other (first ∷ chain) (follows, is) path way.1
  ]

  -- each pass of its line is it, or is spent
  last_or_spent : (other : Pass) → AreOfOneLine events last other → (other ≡ last) ⊎ IsSpentIn events other
  last_or_spent other (path, way) = by (leads last other [] refl path way)
    where
      by : ((rest : List Pass) × IsChain events other rest last) → (other ≡ last) ⊎ IsSpentIn events other
      by ([], is) = inl is
      by (next ∷ rest, is) = inr (spent_of_follows events other next is.0)

-- ---- so if what is spent opens no more, a login is one line

-- copies of a session with this pass may open in this second
abbrev pub Opens : Set → ℕ → Pass → Type 0
Opens set now pass = (¬ IsRevoked set pass.id) × (now < pass.end)

-- what a request opens isn't revoked, and its own end hasn't come
opens_of : (set : Set) (now : ℕ) (pass : Pass) → IsOpenable set now pass → Opens set now pass
opens_of set now pass (request, later, place, session, opens, same) =
    subst (Opens set now) same (opens.unrevoked, omega (arith, later, opens.opens.lives.own))

pub one_login : (set : Set) (now : ℕ) (events : List Event) → AreSpentOnce events → ((pass : Pass) → IsSpentIn events pass → ¬ Opens set now pass) → IsOneLogin set now events
one_login set now events once shut = record {
  one = λ first other line opens also.
      elim (last_or_spent events once first (λ next follows. shut first (spent_of_follows events first next follows) (opens_of set now first opens)) other line) [
        | inl same ↦ sym same
        | inr spent ↦ absurd (shut other spent (opens_of set now other also))
      ];
  ended = λ pass other ended line also.
      elim (last_or_spent events once pass (λ next. ended_is_last events once pass next ended) other line) [
        | inl same ↦ shut other (subst (IsSpentIn events) (sym same) (spent_of_ended events pass ended)) (opens_of set now other also)
        | inr spent ↦ shut other spent (opens_of set now other also)
      ];
}
