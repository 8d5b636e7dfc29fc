-- What holds of a call as it is handed in holds of the change that it makes, and of what that puts into the delta.
use Rattle.std.proofs.Common.{◌≡◌, Bool, true, false, inl, inr, List, [], ◌∷◌, Result, Ok, Err, OnOk, is_ok, refl, sym, ◌∙◌, All}
use Rattle.std.proofs.lemmas.Bool.{false≢true}
use Rattle.std.specs.List.{AllZip}
use Rattle.std.proofs.lemmas.List.Elements.{All-nil, All-cons, All-map, All-weaker}
use Rattle.jiff.specs.Types.{DateTime}
use Rattle.cookie.specs.History.{after_all, accepted_items}
use Rattle.cookie.specs.Jar.{JarState, Change, AddOriginal, Add, Remove, ForceRemove, ResetDelta}
use Rattle.cookie.specs.Keys.{encryption_half, signing_half}
use Rattle.cookie_client.specs.Calls.{Handling, asked_of, change_of, changes_of, handling_of, stored_by, IsFit, IsFitCall, IsKnownChange, IsOutcome}
use Rattle.cookie_client.specs.declared.call.JarCall.{JarCall}
use Rattle.cookie_client.specs.declared.call.JarCall.TheVariants as calls
use Rattle.cookie_client.proofs.EntryLemmas.{AreEntries, Puts, AreEntries-after_all}
use Rattle.cookie_client.proofs.FitLemmas.{IsCookie-removal, IsFitEntry}
use Rattle.cookie_client.proofs.StoredLemmas.{IsStoring, IsStoring-same, IsStoring-prefixed, IsStoring-signed, IsStoring-sealed}
use Rattle.cookie_client.proofs.ReadTextLemmas.{IsKept}

-- ---- calls and their changes

-- a jar stores a cookie as a cookie, and a fit one as a fit one
record IsFaithful (handling : Handling) : Type 0 where
  added : IsStoring handling.stored
  removed : IsStoring handling.dropped

faithful : (call : JarCall) → IsFaithful (handling_of call)
faithful (calls.Prefixed kind call) = record { added = IsStoring-prefixed kind; removed = IsStoring-prefixed kind }
faithful (calls.Signed key call) = record { added = IsStoring-signed (signing_half key.now); removed = IsStoring-same }
faithful (calls.Private key nonce call) = record { added = IsStoring-sealed (encryption_half key.now) nonce; removed = IsStoring-same }
faithful call = record { added = IsStoring-same; removed = IsStoring-same }

known_stored : (handling : Handling) → IsFaithful handling → (change : Change) → IsKnownChange change → IsKnownChange (stored_by handling change)
known_stored handling is (AddOriginal cookie) known = is.added.cookie cookie known
known_stored handling is (Add cookie) known = is.added.cookie cookie known
known_stored handling is (Remove cookie moment) known = is.removed.cookie cookie known
known_stored handling is (ForceRemove name) known = tt
known_stored handling is ResetDelta known = tt

fit_stored : (handling : Handling) → IsFaithful handling → (now : DateTime) (change : Change) → IsFit now change → IsFit now (stored_by handling change)
fit_stored handling is now (AddOriginal cookie) fit = is.added.named cookie fit
fit_stored handling is now (Add cookie) fit = is.added.fit now cookie fit
fit_stored handling is now (Remove cookie moment) fit = is.removed.named cookie fit
fit_stored handling is now (ForceRemove name) fit = tt
fit_stored handling is now ResetDelta fit = tt

-- what holds of a call as it is handed in holds of the change that it makes
pub known_change : (call : JarCall) → IsKnownChange (asked_of call) → IsKnownChange (change_of call)
known_change call known = known_stored (handling_of call) (faithful call) (asked_of call) known

fit_change : (now : DateTime) (call : JarCall) → IsFitCall now call → IsFit now (change_of call)
fit_change now call fit = fit_stored (handling_of call) (faithful call) now (asked_of call) fit

-- a call that was accepted
pub known_accepted : {T E : Type 0} (call : JarCall) (r : Result T E) (outcome : Bool) → outcome ≡ is_ok r → OnOk r (IsKnownChange (asked_of call)) → outcome ≡ true
    → IsKnownChange (change_of call)
known_accepted call (Ok value) outcome is known accepted = known_change call known
known_accepted call (Err error) outcome is known accepted = absurd (false≢true (sym is ∙ accepted))

-- the changes of the accepted calls
pub known_changes : (outcomes : List Bool) (cs : List JarCall) → AllZip IsOutcome cs outcomes → All IsKnownChange (changes_of outcomes cs)
known_changes [] cs told = All-nil IsKnownChange
known_changes (outcome ∷ outcomes) [] told = All-nil IsKnownChange
known_changes (true ∷ outcomes) (call ∷ cs) told =
    All-cons IsKnownChange (change_of call) (changes_of outcomes cs) (told.0.known refl) (known_changes outcomes cs told.1)
known_changes (false ∷ outcomes) (call ∷ cs) told = known_changes outcomes cs told.1

-- what is fit as it was handed in is fit as it is stored
pub fit_changes : (now : DateTime) (outcomes : List Bool) (cs : List JarCall) → All (IsFitCall now) (accepted_items outcomes cs) → All (IsFit now) (changes_of outcomes cs)
fit_changes now outcomes cs all =
    All-map (IsFit now) change_of (accepted_items outcomes cs) (All-weaker (IsFitCall now) (λ call. IsFit now (change_of call)) (fit_change now) (accepted_items outcomes cs) all)

-- ---- what changes put into the delta

puts_kept : (change : Change) → IsKnownChange change → Puts IsKept change
puts_kept (AddOriginal cookie) known = tt
puts_kept (Add cookie) known = record { cookie = known; name = refl }
puts_kept (Remove cookie moment) known = record { cookie = IsCookie-removal moment cookie known; name = refl }
puts_kept (ForceRemove name) known = tt
puts_kept ResetDelta known = tt

puts_fit : (now : DateTime) (change : Change) → IsKnownChange change × IsFit now change → Puts (IsFitEntry now) change
puts_fit now (AddOriginal cookie) h = tt
puts_fit now (Add cookie) h = inl (record { kept = refl; cookie = h.0; fit = h.1 })
puts_fit now (Remove cookie moment) h =
    inr (record { removed = refl; cookie = cookie; moment = moment; named = record { cookie = h.0; name = h.1 }; is = refl })
puts_fit now (ForceRemove name) h = tt
puts_fit now ResetDelta h = tt

All-both : {X : Type 0} (P Q : X → Type 0) (xs : List X) → All P xs → All Q xs → All (λ x. P x × Q x) xs
All-both P Q xs all also k d within = (all k d within, also k d within)

pub are_kept : (changes : List Change) → All IsKnownChange changes → (jar : JarState) → AreEntries IsKept jar.delta → AreEntries IsKept (after_all changes jar).delta
are_kept changes known jar before = AreEntries-after_all IsKept changes jar (All-weaker IsKnownChange (Puts IsKept) puts_kept changes known) before

pub are_fit : (now : DateTime) (changes : List Change) → All IsKnownChange changes → All (IsFit now) changes → (jar : JarState) → AreEntries (IsFitEntry now) jar.delta
    → AreEntries (IsFitEntry now) (after_all changes jar).delta
are_fit now changes known fits jar before =
    AreEntries-after_all (IsFitEntry now) changes jar
    (All-weaker (λ change. IsKnownChange change × IsFit now change) (Puts (IsFitEntry now)) (puts_fit now) changes (All-both IsKnownChange (IsFit now) changes known fits)) before
