-- The client of calls agrees with their jar.
use Rattle.std.proofs.Common.{◌≡◌, ℕ, Bool, true, false, cond, ◌||◌, ⊎_elim, List, [], ◌∷◌, reverse, refl, sym, ap, subst, ◌∙◌, All, Option, Some, None}
use mathlib.Core.List.{reverse_aux}
use mathlib.Core.Logic.{◌≢◌}
use Rattle.std.proofs.lemmas.Bool.{or_parts}
use Rattle.std.proofs.lemmas.List.Elements.{All-nil, All-cons, All-head, All-tail}
use Rattle.std.proofs.lemmas.Option.{none-some}
use Rattle.std.specs.FinMap.{FinMap, empty, get, insert, get-empty}
use Rattle.std.specs.List.{list_any}
use Rattle.std.specs.Str.{bytes_eq}
use Rattle.jiff.specs.Types.{DateTime}
use Rattle.cookie.specs.History.{after_all, original_by, forces, last_original, is_forced, originals_of}
use Rattle.cookie.specs.Jar.{Name, name_cmp, Marked, JarState, empty_jar, Change, AddOriginal, Add, Remove, ForceRemove, ResetDelta, after, overlay}
use Rattle.cookie.specs.Record.{Record}
use Rattle.cookie.proofs.HistoryLemmas.{looks_back}
use Rattle.cookie.proofs.NameLemmas.{get_inserted, get_removed}
use Rattle.cookie.proofs.OutcomeLemmas.{nameless_outcome}
use Rattle.cookie.specs.DeltaTexts.{AreDeltaTexts}
use Rattle.cookie_client.specs.Agreement.{Agrees, HoldsOriginals, alters_original, value_of}
use Rattle.cookie_client.specs.Calls.{IsFit, IsKnownChange}
use Rattle.cookie_client.specs.Client.{Values, after_texts}
use Rattle.cookie_client.specs.Originals.{holding, holds_originals}
use Rattle.cookie_client.proofs.ChangeLemmas.{are_kept, are_fit}
use Rattle.cookie_client.proofs.EntryLemmas.{AreEntries, AreEntries-empty, chosen}
use Rattle.cookie_client.proofs.FitLemmas.{IsFitEntry, decided_fit}
use Rattle.cookie_client.proofs.ReadTextLemmas.{IsKept, effect, decided, read_at, same_client}

-- ---- what the client held

pub some_value : (b : Bool) (cookie : Record) (o : Option Record) → cond b (Some cookie.value) (value_of o) ≡ value_of (cond b (Some cookie) o)
some_value true cookie o = refl
some_value false cookie o = refl

held_at : (name : Name) (changes earlier : List Change) (values : Values) → get values name ≡ value_of (last_original name earlier)
    → get (holding (originals_of changes) values) name ≡ value_of (last_original name (reverse_aux changes earlier))
held_at name [] earlier values e = e
held_at name (AddOriginal cookie ∷ changes) earlier values e =
    held_at name changes (AddOriginal cookie ∷ earlier) (insert values cookie.name cookie.value)
    (get_inserted values cookie.name cookie.value name ∙ ap (cond (bytes_eq name cookie.name) (Some cookie.value)) e
    ∙ some_value (bytes_eq name cookie.name) cookie (last_original name earlier))
held_at name (Add cookie ∷ changes) earlier values e = held_at name changes (Add cookie ∷ earlier) values e
held_at name (Remove cookie now ∷ changes) earlier values e = held_at name changes (Remove cookie now ∷ earlier) values e
held_at name (ForceRemove forced ∷ changes) earlier values e = held_at name changes (ForceRemove forced ∷ earlier) values e
held_at name (ResetDelta ∷ changes) earlier values e = held_at name changes (ResetDelta ∷ earlier) values e

-- an original that the jar has is the last one
last_of_kept : (name : Name) (history : List Change) (cookie : Record) → original_by name history ≡ Some cookie → last_original name history ≡ Some cookie
last_of_kept name [] cookie e = e
last_of_kept name (AddOriginal c ∷ earlier) cookie e = by (last_of_kept name earlier cookie) (bytes_eq name c.name) e
  where
    by : (original_by name earlier ≡ Some cookie → last_original name earlier ≡ Some cookie) → (b : Bool)
        → cond b (Some c) (original_by name earlier) ≡ Some cookie → cond b (Some c) (last_original name earlier) ≡ Some cookie
    by more true h = h
    by more false h = more h
last_of_kept name (Add c ∷ earlier) cookie e = last_of_kept name earlier cookie e
last_of_kept name (Remove c now ∷ earlier) cookie e = last_of_kept name earlier cookie e
last_of_kept name (ForceRemove forced ∷ earlier) cookie e =
    ⊎_elim (λ h. absurd (none-some cookie h.1)) (λ h. last_of_kept name earlier cookie h.1) (chosen (bytes_eq name forced) None (original_by name earlier) (Some cookie) e)
last_of_kept name (ResetDelta ∷ earlier) cookie e = last_of_kept name earlier cookie e

-- the last original is the one that the jar has, where the name was not removed by force
last_unforced : (name : Name) (history : List Change) → is_forced name history ≡ false → last_original name history ≡ original_by name history
last_unforced name [] unforced = refl
last_unforced name (AddOriginal c ∷ earlier) unforced = ap (cond (bytes_eq name c.name) (Some c)) (last_unforced name earlier unforced)
last_unforced name (Add c ∷ earlier) unforced = last_unforced name earlier unforced
last_unforced name (Remove c now ∷ earlier) unforced = last_unforced name earlier unforced
last_unforced name (ForceRemove forced ∷ earlier) unforced =
    let parts = or_parts (bytes_eq name forced) (is_forced name earlier) unforced in
    last_unforced name earlier parts.1 ∙ sym (ap (λ b. cond b None (original_by name earlier)) parts.0)
last_unforced name (ResetDelta ∷ earlier) unforced = last_unforced name earlier unforced

-- ---- the empty name

another_name : (name : Name) → name ≢ [] → bytes_eq [] name ≡ false
another_name [] some = absurd (some refl)
another_name (b ∷ bs) some = refl

-- the cookie has a name
abbrev pub HasName : Record → Type 0
HasName cookie = cookie.name ≢ []

-- cookies with names leave the empty name as it was
pub held_unnamed : (cookies : List Record) (values : Values) → All HasName cookies → get (holding cookies values) [] ≡ get values []
held_unnamed [] values named = refl
held_unnamed (cookie ∷ cookies) values named =
    held_unnamed cookies (insert values cookie.name cookie.value) (All-tail HasName cookie cookies named)
    ∙ get_inserted values cookie.name cookie.value []
    ∙ ap (λ b. cond b (Some cookie.value) (get values [])) (another_name cookie.name (All-head HasName cookie cookies named))

-- fit originals have names
originals_named : (now : DateTime) (changes : List Change) → All (IsFit now) changes → All HasName (originals_of changes)
originals_named now [] fits = All-nil HasName
originals_named now (AddOriginal cookie ∷ changes) fits =
    All-cons HasName cookie (originals_of changes) (All-head (IsFit now) (AddOriginal cookie) changes fits)
    (originals_named now changes (All-tail (IsFit now) (AddOriginal cookie) changes fits))
originals_named now (Add cookie ∷ changes) fits = originals_named now changes (All-tail (IsFit now) (Add cookie) changes fits)
originals_named now (Remove cookie moment ∷ changes) fits = originals_named now changes (All-tail (IsFit now) (Remove cookie moment) changes fits)
originals_named now (ForceRemove name ∷ changes) fits = originals_named now changes (All-tail (IsFit now) (ForceRemove name) changes fits)
originals_named now (ResetDelta ∷ changes) fits = originals_named now changes (All-tail (IsFit now) ResetDelta changes fits)

-- a text of the delta leaves the empty name as it was
pub decided_unnamed : (now : DateTime) (delta : FinMap name_cmp Marked) → AreEntries IsKept delta → (o : Option Marked) → get delta [] ≡ o → (before : Option (List ℕ)) → decided now o before ≡ before
decided_unnamed now delta kept None e before = refl
decided_unnamed now delta kept (Some entry) e before = ap (λ o. effect now o before) (nameless_outcome entry.cookie (kept [] entry e).name)

-- ---- names that are removed by force

unforced_first : (name : Name) (change : Change) (changes : List Change) → forces name change ≡ false → is_forced name changes ≡ false → is_forced name (change ∷ changes) ≡ false
unforced_first name change changes e f = ap (λ b. b || is_forced name changes) e ∙ f

unforced_back : (name : Name) (changes earlier : List Change) → is_forced name changes ≡ false → is_forced name earlier ≡ false → is_forced name (reverse_aux changes earlier) ≡ false
unforced_back name [] earlier front back = back
unforced_back name (change ∷ changes) earlier front back =
    let parts = or_parts (forces name change) (is_forced name changes) front in
    unforced_back name changes (change ∷ earlier) parts.1 (unforced_first name change earlier parts.0 back)

-- ---- what a client holds that was told of each original

pub holds_each : (now : DateTime) (changes : List Change) (jar : JarState) → jar ≡ after_all changes empty_jar → HoldsOriginals now changes jar
holds_each now changes jar is =
    let last : (name : Name) → get (holds_originals changes) name ≡ value_of (last_original name (reverse changes)) =
    λ name. held_at name changes [] empty (get-empty name_cmp name) in
    let original : (name : Name) → get jar.originals name ≡ original_by name (reverse changes) =
    λ name. ap (λ (j : JarState). get j.originals name) is ∙ (looks_back changes).originals name in
    record {
      last = last;
      unforced = λ name unforced. last name ∙ ap value_of (last_unforced name (reverse changes) (unforced_back name changes [] unforced refl) ∙ sym (original name));
      standing = λ name cookie e. last name ∙ ap value_of (last_of_kept name (reverse changes) cookie (sym (original name) ∙ e) ∙ sym e);
      named = λ fits. held_unnamed (originals_of changes) empty (originals_named now changes fits) ∙ get-empty name_cmp [];
    }

-- ---- originals that no change alters

kept_original : (name : Name) (change : Change) (jar : JarState) → alters_original name change ≡ false → get (after change jar).originals name ≡ get jar.originals name
kept_original name (AddOriginal cookie) jar e = get_inserted jar.originals cookie.name cookie name ∙ ap (λ b. cond b (Some cookie) (get jar.originals name)) e
kept_original name (Add cookie) jar e = refl
kept_original name (Remove cookie now) jar e = refl
kept_original name (ForceRemove forced) jar e = get_removed jar.originals forced name ∙ ap (λ b. cond b None (get jar.originals name)) e
kept_original name ResetDelta jar e = refl

pub kept_originals : (name : Name) (changes : List Change) (jar : JarState) → list_any (alters_original name) changes ≡ false
    → get (after_all changes jar).originals name ≡ get jar.originals name
kept_originals name [] jar e = refl
kept_originals name (change ∷ changes) jar e =
    let parts = or_parts (alters_original name change) (list_any (alters_original name) changes) e in
    kept_originals name changes (after change jar) parts.1 ∙ kept_original name change jar parts.0

-- ---- the theorem

-- what a fit entry makes of what the client held is what the jar shows
shown : (now : DateTime) (name : Name) (d : Option Marked) (o : Option Record) (held : Option (List ℕ)) → ((entry : Marked) → d ≡ Some entry → IsFitEntry now name entry)
    → (d ≡ None → held ≡ value_of o) → decided now d held ≡ value_of (overlay d o)
shown now name None o held fit same = same refl
shown now name (Some entry) o held fit same = decided_fit now name entry (fit entry refl) held ∙ by entry.removed
  where
    by : (b : Bool) → cond b None (Some entry.cookie.value) ≡ value_of (cond b None (Some entry.cookie))
    by true = refl
    by false = refl

-- the client that read the texts of the delta which the changes left, of a jar without changes before
pub agreement : (now : DateTime) (changes : List Change) → All IsKnownChange changes → (start jar : JarState) → start.delta ≡ empty → jar ≡ after_all changes start
    → (before client : Values) (texts : List (List ℕ)) → AreDeltaTexts jar.delta texts → client ≡ after_texts now texts before → Agrees now before changes jar client
agreement now changes known start jar fresh is before client texts are read =
    let none : (R : Name → Marked → Type 0) → AreEntries R start.delta = λ R. subst (AreEntries R) (sym fresh) (AreEntries-empty R) in
    let kept : AreEntries IsKept jar.delta = subst (λ (j : JarState). AreEntries IsKept j.delta) (sym is) (are_kept changes known start (none IsKept)) in
    let at : (name : Name) → get client name ≡ decided now (get jar.delta name) (get before name) =
    λ name. ap (λ v. get v name) read ∙ read_at now jar.delta kept texts are before name in
    record {
      in_any_order = λ others also. read ∙ same_client now jar.delta kept texts others are also before;
      agrees = λ fits name held.
          let fit : AreEntries (IsFitEntry now) jar.delta =
          subst (λ (j : JarState). AreEntries (IsFitEntry now) j.delta) (sym is) (are_fit now changes known fits start (none (IsFitEntry now))) in
          at name ∙ shown now name (get jar.delta name) (get jar.originals name) (get before name) (fit name) held;
      left = λ name absent. at name ∙ ap (λ d. decided now d (get before name)) absent;
      named = λ unnamed. at [] ∙ decided_unnamed now jar.delta kept (get jar.delta []) refl (get before []) ∙ unnamed;
    }
