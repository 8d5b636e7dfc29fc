-- The entries of a finite map of names, in byte order, and the texts of a delta in that order.
use Rattle.std.proofs.Common.{◌≡◌, ℕ, suc, Bool, true, false, cond, T, List, [], ◌∷◌, map, All, Contains, Some, None, inl, inr, ◌⊎◌, refl, sym, ap, subst, ◌∙◌, arith}
use Rattle.std.proofs.lemmas.Bool.{and_parts}
use Rattle.std.proofs.lemmas.List.Elements.{All-nil, All-cons}
use Rattle.std.proofs.lemmas.Option.{none-some, same_Some}
use Rattle.std.proofs.lemmas.Slice.Eq.{bytes_eq-Decides}
use Rattle.std.specs.Cmp.Lexicographic.{texts_ties}
use Rattle.std.specs.FinMap.{FinMap, entries, find, get, get-entries, entries_sorted, is_sorted}
use Rattle.std.specs.FinMap.Entries.{below_all}
use Rattle.std.specs.Ordering.{eq_by_cmp, is_lt, is_eq}
use Rattle.std.specs.declared.cmp.Ordering.{Ordering}
use Rattle.std.specs.declared.cmp.Ordering.TheVariants.{Less, Equal, Greater}
use Rattle.cookie.specs.Jar.{JarState, Marked, Name, name_cmp}
use Rattle.cookie.specs.Text.{cookie_text}
use Rattle.cookie.specs.DeltaTexts.{AreDeltaTexts, IsDeltaText}
use Rattle.cookie_client.specs.Session.{delta_texts}
use Rattle.cookie_client.proofs.EntryLemmas.{chosen}

pub T-true : (b : Bool) → T b → b ≡ true
T-true true h = refl
T-true false h = absurd h

apart : (o : Ordering) → is_lt o ≡ true → is_eq o ≡ false
apart Less h = refl
apart Equal h = absurd (subst T (sym h) tt)
apart Greater h = refl

-- a name before all others isn't among them
pub find_below : {X : Type 0} (name : Name) (es : List (Name × X)) → below_all name_cmp name es ≡ true → find name_cmp name es ≡ None
find_below name [] h = refl
find_below name (e ∷ es) h =
    let parts = and_parts (is_lt (name_cmp name e.0)) (below_all name_cmp name es) h in
    ap (λ b. cond b (Some e.1) (find name_cmp name es)) (apart (name_cmp name e.0) parts.0) ∙ find_below name es parts.1

-- where a name is found among entries in order
is_name : (name key : Name) → eq_by_cmp name_cmp name key ≡ true → name ≡ key
is_name name key e = (bytes_eq-Decides name key).0 (texts_ties name key ∙ e)

-- the first entry
pub find_first : {X : Type 0} (e : Name × X) (es : List (Name × X)) → find name_cmp e.0 (e ∷ es) ≡ Some e.1
find_first e es = ap (λ b. cond b (Some e.1) (find name_cmp e.0 es)) (sym (texts_ties e.0 e.0) ∙ (bytes_eq-Decides e.0 e.0).1 refl)

-- a later one
find_later : {X : Type 0} (e : Name × X) (es : List (Name × X)) → below_all name_cmp e.0 es ≡ true → (name : Name) (x : X) → find name_cmp name es ≡ Some x
    → find name_cmp name (e ∷ es) ≡ Some x
find_later e es below name x found = by (eq_by_cmp name_cmp name e.0) refl
  where
    by : (b : Bool) → eq_by_cmp name_cmp name e.0 ≡ b → cond b (Some e.1) (find name_cmp name es) ≡ Some x
    by true is = absurd (none-some x (sym (find_below e.0 es below) ∙ ap (λ n. find name_cmp n es) (sym (is_name name e.0 is)) ∙ found))
    by false is = found

-- ---- a delta's texts

abbrev text_of : Name × Marked → List ℕ
text_of e = cookie_text true false e.1.cookie

each_text : (es : List (Name × Marked)) (name : Name) (entry : Marked) → find name_cmp name es ≡ Some entry → Contains (map text_of es) (cookie_text true false entry.cookie)
each_text [] name entry e = absurd (none-some entry e)
each_text (first ∷ es) name entry e =
    by (λ found. each_text es name entry found) (chosen (eq_by_cmp name_cmp name first.0) (Some first.1) (find name_cmp name es) (Some entry) e)
  where
    further : Contains (map text_of es) (cookie_text true false entry.cookie) → Contains (map text_of (first ∷ es)) (cookie_text true false entry.cookie)
    further (k, within, is) = (suc k, omega arith, is)

    by : (find name_cmp name es ≡ Some entry → Contains (map text_of es) (cookie_text true false entry.cookie))
        → ((eq_by_cmp name_cmp name first.0 ≡ true) × (Some first.1 ≡ Some entry)) ⊎ ((eq_by_cmp name_cmp name first.0 ≡ false) × (find name_cmp name es ≡ Some entry))
        → Contains (map text_of (first ∷ es)) (cookie_text true false entry.cookie)
    by more (inl h) = (0, omega arith, ap (λ m. cookie_text true false m.cookie) (same_Some first.1 entry h.1))
    by more (inr h) = further (more h.1)

only_texts : (delta : FinMap name_cmp Marked) (es : List (Name × Marked)) → is_sorted name_cmp es ≡ true
    → ((name : Name) (entry : Marked) → find name_cmp name es ≡ Some entry → get delta name ≡ Some entry) → All (IsDeltaText delta) (map text_of es)
only_texts delta [] sorted found = All-nil (IsDeltaText delta)
only_texts delta (e ∷ es) sorted found =
    let parts = and_parts (below_all name_cmp e.0 es) (is_sorted name_cmp es) sorted in
    All-cons (IsDeltaText delta) (text_of e) (map text_of es)
    (record { name = e.0; entry = e.1; stands = found e.0 e.1 (find_first e es); is = refl })
    (only_texts delta es parts.1 (λ name entry f. found name entry (find_later e es parts.0 name entry f)))

-- the texts in byte order of the names are the delta's
pub are_texts : (jar : JarState) → AreDeltaTexts jar.delta (delta_texts jar)
are_texts jar =
    record {
      each = λ name entry e. each_text (entries jar.delta) name entry (sym (get-entries jar.delta name) ∙ e);
      only = only_texts jar.delta (entries jar.delta) (T-true (is_sorted name_cmp (entries jar.delta)) (entries_sorted jar.delta)) (λ name entry e.
          get-entries jar.delta name ∙ e);
    }
