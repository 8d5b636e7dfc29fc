-- What a client has once it has read the texts of a delta, in any order and with any repetition.
use Rattle.std.proofs.Common.{◌≡◌, ℕ, zero, suc, Bool, true, false, cond, ◌⊎◌, inl, inr, ⊎_elim, List, [], ◌∷◌, refl, sym, ap, subst, ◌∙◌, All, Contains, Option, Some, None, arith}
use Rattle.std.proofs.lemmas.List.Elements.{All-head, All-tail}
use Rattle.std.proofs.lemmas.Slice.Eq.{bytes_eq-Decides}
use Rattle.std.specs.Cmp.Lexicographic.{nat_list_cmp_total}
use Rattle.std.specs.FinMap.{FinMap, get, insert, remove, same_map}
use Rattle.std.specs.Str.{bytes_eq}
use Rattle.jiff.specs.Types.{DateTime}
use Rattle.cookie.specs.CookieOf.{cookie_of}
use Rattle.cookie.specs.Jar.{Name, name_cmp, Marked}
use Rattle.cookie.specs.Record.{Record, IsCookie}
use Rattle.cookie.specs.Text.{cookie_text}
use Rattle.cookie.proofs.NameLemmas.{get_inserted, get_removed, names_apart}
use Rattle.cookie.proofs.OutcomeLemmas.{same_name}
use Rattle.cookie.specs.DeltaTexts.{IsDeltaText, AreDeltaTexts}
use Rattle.cookie_client.specs.Client.{Values, after_cookie, after_text, after_texts}
use Rattle.cookie_client.specs.Live.{is_live}
use Rattle.cookie_client.proofs.EntryLemmas.{AreEntries}

-- an entry of a delta is a cookie's, and stands under its name
pub record IsKept (key : Name) (entry : Marked) : Type 0 where
  pub cookie : IsCookie entry.cookie
  pub name : entry.cookie.name ≡ key

Contains-first : {X : Type 0} (x : X) (xs : List X) (y : X) → Contains (x ∷ xs) y → (x ≡ y) ⊎ Contains xs y
Contains-first x xs y (zero, l, e) = inl e
Contains-first x xs y (suc k, l, e) = inr (k, omega arith, e)

module _ (now : DateTime) where
  -- what one reading makes of the value at the name that was read
  abbrev pub effect : Option Record → Option (List ℕ) → Option (List ℕ)
  effect None before = before
  effect (Some cookie) before = cond (is_live cookie now) (Some cookie.value) None

  effect_twice : (o : Option Record) (before : Option (List ℕ)) → effect o (effect o before) ≡ effect o before
  effect_twice None before = refl
  effect_twice (Some cookie) before = refl

  after_one : (b : Bool) (values : Values) (cookie : Record) (name : Name)
      → get (cond b (insert values cookie.name cookie.value) (remove values cookie.name)) name
      ≡ cond (bytes_eq name cookie.name) (cond b (Some cookie.value) None) (get values name)
  after_one true values cookie name = get_inserted values cookie.name cookie.value name
  after_one false values cookie name = get_removed values cookie.name name

  unchanged : (b : Bool) (v : Option (List ℕ)) → v ≡ cond b v v
  unchanged true v = refl
  unchanged false v = refl

  -- one reading changes the value at its cookie's name alone
  after_cookie-at : (o : Option Record) (key : Name) → ((r : Record) → o ≡ Some r → r.name ≡ key) → (values : Values) (name : Name)
      → get (after_cookie now o values) name ≡ cond (bytes_eq name key) (effect o (get values name)) (get values name)
  after_cookie-at None key named values name = unchanged (bytes_eq name key) (get values name)
  after_cookie-at (Some cookie) key named values name =
      after_one (is_live cookie now) values cookie name
      ∙ ap (λ n. cond (bytes_eq name n) (cond (is_live cookie now) (Some cookie.value) None) (get values name)) (named cookie refl)

  -- what the delta's entry at a name makes of the client's value there
  abbrev pub decided : Option Marked → Option (List ℕ) → Option (List ℕ)
  decided None before = before
  decided (Some entry) before = effect (cookie_of true (cookie_text true false entry.cookie)) before

  decided_twice : (o : Option Marked) (before : Option (List ℕ)) → decided o (decided o before) ≡ decided o before
  decided_twice None before = refl
  decided_twice (Some entry) before = effect_twice (cookie_of true (cookie_text true false entry.cookie)) before

  module _ (delta : FinMap name_cmp Marked) (kept : AreEntries IsKept delta) where
    -- what the text of a cookie with this name does
    text_at : (entry : Marked) (key : Name) → IsKept key entry → (values : Values) (name : Name)
        → get (after_text now (cookie_text true false entry.cookie) values) name ≡ cond (bytes_eq name key) (decided (Some entry) (get values name)) (get values name)
    text_at entry key k values name =
        after_cookie-at (cookie_of true (cookie_text true false entry.cookie)) key (λ r e. same_name entry.cookie r k.cookie e ∙ k.name) values name

    -- one text of the delta decides its own name, and leaves any other
    step : (text : List ℕ) → IsDeltaText delta text → (values : Values) (name : Name)
        → (get (after_text now text values) name ≡ get values name) ⊎ (get (after_text now text values) name ≡ decided (get delta name) (get values name))
    step text is values name = by (bytes_eq name is.name) refl
      where
        at : get (after_text now text values) name ≡ cond (bytes_eq name is.name) (decided (Some is.entry) (get values name)) (get values name)
        at = ap (λ t. get (after_text now t values) name) is.is ∙ text_at is.entry is.name (kept is.name is.entry is.stands) values name

        by : (b : Bool) → bytes_eq name is.name ≡ b
            → (get (after_text now text values) name ≡ get values name) ⊎ (get (after_text now text values) name ≡ decided (get delta name) (get values name))
        by true same =
            inr (at ∙ ap (λ b. cond b (decided (Some is.entry) (get values name)) (get values name)) same
            ∙ ap (λ o. decided o (get values name)) (sym (ap (get delta) ((bytes_eq-Decides name is.name).0 same) ∙ is.stands)))
        by false other = inl (at ∙ ap (λ b. cond b (decided (Some is.entry) (get values name)) (get values name)) other)

    -- a name is settled once its entry can change nothing more
    abbrev IsSettled : Name → Values → Type 0
    IsSettled name values = get values name ≡ decided (get delta name) (get values name)

    after_step : (text : List ℕ) → IsDeltaText delta text → (values : Values) (name : Name)
        → decided (get delta name) (get (after_text now text values) name) ≡ decided (get delta name) (get values name)
    after_step text is values name =
        ⊎_elim (λ e. ap (decided (get delta name)) e) (λ e. ap (decided (get delta name)) e ∙ decided_twice (get delta name) (get values name)) (step text is values name)

    stays_settled : (text : List ℕ) → IsDeltaText delta text → (values : Values) (name : Name) → IsSettled name values → IsSettled name (after_text now text values)
    stays_settled text is values name settled =
        ⊎_elim (λ e. e ∙ settled ∙ sym (after_step text is values name)) (λ e. e ∙ sym (after_step text is values name)) (step text is values name)

    decided_after : (texts : List (List ℕ)) → All (IsDeltaText delta) texts → (values : Values) (name : Name)
        → decided (get delta name) (get (after_texts now texts values) name) ≡ decided (get delta name) (get values name)
    decided_after [] all values name = refl
    decided_after (text ∷ texts) all values name =
        decided_after texts (All-tail (IsDeltaText delta) text texts all) (after_text now text values) name
        ∙ after_step text (All-head (IsDeltaText delta) text texts all) values name

    settled_after : (texts : List (List ℕ)) → All (IsDeltaText delta) texts → (values : Values) (name : Name) → IsSettled name values → IsSettled name (after_texts now texts values)
    settled_after [] all values name settled = settled
    settled_after (text ∷ texts) all values name settled =
        settled_after texts (All-tail (IsDeltaText delta) text texts all) (after_text now text values) name
        (stays_settled text (All-head (IsDeltaText delta) text texts all) values name settled)

    -- the text of an entry settles its name
    settles : (entry : Marked) (values : Values) (name : Name) → get delta name ≡ Some entry → IsSettled name (after_text now (cookie_text true false entry.cookie) values)
    settles entry values name stands =
        let at : get (after_text now (cookie_text true false entry.cookie) values) name ≡ decided (get delta name) (get values name)
        = text_at entry name (kept name entry stands) values name
        ∙ ap (λ b. cond b (decided (Some entry) (get values name)) (get values name)) ((bytes_eq-Decides name name).1 refl)
        ∙ ap (λ o. decided o (get values name)) (sym stands) in
        at ∙ sym (ap (decided (get delta name)) at ∙ decided_twice (get delta name) (get values name))

    reached : (texts : List (List ℕ)) → All (IsDeltaText delta) texts → (values : Values) (name : Name) (entry : Marked) → get delta name ≡ Some entry
        → Contains texts (cookie_text true false entry.cookie) → IsSettled name (after_texts now texts values)
    reached [] all values name entry stands (k, l, e) = absurd (omega arith)
    reached (text ∷ texts) all values name entry stands among =
        ⊎_elim
        (λ e. settled_after texts (All-tail (IsDeltaText delta) text texts all) (after_text now text values) name
        (subst (λ t. IsSettled name (after_text now t values)) (sym e) (settles entry values name stands)))
        (λ later. reached texts (All-tail (IsDeltaText delta) text texts all) (after_text now text values) name entry stands later)
        (Contains-first text texts (cookie_text true false entry.cookie) among)

    settled_by_delta : (texts : List (List ℕ)) → AreDeltaTexts delta texts → (values : Values) (name : Name) (o : Option Marked) → get delta name ≡ o
        → IsSettled name (after_texts now texts values)
    settled_by_delta texts are values name None stands = sym (ap (λ o. decided o (get (after_texts now texts values) name)) stands)
    settled_by_delta texts are values name (Some entry) stands = reached texts are.only values name entry stands (are.each name entry stands)

    -- what the client has at a name
    pub read_at : (texts : List (List ℕ)) → AreDeltaTexts delta texts → (values : Values) (name : Name)
        → get (after_texts now texts values) name ≡ decided (get delta name) (get values name)
    read_at texts are values name =
        settled_by_delta texts are values name (get delta name) refl ∙ decided_after texts are.only values name

    -- neither order nor repetition matters
    pub same_client : (texts others : List (List ℕ)) → AreDeltaTexts delta texts → AreDeltaTexts delta others → (values : Values)
        → after_texts now texts values ≡ after_texts now others values
    same_client texts others are also values = same_map nat_list_cmp_total names_apart _ _ (λ name. read_at texts are values name ∙ sym (read_at others also values name))
