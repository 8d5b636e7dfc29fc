-- What a site sees of a store once the texts of a delta were read.
use Rattle.std.proofs.Common.{◌≡◌, ℕ, ◌&&◌, not, Bool, true, false, cond, ◌⊎◌, inl, inr, ⊎_elim, List, [], ◌∷◌, map, refl, sym, ap, subst, ◌∙◌, All, Contains, zero, suc, Option, Some, None, option_map, arith}
use Rattle.std.proofs.lemmas.Bool.{false≢true}
use Rattle.std.proofs.lemmas.List.Elements.{All-head, All-tail, All-filter, All-weaker}
use Rattle.std.proofs.lemmas.Option.{none-some, same_Some}
use Rattle.std.proofs.lemmas.Slice.Eq.{bytes_eq-Decides}
use Rattle.std.specs.FinMap.{FinMap, get}
use Rattle.std.specs.List.{filter}
use Rattle.std.specs.Option.{option_to_list}
use Rattle.std.specs.Str.{bytes_eq, IsUtf8}
use mathlib.Core.Logic.{◌≢◌}
use Rattle.jiff.specs.Types.{DateTime}
use Rattle.cookie.specs.DeltaTexts.{IsDeltaText, AreDeltaTexts}
use Rattle.cookie.specs.Escapes.{escape, unescape}
use Rattle.cookie.specs.Jar.{Name, name_cmp, Marked, JarState, view, overlay}
use Rattle.cookie.specs.Record.{Record}
use Rattle.cookie.specs.Text.{cookie_text}
use Rattle.cookie.proofs.EscapeTextLemmas.{unescape-escape, utf8_is_bytes}
use Rattle.cookie_client.specs.Agreement.{value_of}
use Rattle.cookie_browser.specs.PrintedStored.{IsUncovered}
use Rattle.cookie_browser.specs.Request.{RequestView}
use Rattle.cookie_browser.specs.Storage.{KeptView, CookieStore, is_same_cookie, kept_with, lasts, lasting, is_sent, suits, kept_after_text, kept_after_verdict}
use Rattle.cookie_browser.specs.Suffixes.{Rule}
use Rattle.cookie_theorems.specs.Agreement.{IsOurs, PlanView, Mirrors, IsPlannedEntry, IsPlannedDelta, IsFollowed}
use Rattle.cookie_theorems.specs.Reading.{kept_after_texts}
use Rattle.cookie_agent.specs.Sent.{seen}
use Rattle.cookie_agent.proofs.KeyLemmas.{same_settled}
use Rattle.cookie_agent.proofs.PutLemmas.{All-put}
use Rattle.cookie_agent.proofs.StoreLemmas.{seen-lasting}
use Rattle.cookie_theorems.proofs.SeenLemmas.{IsAlone, seen-put_other, seen-put_own}
use Rattle.cookie_agent.proofs.VerdictLemmas.{verdict_anywhere, stores_pair}

-- a name is known by its escaped form
pub escape_injective : (a b : List ℕ) → IsUtf8 a → IsUtf8 b → escape a ≡ escape b → a ≡ b
escape_injective a b u v e = sym (unescape-escape a (utf8_is_bytes a u)) ∙ ap unescape e ∙ unescape-escape b (utf8_is_bytes b v)

turned : {X : Type 0} (b : Bool) (u v : X) → cond (not b) u v ≡ cond b v u
turned true u v = refl
turned false u v = refl

Contains-first : {X : Type 0} (x : X) (xs : List X) (y : X) → Contains (x ∷ xs) y → (x ≡ y) ⊎ Contains xs y
Contains-first x xs y (zero, l, e) = inl e
Contains-first x xs y (suc k, l, e) = inr (k, omega arith, e)

neither : (a b : Bool) → (a ≡ true → b ≡ true) → b ≡ false → a ≡ false
neither true b h e = absurd (false≢true (sym e ∙ h refl))
neither false b h e = refl

not_and : (a b : Bool) → (a ≡ true → b ≡ false) → a && b ≡ false
not_and true b h = h refl
not_and false b h = refl

module _ (rules : List Rule) (site : RequestView) (now : DateTime) (plans : Name → PlanView) where
  abbrev Ours : KeptView → Type 0
  Ours c = IsOurs plans c

  -- what the entry makes of what is seen under its name
  abbrev fate_of : Marked → List (List ℕ)
  fate_of entry = cond entry.removed [] (escape entry.cookie.value ∷ [])

  seen_one : (x : KeptView) (b : Bool) → is_sent site now x ≡ b → seen site now (x ∷ []) x.name ≡ cond b (x.value ∷ []) []
  seen_one x true e =
      ap (λ b. map (λ c. c.value) (filter (λ c. bytes_eq c.name x.name) (cond b (x ∷ []) []))) e
      ∙ ap (λ b. map (λ (c : KeptView). c.value) (cond b (x ∷ []) [])) ((bytes_eq-Decides x.name x.name).1 refl)
  seen_one x false e = ap (λ b. map (λ c. c.value) (filter (λ c. bytes_eq c.name x.name) (cond b (x ∷ []) []))) e

  module _ (name : Name) (entry : Marked) (is : IsPlannedEntry rules site now plans name entry) where
    -- how it is stored
    abbrev pub x : KeptView
    x = is.planned.kept

    abbrev text : List ℕ
    text = cookie_text true false entry.cookie

    x_name : x.name ≡ escape entry.cookie.name
    x_name = (stores_pair rules site now [] entry.cookie x is.planned.stored).name

    x_value : x.value ≡ escape entry.cookie.value
    x_value = (stores_pair rules site now [] entry.cookie x is.planned.stored).value

    -- a stored cookie of its name is planned as its own is
    own_name : (d : KeptView) (o : Ours d) → d.name ≡ x.name → o.name ≡ entry.cookie.name
    own_name d o e = escape_injective o.name entry.cookie.name o.named.cookie.name is.cookie.cookie.name (sym o.names ∙ e ∙ x_name)

    uncovered : (store : CookieStore) → All Ours store → IsUncovered site store x.name
    uncovered store all = by site.is_secure refl
      where
        by : (b : Bool) → site.is_secure ≡ b → IsUncovered site store x.name
        by true e = inl e
        by false e =
            let open_plan : (plans entry.cookie.name).is_secure ≡ false = neither (plans entry.cookie.name).is_secure site.is_secure is.planned.covered e in
            inr (All-weaker Ours (λ d. bytes_eq d.name x.name && d.is_secure_only ≡ false)
            (λ d o. not_and (bytes_eq d.name x.name) d.is_secure_only
            (λ f. neither d.is_secure_only (plans o.name).is_secure o.secure
            (ap (λ n. (plans n).is_secure) (own_name d o ((bytes_eq-Decides d.name x.name).0 f)) ∙ open_plan))) store all)

    All-lasting : (store : CookieStore) → All Ours store → All Ours (lasting now store)
    All-lasting store all = All-filter (λ d. lasts d.expiry now) Ours store all

    pub text_stored : (store : CookieStore) → All Ours store → kept_after_text rules site now text store ≡ lasting now (kept_with x (lasting now store))
    text_stored store all =
        ap (λ o. kept_after_verdict now o (lasting now store))
        (verdict_anywhere rules site now (lasting now store) text x (uncovered (lasting now store) (All-lasting store all)) is.planned.stored)

    -- it is sent exactly where it is an addition
    sent_if : is_sent site now x ≡ not entry.removed
    sent_if =
        ⊎_elim
        (λ f. ap (λ b. b && suits site x) f.1 ∙ ap not (sym f.0))
        (λ f. f.1 ∙ ap not (sym f.0))
        is.fate

    pub is_ours : IsOurs plans x
    is_ours =
        record {
          name = entry.cookie.name;
          value = entry.cookie.value;
          named = record { cookie = record { name = is.cookie.cookie.name; value = is.cookie.cookie.value; path = tt; domain = tt; max_age = tt }; name = is.cookie.name };
          names = x_name;
          values = x_value;
          scope = is.planned.scope;
          secure = is.planned.secure;
        }

    pub alone_one : (d : KeptView) → Ours d → d.name ≡ x.name → is_same_cookie d x ≡ true
    alone_one d o e = same_settled d x e (o.scope ∙ ap (λ n. (plans n).scope) (own_name d o e) ∙ sym is.planned.scope)

    all_alone : (store : CookieStore) → All Ours store → IsAlone (is_sent site now) x store
    all_alone store all = All-weaker Ours (λ d. is_sent site now d ≡ true → d.name ≡ x.name → is_same_cookie d x ≡ true) (λ d o _ e. alone_one d o e) store all

    text_ours : (store : CookieStore) → All Ours store → All Ours (kept_after_text rules site now text store)
    text_ours store all =
        subst (All Ours) (sym (text_stored store all))
        (All-lasting (kept_with x (lasting now store)) (All-put Ours x is_ours (lasting now store) (All-lasting store all)))

    text_own : (store : CookieStore) → All Ours store → seen site now (kept_after_text rules site now text store) (escape entry.cookie.name) ≡ fate_of entry
    text_own store all =
        ap (λ s. seen site now s (escape entry.cookie.name)) (text_stored store all)
        ∙ ap (seen site now (lasting now (kept_with x (lasting now store)))) (sym x_name)
        ∙ seen-lasting site now x.name (kept_with x (lasting now store))
        ∙ seen-put_own site now x (lasting now store) (all_alone (lasting now store) (All-lasting store all))
        ∙ seen_one x (not entry.removed) sent_if
        ∙ turned entry.removed (x.value ∷ []) []
        ∙ ap (λ v. cond entry.removed [] (v ∷ [])) x_value

    text_other : (store : CookieStore) → All Ours store → (other : List ℕ) → escape entry.cookie.name ≢ other → seen site now (kept_after_text rules site now text store) other ≡ seen site now store other
    text_other store all other apart =
        ap (λ s. seen site now s other) (text_stored store all)
        ∙ seen-lasting site now other (kept_with x (lasting now store))
        ∙ seen-put_other site now x other (λ e. apart (sym x_name ∙ e)) (lasting now store)
        ∙ seen-lasting site now other store

  module _ (delta : FinMap name_cmp Marked) (planned : IsPlannedDelta rules site now plans delta) where
    step_ours : (text : List ℕ) → IsDeltaText delta text → (store : CookieStore) → All Ours store → All Ours (kept_after_text rules site now text store)
    step_ours text is store all =
        subst (λ t. All Ours (kept_after_text rules site now t store)) (sym is.is) (text_ours is.name is.entry (planned is.name is.entry is.stands) store all)

    step_own : (text : List ℕ) (is : IsDeltaText delta text) (store : CookieStore) → All Ours store → seen site now (kept_after_text rules site now text store) (escape is.name) ≡ fate_of is.entry
    step_own text is store all =
        let h = planned is.name is.entry is.stands in
        ap (λ t. seen site now (kept_after_text rules site now t store) (escape is.name)) is.is
        ∙ ap (λ n. seen site now (kept_after_text rules site now (cookie_text true false is.entry.cookie) store) (escape n)) (sym h.key)
        ∙ text_own is.name is.entry h store all

    step_other : (text : List ℕ) (is : IsDeltaText delta text) (store : CookieStore) → All Ours store → (other : List ℕ) → escape is.name ≢ other → seen site now (kept_after_text rules site now text store) other ≡ seen site now store other
    step_other text is store all other apart =
        let h = planned is.name is.entry is.stands in
        ap (λ t. seen site now (kept_after_text rules site now t store) other) is.is
        ∙ text_other is.name is.entry h store all other (λ e. apart (ap escape (sym h.key) ∙ e))

    -- a text of the delta is that of the name, or leaves it
    own_or_other : (text : List ℕ) (is : IsDeltaText delta text) (name : Name) → IsUtf8 name → (is.name ≡ name) ⊎ (escape is.name ≢ escape name)
    own_or_other text is name u = by (bytes_eq is.name name) refl
      where
        by : (b : Bool) → bytes_eq is.name name ≡ b → (is.name ≡ name) ⊎ (escape is.name ≢ escape name)
        by true e = inl ((bytes_eq-Decides is.name name).0 e)
        by false e =
            let h = planned is.name is.entry is.stands in
            let v : IsUtf8 is.name = subst IsUtf8 h.key h.cookie.cookie.name in
            inr (λ f. false≢true (sym e ∙ (bytes_eq-Decides is.name name).1 (escape_injective is.name name v u f)))

    texts_ours : (texts : List (List ℕ)) → All (IsDeltaText delta) texts → (store : CookieStore) → All Ours store → All Ours (kept_after_texts rules site now texts store)
    texts_ours [] are store all = all
    texts_ours (text ∷ texts) are store all =
        texts_ours texts (All-tail (IsDeltaText delta) text texts are) (kept_after_text rules site now text store)
        (step_ours text (All-head (IsDeltaText delta) text texts are) store all)

    module _ (name : Name) (u : IsUtf8 name) where
      unchanged : get delta name ≡ None → (texts : List (List ℕ)) → All (IsDeltaText delta) texts → (store : CookieStore) → All Ours store
          → seen site now (kept_after_texts rules site now texts store) (escape name) ≡ seen site now store (escape name)
      unchanged none [] are store all = refl
      unchanged none (text ∷ texts) are store all =
          let is = All-head (IsDeltaText delta) text texts are in
          unchanged none texts (All-tail (IsDeltaText delta) text texts are) (kept_after_text rules site now text store) (step_ours text is store all)
          ∙ ⊎_elim
          (λ e. absurd (none-some is.entry (sym none ∙ ap (get delta) (sym e) ∙ is.stands)))
          (λ apart. step_other text is store all (escape name) apart)
          (own_or_other text is name u)

      own_step : (entry : Marked) → get delta name ≡ Some entry → (text : List ℕ) (is : IsDeltaText delta text) → is.name ≡ name → (store : CookieStore) → All Ours store
          → seen site now (kept_after_text rules site now text store) (escape name) ≡ fate_of entry
      own_step entry stands text is e store all =
          ap (λ n. seen site now (kept_after_text rules site now text store) (escape n)) (sym e) ∙ step_own text is store all
          ∙ ap fate_of (same_Some is.entry entry (sym is.stands ∙ ap (get delta) e ∙ stands))

      stays : (entry : Marked) → get delta name ≡ Some entry → (texts : List (List ℕ)) → All (IsDeltaText delta) texts → (store : CookieStore) → All Ours store
          → seen site now store (escape name) ≡ fate_of entry → seen site now (kept_after_texts rules site now texts store) (escape name) ≡ fate_of entry
      stays entry stands [] are store all settled = settled
      stays entry stands (text ∷ texts) are store all settled =
          let is = All-head (IsDeltaText delta) text texts are in
          stays entry stands texts (All-tail (IsDeltaText delta) text texts are) (kept_after_text rules site now text store) (step_ours text is store all)
          (⊎_elim
          (λ e. own_step entry stands text is e store all)
          (λ apart. step_other text is store all (escape name) apart ∙ settled)
          (own_or_other text is name u))

      reached : (entry : Marked) → get delta name ≡ Some entry → (texts : List (List ℕ)) → All (IsDeltaText delta) texts → (store : CookieStore) → All Ours store
          → Contains texts (cookie_text true false entry.cookie) → seen site now (kept_after_texts rules site now texts store) (escape name) ≡ fate_of entry
      reached entry stands [] are store all (k, l, e) = absurd (omega arith)
      reached entry stands (text ∷ texts) are store all among =
          let is = All-head (IsDeltaText delta) text texts are in
          let rest = All-tail (IsDeltaText delta) text texts are in
          let next = step_ours text is store all in
          ⊎_elim
          (λ e. stays entry stands texts rest (kept_after_text rules site now text store) next
          (own_step entry stands text (record { name = name; entry = entry; stands = stands; is = e }) refl store all))
          (λ later. reached entry stands texts rest (kept_after_text rules site now text store) next later)
          (Contains-first text texts (cookie_text true false entry.cookie) among)

  fate_shown : (entry : Marked) (original : Option Record) → fate_of entry ≡ option_to_list (option_map escape (value_of (overlay (Some entry) original)))
  fate_shown entry original = by entry.removed
    where
      by : (b : Bool) → cond b [] (escape entry.cookie.value ∷ []) ≡ option_to_list (option_map escape (value_of (cond b None (Some entry.cookie))))
      by true = refl
      by false = refl

  -- what is seen at each name is what the jar shows there
  seen_as_shown : (store : CookieStore) (jar : JarState) (texts : List (List ℕ)) → All Ours store → IsPlannedDelta rules site now plans jar.delta
      → Mirrors site now store (λ name. value_of (get jar.originals name)) → AreDeltaTexts jar.delta texts
      → Mirrors site now (kept_after_texts rules site now texts store) (λ name. value_of (view jar name))
  seen_as_shown store jar texts all planned known are name u = by (get jar.delta name) refl
    where
      by : (o : Option Marked) → get jar.delta name ≡ o
          → seen site now (kept_after_texts rules site now texts store) (escape name) ≡ option_to_list (option_map escape (value_of (overlay o (get jar.originals name))))
      by None none = unchanged jar.delta planned name u none texts are.only store all ∙ known name u
      by (Some entry) stands = reached jar.delta planned name u entry stands texts are.only store all (are.each name entry stands) ∙ fate_shown entry (get jar.originals name)

pub followed : IsFollowed
followed rules site now plans store jar texts ours planned known are =
    (texts_ours rules site now plans jar.delta planned texts are.only store ours, seen_as_shown rules site now plans store jar texts ours planned known are)
