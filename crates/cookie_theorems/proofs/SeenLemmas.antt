-- What a site sees of a store, once a cookie was put into it.
use Rattle.std.proofs.Common.{◌≡◌, ℕ, ◌&&◌, not, Bool, true, false, cond, List, [], ◌∷◌, refl, sym, ◌∙◌, All}
use Rattle.std.proofs.lemmas.Bool.{false≢true}
use Rattle.std.proofs.lemmas.List.Elements.{All-head, All-tail}
use Rattle.std.proofs.lemmas.Slice.Eq.{bytes_eq-Decides}
use Rattle.std.specs.List.{filter}
use Rattle.std.specs.Str.{bytes_eq}
use mathlib.Core.Logic.{◌≢◌}
use Rattle.jiff.specs.Types.{DateTime}
use Rattle.cookie_browser.specs.Request.{RequestView}
use Rattle.cookie_browser.specs.Storage.{KeptView, CookieStore, is_same_cookie, is_sent, kept_with}
use Rattle.cookie_agent.specs.Sent.{seen}
use Rattle.cookie_agent.proofs.KeyLemmas.{same_named}
use Rattle.cookie_agent.proofs.StoreLemmas.{given, gives, onto, seen-given, skips}

equal_false : (a b : List ℕ) → a ≢ b → bytes_eq a b ≡ false
equal_false a b e = by (bytes_eq a b) refl
  where
    by : (r : Bool) → bytes_eq a b ≡ r → bytes_eq a b ≡ false
    by true is = absurd (e ((bytes_eq-Decides a b).0 is))
    by false is = is

both_false : (a b : Bool) → (a ≡ true → b ≡ false) → a && b ≡ false
both_false true b h = h refl
both_false false b h = refl

module _ (g : KeptView → Bool) (x : KeptView) where
  -- what is seen under its name has its key
  abbrev pub IsAlone : CookieStore → Type 0
  IsAlone store = All (λ c. g c ≡ true → c.name ≡ x.name → is_same_cookie c x ≡ true) store

  abbrev without : CookieStore → CookieStore
  without store = filter (λ c. not (is_same_cookie c x)) store

  not_given : (c : KeptView) → (g c ≡ true → c.name ≡ x.name → is_same_cookie c x ≡ true) → is_same_cookie c x ≡ false → gives g x.name c ≡ false
  not_given c alone other =
      both_false (g c) (bytes_eq c.name x.name)
      (λ seen. equal_false c.name x.name (λ e. false≢true (sym other ∙ alone seen e)))

  none_without : (store : CookieStore) → IsAlone store → given g x.name (without store) ≡ []
  none_without [] alone = refl
  none_without (c ∷ store) alone =
      by (none_without store (All-tail (λ d. g d ≡ true → d.name ≡ x.name → is_same_cookie d x ≡ true) c store alone)) (is_same_cookie c x) refl
    where
      by : given g x.name (without store) ≡ [] → (b : Bool) → is_same_cookie c x ≡ b → given g x.name (cond (not b) (c ∷ without store) (without store)) ≡ []
      by rest true e = rest
      by rest false e =
          skips g x.name c (without store) (not_given c (All-head (λ d. g d ≡ true → d.name ≡ x.name → is_same_cookie d x ≡ true) c store alone) e) ∙ rest

  -- it alone is seen under its name
  pub put_own : (store : CookieStore) → IsAlone store → given g x.name (kept_with x store) ≡ given g x.name (x ∷ [])
  put_own [] alone = refl
  put_own (c ∷ store) alone =
      by (put_own store (All-tail (λ d. g d ≡ true → d.name ≡ x.name → is_same_cookie d x ≡ true) c store alone)) (is_same_cookie c x) refl
    where
      tail : IsAlone store
      tail = All-tail (λ d. g d ≡ true → d.name ≡ x.name → is_same_cookie d x ≡ true) c store alone

      by : given g x.name (kept_with x store) ≡ given g x.name (x ∷ []) → (b : Bool) → is_same_cookie c x ≡ b → given g x.name (cond b (x ∷ without store) (c ∷ kept_with x store)) ≡ given g x.name (x ∷ [])
      by rest true e = onto g x.name x (without store) [] (none_without store tail)
      by rest false e =
          skips g x.name c (kept_with x store) (not_given c (All-head (λ d. g d ≡ true → d.name ≡ x.name → is_same_cookie d x ≡ true) c store alone) e)
          ∙ rest

  module _ (name : List ℕ) (other : x.name ≢ name) where
    differs : (c : KeptView) → c.name ≡ x.name → gives g name c ≡ false
    differs c e = both_false (g c) (bytes_eq c.name name) (λ _. equal_false c.name name (λ f. other (sym e ∙ f)))

    same_without : (store : CookieStore) → given g name (without store) ≡ given g name store
    same_without [] = refl
    same_without (c ∷ store) = by (same_without store) (is_same_cookie c x) refl
      where
        by : given g name (without store) ≡ given g name store → (b : Bool) → is_same_cookie c x ≡ b → given g name (cond (not b) (c ∷ without store) (without store)) ≡ given g name (c ∷ store)
        by rest true e = rest ∙ sym (skips g name c store (differs c (same_named c x e)))
        by rest false e = onto g name c (without store) store rest

    -- under another name nothing changes
    pub put_other : (store : CookieStore) → given g name (kept_with x store) ≡ given g name store
    put_other [] = skips g name x [] (differs x refl)
    put_other (c ∷ store) = by (put_other store) (is_same_cookie c x) refl
      where
        by : given g name (kept_with x store) ≡ given g name store → (b : Bool) → is_same_cookie c x ≡ b → given g name (cond b (x ∷ without store) (c ∷ kept_with x store)) ≡ given g name (c ∷ store)
        by rest true e =
            skips g name x (without store) (differs x refl) ∙ same_without store ∙ sym (skips g name c store (differs c (same_named c x e)))
        by rest false e = onto g name c (kept_with x store) store rest

module _ (site : RequestView) (now : DateTime) (x : KeptView) where
  pub seen-put_own : (store : CookieStore) → IsAlone (is_sent site now) x store → seen site now (kept_with x store) x.name ≡ seen site now (x ∷ []) x.name
  seen-put_own store alone = seen-given site now x.name (kept_with x store) ∙ put_own (is_sent site now) x store alone ∙ sym (seen-given site now x.name (x ∷ []))

  pub seen-put_other : (name : List ℕ) → x.name ≢ name → (store : CookieStore) → seen site now (kept_with x store) name ≡ seen site now store name
  seen-put_other name other store = seen-given site now name (kept_with x store) ∙ put_other (is_sent site now) x name other store ∙ sym (seen-given site now name store)
