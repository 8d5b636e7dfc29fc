-- What a site sees of a store, under a name.
use Rattle.std.proofs.Common.{◌≡◌, ℕ, ◌&&◌, Bool, true, false, cond, List, [], ◌∷◌, map, refl, sym, ap, ◌∙◌}
use Rattle.std.specs.List.{filter}
use Rattle.std.specs.Str.{bytes_eq}
use Rattle.jiff.specs.Types.{DateTime}
use Rattle.cookie_browser.specs.Request.{RequestView}
use Rattle.cookie_browser.specs.Storage.{KeptView, CookieStore, is_sent, lasting, lasts, suits}
use Rattle.cookie_agent.specs.Sent.{seen}

module _ (g : KeptView → Bool) where
  -- the cookie is seen, under this name
  abbrev pub gives : List ℕ → KeptView → Bool
  gives name c = g c && bytes_eq c.name name

  abbrev pub given : List ℕ → CookieStore → List (List ℕ)
  given name store = map (λ c. c.value) (filter (gives name) store)

  pub twice : (name : List ℕ) (store : CookieStore) → filter (λ c. bytes_eq c.name name) (filter (g) store) ≡ filter (gives name) store
  twice name [] = refl
  twice name (c ∷ store) = by (g c) (twice name store)
    where
      by : (b : Bool) → filter (λ d. bytes_eq d.name name) (filter (g) store) ≡ filter (gives name) store
          → filter (λ d. bytes_eq d.name name) (cond b (c ∷ filter (g) store) (filter (g) store))
          ≡ cond (b && bytes_eq c.name name) (c ∷ filter (gives name) store) (filter (gives name) store)
      by true e = ap (λ l. cond (bytes_eq c.name name) (c ∷ l) l) e
      by false e = e

  pub skips : (name : List ℕ) (c : KeptView) (store : CookieStore) → gives name c ≡ false → given name (c ∷ store) ≡ given name store
  skips name c store e = ap (λ b. map (λ d. d.value) (cond b (c ∷ filter (gives name) store) (filter (gives name) store))) e

  grows : (b : Bool) (c : KeptView) (s t : CookieStore) → map (λ d. d.value) s ≡ map (λ d. d.value) t → map (λ d. d.value) (cond b (c ∷ s) s) ≡ map (λ d. d.value) (cond b (c ∷ t) t)
  grows true c s t e = ap (λ l. c.value ∷ l) e
  grows false c s t e = e

  pub onto : (name : List ℕ) (c : KeptView) (s t : CookieStore) → given name s ≡ given name t → given name (c ∷ s) ≡ given name (c ∷ t)
  onto name c s t e = grows (gives name c) c (filter (gives name) s) (filter (gives name) t) e

module _ (site : RequestView) (now : DateTime) where
  pub seen-given : (name : List ℕ) (store : CookieStore) → seen site now store name ≡ given (is_sent site now) name store
  seen-given name store = ap (map (λ c. c.value)) (twice (is_sent site now) name store)

  -- ---- expired cookies aren't seen

  given-lasting : (name : List ℕ) (store : CookieStore) → given (is_sent site now) name (lasting now store) ≡ given (is_sent site now) name store
  given-lasting name [] = refl
  given-lasting name (c ∷ store) = by (given-lasting name store) (lasts c.expiry now) refl
    where
      by : given (is_sent site now) name (lasting now store) ≡ given (is_sent site now) name store → (b : Bool) → lasts c.expiry now ≡ b
          → given (is_sent site now) name (cond b (c ∷ lasting now store) (lasting now store)) ≡ given (is_sent site now) name (c ∷ store)
      by rest true e = onto (is_sent site now) name c (lasting now store) store rest
      by rest false e =
          rest
          ∙ sym (skips (is_sent site now) name c store (ap (λ b. (b && suits site c) && bytes_eq c.name name) e))

  pub seen-lasting : (name : List ℕ) (store : CookieStore) → seen site now (lasting now store) name ≡ seen site now store name
  seen-lasting name store = seen-given name (lasting now store) ∙ given-lasting name store ∙ sym (seen-given name store)
