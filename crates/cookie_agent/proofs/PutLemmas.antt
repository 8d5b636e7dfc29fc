-- A cookie is put by a write at one place, or at the end, and the keys stay apart.
use Rattle.std.proofs.Common.{◌≡◌, ℕ, zero, suc, ◌<◌, ◌&&◌, not, Bool, true, false, cond, [], ◌∷◌, ◌++◌, length, get_or, map, refl, sym, ap, ◌∙◌, All, arith}
use Rattle.std.proofs.Math.ListN.{set}
use Rattle.std.proofs.lemmas.Bool.{and_parts}
use Rattle.std.proofs.lemmas.List.Elements.{All-nil, All-cons, All-head, All-tail, All-filter, All-map, All-weaker}
use Rattle.std.specs.List.{filter}
use Rattle.jiff.specs.Types.{DateTime}
use Rattle.jiff.specs.Words.{civil_nanos}
use Rattle.cookie_agent.specs.Stored.{IsApart}
use Rattle.cookie_agent.specs.StoredCode.{gives_place}
use Rattle.cookie_agent.specs.Sent.{accessed}
use Rattle.cookie_browser.specs.Request.{RequestView}
use Rattle.cookie_browser.specs.Storage.{KeptView, CookieStore, is_same_cookie, is_sent, kept_with, lasts, lasting}
use Rattle.cookie_agent.proofs.KeyLemmas.{turned_key, same_key}

-- the others
abbrev pub without : KeptView → CookieStore → CookieStore
without x xs = filter (λ d. not (is_same_cookie d x)) xs

pub kept_all : (c x : KeptView) → is_same_cookie c x ≡ true → (xs : CookieStore) → All (λ d. is_same_cookie d c ≡ false) xs → without x xs ≡ xs
kept_all c x e [] all = refl
kept_all c x e (d ∷ xs) all =
    ap (λ b. cond (not b) (d ∷ without x xs) (without x xs)) (sym (same_key c x d e) ∙ All-head (λ y. is_same_cookie y c ≡ false) d xs all)
    ∙ ap (λ l. d ∷ l) (kept_all c x e xs (All-tail (λ y. is_same_cookie y c ≡ false) d xs all))

pub lasting-twice : (now : DateTime) (xs : CookieStore) → lasting now (lasting now xs) ≡ lasting now xs
lasting-twice now [] = refl
lasting-twice now (c ∷ xs) = by (lasting-twice now xs) (lasts c.expiry now) refl
  where
    by : lasting now (lasting now xs) ≡ lasting now xs → (b : Bool) → lasts c.expiry now ≡ b
        → lasting now (cond b (c ∷ lasting now xs) (lasting now xs)) ≡ cond b (c ∷ lasting now xs) (lasting now xs)
    by rest true e = ap (λ b. cond b (c ∷ lasting now (lasting now xs)) (lasting now (lasting now xs))) e ∙ ap (λ l. c ∷ l) rest
    by rest false e = rest

module _ (now : DateTime) (x : KeptView) where
  -- an expired one is skipped
  past : (c : KeptView) (xs ys : CookieStore) → lasting now (kept_with x (lasting now xs)) ≡ lasting now ys → gives_place x now c ≡ false
      → lasting now (kept_with x (lasting now (c ∷ xs))) ≡ lasting now (c ∷ ys)
  past c xs ys rest none = by (lasts c.expiry now) refl none
    where
      by : (b : Bool) → lasts c.expiry now ≡ b → b && is_same_cookie c x ≡ false
          → lasting now (kept_with x (cond b (c ∷ lasting now xs) (lasting now xs))) ≡ cond b (c ∷ lasting now ys) (lasting now ys)
      by true fresh other =
          ap (λ b. lasting now (cond b (x ∷ without x (lasting now xs)) (c ∷ kept_with x (lasting now xs)))) other
          ∙ ap (λ b. cond b (c ∷ lasting now (kept_with x (lasting now xs))) (lasting now (kept_with x (lasting now xs)))) fresh
          ∙ ap (λ l. c ∷ l) rest
      by false fresh other = rest

  pub put_at : (d : KeptView) (xs : CookieStore) (i : ℕ) → IsApart xs → i < length xs → ((k : ℕ) → k < i → gives_place x now (get_or xs k d) ≡ false) → gives_place x now (get_or xs i d) ≡ true
      → lasting now (kept_with x (lasting now xs)) ≡ lasting now (set xs i x)
  put_at d [] i apart below before here = absurd (omega arith)
  put_at d (c ∷ xs) zero apart below before here =
      let both = and_parts (lasts c.expiry now) (is_same_cookie c x) here in
      let others : All (λ y. is_same_cookie y c ≡ false) (lasting now xs) = All-filter (λ y. lasts y.expiry now) (λ y. is_same_cookie y c ≡ false) xs apart.0 in
      ap (λ b. lasting now (kept_with x (cond b (c ∷ lasting now xs) (lasting now xs)))) both.0
      ∙ ap (λ b. lasting now (cond b (x ∷ without x (lasting now xs)) (c ∷ kept_with x (lasting now xs)))) both.1
      ∙ ap (λ l. lasting now (x ∷ l)) (kept_all c x both.1 (lasting now xs) others)
      ∙ ap (λ l. cond (lasts x.expiry now) (x ∷ l) l) (lasting-twice now xs)
  put_at d (c ∷ xs) (suc i) apart below before here =
      past c xs (set xs i x) (put_at d xs i apart.1 (omega arith) (λ k lt. before (suc k) (omega arith)) here) (before 0 (omega arith))

  pub put_last : (d : KeptView) (xs : CookieStore) → ((k : ℕ) → k < length xs → gives_place x now (get_or xs k d) ≡ false)
      → lasting now (kept_with x (lasting now xs)) ≡ lasting now (xs ++ x ∷ [])
  put_last d [] none = refl
  put_last d (c ∷ xs) none = past c xs (xs ++ x ∷ []) (put_last d xs (λ k lt. none (suc k) (omega arith))) (none 0 (omega arith))

-- ---- the keys stay apart

pub apart-filter : (p : KeptView → Bool) (xs : CookieStore) → IsApart xs → IsApart (filter p xs)
apart-filter p [] apart = tt
apart-filter p (c ∷ xs) apart = by (apart-filter p xs apart.1) (p c)
  where
    by : IsApart (filter p xs) → (b : Bool) → IsApart (cond b (c ∷ filter p xs) (filter p xs))
    by rest true = (All-filter p (λ d. is_same_cookie d c ≡ false) xs apart.0, rest)
    by rest false = rest

pub All-put : (P : KeptView → Type 0) (x : KeptView) → P x → (store : CookieStore) → All P store → All P (kept_with x store)
All-put P x p [] all = All-cons P x [] p (All-nil P)
All-put P x p (c ∷ store) all = by (All-put P x p store (All-tail P c store all)) (is_same_cookie c x)
  where
    by : All P (kept_with x store) → (b : Bool) → All P (cond b (x ∷ filter (λ d. not (is_same_cookie d x)) store) (c ∷ kept_with x store))
    by rest true = All-cons P x (filter (λ d. not (is_same_cookie d x)) store) p (All-filter (λ d. not (is_same_cookie d x)) P store (All-tail P c store all))
    by rest false = All-cons P c (kept_with x store) (All-head P c store all) rest

pub apart-put : (x : KeptView) (xs : CookieStore) → IsApart xs → IsApart (kept_with x xs)
apart-put x [] apart = (All-nil (λ d. is_same_cookie d x ≡ false), tt)
apart-put x (c ∷ xs) apart = by (apart-put x xs apart.1) (is_same_cookie c x) refl
  where
    by : IsApart (kept_with x xs) → (b : Bool) → is_same_cookie c x ≡ b → IsApart (cond b (x ∷ without x xs) (c ∷ kept_with x xs))
    by rest true e =
        let others : All (λ d. is_same_cookie d x ≡ false) xs
        = All-weaker (λ d. is_same_cookie d c ≡ false) (λ d. is_same_cookie d x ≡ false) (λ d h. sym (same_key c x d e) ∙ h) xs apart.0 in
        (All-filter (λ d. not (is_same_cookie d x)) (λ d. is_same_cookie d x ≡ false) xs others, apart-filter (λ d. not (is_same_cookie d x)) xs apart.1)
    by rest false e = (All-put (λ d. is_same_cookie d c ≡ false) x (turned_key x c ∙ e) xs apart.0, rest)

pub apart-stored : (now : DateTime) (x : KeptView) (xs : CookieStore) → IsApart xs → IsApart (lasting now (kept_with x (lasting now xs)))
apart-stored now x xs apart =
    apart-filter (λ c. lasts c.expiry now) (kept_with x (lasting now xs)) (apart-put x (lasting now xs) (apart-filter (λ c. lasts c.expiry now) xs apart))

-- an access leaves the keys

same_accessed : (site : RequestView) (now : DateTime) (a b : KeptView) → is_same_cookie (accessed site now a) (accessed site now b) ≡ is_same_cookie a b
same_accessed site now a b = by (is_sent site now a) (is_sent site now b)
  where
    by : (r s : Bool) → is_same_cookie (cond r (record a { last_access = civil_nanos now }) a) (cond s (record b { last_access = civil_nanos now }) b) ≡ is_same_cookie a b
    by true true = refl
    by true false = refl
    by false true = refl
    by false false = refl

pub apart-accessed : (site : RequestView) (now : DateTime) (xs : CookieStore) → IsApart xs → IsApart (map (accessed site now) xs)
apart-accessed site now [] apart = tt
apart-accessed site now (c ∷ xs) apart = (
  All-map (λ d. is_same_cookie d (accessed site now c) ≡ false) (accessed site now) xs
      (All-weaker (λ d. is_same_cookie d c ≡ false) (λ d. is_same_cookie (accessed site now d) (accessed site now c) ≡ false) (λ d h. same_accessed site now d c ∙ h) xs apart.0),
  apart-accessed site now xs apart.1,
)
