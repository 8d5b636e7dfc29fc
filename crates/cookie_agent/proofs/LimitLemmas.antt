-- What is left of too many cookies, and which places it is at.
use Rattle.std.proofs.Common.{◌≡◌, ℕ, suc, ◌+◌, ◌<◌, ◌≤◌, ◌&&◌, not, Bool, true, false, cond, List, [], ◌∷◌, ◌++◌, length, get_or, map, Option, Some, None, refl, sym, ap, subst, ◌∙◌, All, arith, append_assoc}
use Rattle.std.proofs.lemmas.List.{map-append}
use Rattle.std.proofs.lemmas.Bool.Decides.{nat_tests}
use Rattle.std.proofs.lemmas.List.Elements.{All-nil, All-cons, All-head, All-tail, All-weaker}
use Rattle.std.proofs.lemmas.Slice.Eq.{bytes_eq-Decides}
use Rattle.std.specs.List.{count_by, filter}
use Rattle.std.specs.Prelude.{nat_lt}
use Rattle.cookie_browser.specs.Storage.{KeptView, CookieStore, is_same_cookie}
use Rattle.cookie_agent.specs.Limits.{counts, goes_first, outlasting, staying}
use Rattle.cookie_agent.specs.LimitsCode.{Ascends}
use Rattle.cookie_agent.specs.Stored.{IsApart}
use Rattle.cookie_agent.proofs.RankLemmas.{AreGroups, after, counted-append, counted-cons, counted-le, counted-map, counted-same, stays}

-- ---- counts

one_more : (b a : Bool) → cond {A = ℕ} (b && a) 1 0 ≤ cond b 1 0
one_more true true = omega arith
one_more true false = omega arith
one_more false a = omega arith

count_and : (p q : KeptView → Bool) (xs : CookieStore) → count_by (λ c. p c && q c) xs ≤ count_by p xs
count_and p q [] = omega arith
count_and p q (c ∷ xs) =
    let tail = count_and p q xs in
    let head = one_more (p c) (q c) in
    let left = counted-cons (λ d. p d && q d) c xs in
    let right = counted-cons p c xs in
    omega (arith, tail, head, left, right)

count_with : (p : KeptView → Bool) (xs : CookieStore) (m : KeptView) (ys : CookieStore) → p m ≡ true → count_by p (xs ++ m ∷ ys) ≡ count_by p xs + 1 + count_by p ys
count_with p xs m ys e =
    let one = counted-append p xs (m ∷ ys) in
    let next : count_by p (m ∷ ys) ≡ 1 + count_by p ys = counted-cons p m ys ∙ ap (λ b. cond b 1 0 + count_by p ys) e in
    omega (arith, one, next)

less : (n limit : ℕ) → n < limit → nat_lt n limit ≡ true
less n limit lt = grind (arith, nat_tests)

-- a cookie is counted with itself
module _ (by : Option (KeptView → List ℕ)) (own : (c : KeptView) → counts by c c ≡ true) (limit : ℕ) where
  -- if none is counted with too many, all stay
  all_stay : (before xs : CookieStore) → All (λ c. count_by (counts by c) (before ++ xs) ≤ limit) xs → staying by limit before xs ≡ xs
  all_stay before [] few = refl
  all_stay before (c ∷ xs) few =
      let whole = count_with (counts by c) before c xs (own c) in
      let one = count_and (counts by c) (λ o. goes_first by c o) before in
      let two = count_and (counts by c) (λ o. not (goes_first by o c)) xs in
      let enough = All-head (λ d. count_by (counts by d) (before ++ c ∷ xs) ≤ limit) c xs few in
      let under : outlasting by before c xs < limit = omega (arith, whole, one, two, enough) in
      let rest : staying by limit (before ++ c ∷ []) xs ≡ xs
      = all_stay (before ++ c ∷ []) xs
      (subst (λ l. All (λ d. count_by (counts by d) l ≤ limit) xs) (sym (append_assoc before (c ∷ []) xs))
      (All-tail (λ d. count_by (counts by d) (before ++ c ∷ xs) ≤ limit) c xs few)) in
      ap (λ b. cond b (c ∷ staying by limit (before ++ c ∷ []) xs) (staying by limit (before ++ c ∷ []) xs)) (less (outlasting by before c xs) limit under)
      ∙ ap (λ l. c ∷ l) rest

  pub staying-all : (xs : CookieStore) → All (λ c. count_by (counts by c) xs ≤ limit) xs → staying by limit [] xs ≡ xs
  staying-all xs few = all_stay [] xs few

-- ---- what stays is part of what was

module _ (text : Option (KeptView → List ℕ)) (limit : ℕ) where
  pub count-staying : (p : KeptView → Bool) (before xs : CookieStore) → count_by p (staying text limit before xs) ≤ count_by p xs
  count-staying p before [] = omega arith
  count-staying p before (c ∷ xs) = by (count-staying p (before ++ c ∷ []) xs) (nat_lt (outlasting text before c xs) limit)
    where
      whole : count_by p (c ∷ xs) ≡ cond (p c) 1 0 + count_by p xs
      whole = counted-cons p c xs

      by : count_by p (staying text limit (before ++ c ∷ []) xs) ≤ count_by p xs → (b : Bool)
          → count_by p (cond b (c ∷ staying text limit (before ++ c ∷ []) xs) (staying text limit (before ++ c ∷ []) xs)) ≤ count_by p (c ∷ xs)
      by h true = let kept = counted-cons p c (staying text limit (before ++ c ∷ []) xs) in omega (arith, h, kept, whole)
      by h false = omega (arith, h, whole)

  pub All-staying : (P : KeptView → Type 0) (before xs : CookieStore) → All P xs → All P (staying text limit before xs)
  All-staying P before [] all = All-nil P
  All-staying P before (c ∷ xs) all = by (All-staying P (before ++ c ∷ []) xs (All-tail P c xs all)) (nat_lt (outlasting text before c xs) limit)
    where
      by : All P (staying text limit (before ++ c ∷ []) xs) → (b : Bool)
          → All P (cond b (c ∷ staying text limit (before ++ c ∷ []) xs) (staying text limit (before ++ c ∷ []) xs))
      by h true = All-cons P c (staying text limit (before ++ c ∷ []) xs) (All-head P c xs all) h
      by h false = h

  pub apart-staying : (before xs : CookieStore) → IsApart xs → IsApart (staying text limit before xs)
  apart-staying before [] apart = tt
  apart-staying before (c ∷ xs) apart = by (apart-staying (before ++ c ∷ []) xs apart.1) (nat_lt (outlasting text before c xs) limit)
    where
      by : IsApart (staying text limit (before ++ c ∷ []) xs) → (b : Bool)
          → IsApart (cond b (c ∷ staying text limit (before ++ c ∷ []) xs) (staying text limit (before ++ c ∷ []) xs))
      by h true = (All-staying (λ d. is_same_cookie d c ≡ false) (before ++ c ∷ []) xs apart.0, h)
      by h false = h

-- ---- what cookies are counted by

pub of_text : (text : KeptView → List ℕ) (c : KeptView) → counts (Some text) c c ≡ true
of_text text c = (bytes_eq-Decides (text c) (text c)).1 refl

pub of_all : (c : KeptView) → counts None c c ≡ true
of_all c = refl

pub count-every : (c : KeptView) (xs : CookieStore) → count_by (counts None c) xs ≡ length xs
count-every c [] = refl
count-every c (x ∷ xs) = let h = count-every c xs in let next = counted-cons (counts None c) x xs in omega (arith, h, next)

pub few_of_each : (text : Option (KeptView → List ℕ)) (limit : ℕ) (xs : CookieStore) → ((c : KeptView) → count_by (counts text c) xs ≤ limit)
    → All (λ c. count_by (counts text c) xs ≤ limit) xs
few_of_each text limit xs few k d below = few (get_or xs k d)

-- so few cookies that no limit is exceeded
pub few_at_all : (text : Option (KeptView → List ℕ)) (limit : ℕ) (xs : CookieStore) → length xs ≤ limit → (c : KeptView) → count_by (counts text c) xs ≤ limit
few_at_all text limit xs fits c = let most = counted-le (counts text c) xs in omega (arith, most, fits)

pub few_in_all : (limit : ℕ) (xs : CookieStore) → length xs ≤ limit → (c : KeptView) → count_by (counts None c) xs ≤ limit
few_in_all limit xs few c = let h = count-every c xs in omega (arith, h, few)

-- ---- the places of what is left

module _ {X : Type 0} (same lt : X → X → Bool) (place : X → ℕ) (is : AreGroups same lt place) (at : ℕ → X) (text : Option (KeptView → List ℕ)) (cookie : ℕ → KeptView)
    (before : (n e : ℕ) → e < n → (same (at n) (at e) && lt (at n) (at e)) ≡ (counts text (cookie n) (cookie e) && goes_first text (cookie n) (cookie e)))
    (behind : (n l : ℕ) → n < l → (same (at n) (at l) && lt (at n) (at l)) ≡ (counts text (cookie n) (cookie l) && not (goes_first text (cookie l) (cookie n)))) where
  ascends-above : (m : ℕ) (xs : List ℕ) → Ascends m xs → All (λ l. m ≤ l) xs
  ascends-above m [] up = All-nil (λ l. m ≤ l)
  ascends-above m (a ∷ xs) up = let first = up.0 in All-cons (λ l. m ≤ l) a xs first (All-weaker (λ l. suc a ≤ l) (λ l. m ≤ l) (λ l le. omega (arith, first, le)) xs (ascends-above (suc a) xs up.1))

  below-more : (early : List ℕ) (n m : ℕ) → All (λ e. e < n) early → n < m → All (λ e. e < m) (early ++ n ∷ [])
  below-more [] n m all lt' = All-cons (λ e. e < m) n [] lt' (All-nil (λ e. e < m))
  below-more (e ∷ early) n m all lt' =
      let first = All-head (λ k. k < n) e early all in
      All-cons (λ k. k < m) e (early ++ n ∷ []) (omega (arith, first, lt')) (below-more early n m (All-tail (λ k. k < n) e early all) lt')

  level : (early : List ℕ) (n : ℕ) (late : List ℕ) → All (λ e. e < n) early → All (λ l. suc n ≤ l) late
      → outlasting text (map cookie early) (cookie n) (map cookie late) ≡ after same lt place is (at n) (map at (early ++ n ∷ late))
  level early n late lower higher =
      let test : X → Bool = λ y. same (at n) y && lt (at n) y in
      let one : count_by (λ o. counts text (cookie n) o && goes_first text (cookie n) o) (map cookie early) ≡ count_by (λ e. test (at e)) early
      = counted-map (λ o. counts text (cookie n) o && goes_first text (cookie n) o) cookie early
      ∙ counted-same _ (λ e. test (at e)) early (All-weaker (λ e. e < n) _ (λ e lt'. sym (before n e lt')) early lower) in
      let two : count_by (λ o. counts text (cookie n) o && not (goes_first text o (cookie n))) (map cookie late) ≡ count_by (λ l. test (at l)) late
      = counted-map (λ o. counts text (cookie n) o && not (goes_first text o (cookie n))) cookie late
      ∙ counted-same _ (λ l. test (at l)) late (All-weaker (λ l. suc n ≤ l) _ (λ l le. sym (behind n l le)) late higher) in
      let whole : count_by test (map at (early ++ n ∷ late)) ≡ count_by (λ k. test (at k)) (early ++ n ∷ late) = counted-map test at (early ++ n ∷ late) in
      let split = counted-append (λ k. test (at k)) early (n ∷ late) in
      let here : test (at n) ≡ false = unless (same (at n) (at n)) (lt (at n) (at n)) (self (lt (at n) (at n)) refl) in
      let next : count_by (λ k. test (at k)) (n ∷ late) ≡ 0 + count_by (λ k. test (at k)) late
      = counted-cons (λ k. test (at k)) n late ∙ ap (λ b. cond b 1 0 + count_by (λ k. test (at k)) late) here in
      omega (arith, one, two, whole, split, next)
    where
      unless : (a b : Bool) → b ≡ false → a && b ≡ false
      unless true b e = e
      unless false b e = refl

      self : (b : Bool) → lt (at n) (at n) ≡ b → lt (at n) (at n) ≡ false
      self true e = is.order.one_way (at n) (at n) e
      self false e = e

  staying_places : (limit m : ℕ) (early late : List ℕ) → All (λ e. e < m) early → Ascends m late
      → staying text limit (map cookie early) (map cookie late) ≡ map cookie (filter (λ n. stays same lt place is limit (map at (early ++ late)) (at n)) late)
  staying_places limit m early [] lower up = refl
  staying_places limit m early (n ∷ late) lower up =
      let first = up.0 in
      let lower' : All (λ e. e < n) early = All-weaker (λ e. e < m) (λ e. e < n) (λ e lt'. omega (arith, lt', first)) early lower in
      let outlast = level early n late lower' (ascends-above (suc n) late up.1) in
      let rest : staying text limit (map cookie early ++ cookie n ∷ []) (map cookie late)
      ≡ map cookie (filter (λ k. stays same lt place is limit (map at (early ++ n ∷ late)) (at k)) late)
      = ap (λ l. staying text limit l (map cookie late)) (sym (map-append cookie early (n ∷ [])))
      ∙ staying_places limit (suc n) (early ++ n ∷ []) late (below-more early n (suc n) lower' (omega arith)) up.1
      ∙ ap (λ l. map cookie (filter (λ k. stays same lt place is limit (map at l) (at k)) late)) (append_assoc early (n ∷ []) late) in
      ap (λ k. cond (nat_lt k limit) (cookie n ∷ staying text limit (map cookie early ++ cookie n ∷ []) (map cookie late)) (staying text limit (map cookie early ++ cookie n ∷ []) (map cookie late))) outlast
      ∙ ap (λ l. cond (stays same lt place is limit (map at (early ++ n ∷ late)) (at n)) (cookie n ∷ l) l) rest
      ∙ by (stays same lt place is limit (map at (early ++ n ∷ late)) (at n)) (filter (λ k. stays same lt place is limit (map at (early ++ n ∷ late)) (at k)) late)
    where
      by : (b : Bool) (l : List ℕ) → cond b (cookie n ∷ map cookie l) (map cookie l) ≡ map cookie (cond b (n ∷ l) l)
      by true l = refl
      by false l = refl

  pub staying-kept : (limit : ℕ) (places : List ℕ) → Ascends 0 places
      → staying text limit [] (map cookie places) ≡ map cookie (filter (λ n. stays same lt place is limit (map at places) (at n)) places)
  staying-kept limit places up = staying_places limit 0 [] places (All-nil (λ e. e < 0)) up
