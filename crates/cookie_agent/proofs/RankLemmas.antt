-- Which elements stay, by a list of them that is sorted.
use Rattle.std.proofs.Common.{◌≡◌, ℕ, zero, suc, ◌+◌, ◌<◌, ◌≤◌, ◌==◌, ◌&&◌, not, Bool, true, false, cond, List, [], ◌∷◌, ◌++◌, length, get_or, map, take, drop, refl, sym, ap, subst, ◌∙◌, All, ⊎_elim, arith, append_assoc, take-append-drop}
use Rattle.std.proofs.lemmas.Bool.{cases_order, false≢true}
use Rattle.std.proofs.lemmas.Bool.Decides.{Decides-eqb, nat_tests}
use Rattle.std.proofs.lemmas.List.{drop_more, get_or-drop, get_or_default, length-drop}
use Rattle.std.proofs.lemmas.List.Elements.{All-cons, All-head, All-map, All-nil, All-tail, All-weaker}
use Rattle.std.proofs.lemmas.List.Sorted.{sorted_far, sum_by-IsPermutation}
use Rattle.std.proofs.lemmas.List.Sums.{sum_by-append, sum_by-cons}
use Rattle.std.specs.Cmp.{IsStrictWeakOrder}
use Rattle.std.specs.List.{count_by, filter}
use Rattle.std.specs.List.Sorted.{IsPermutation, IsSortedBy}
use Rattle.std.specs.Prelude.{nat_lt}
use Rattle.cookie_agent.specs.LimitsCode.{Ascends, Rises}

-- ---- counts

module _ {X : Type 0} where
  pub counted-append : (p : X → Bool) (xs ys : List X) → count_by p (xs ++ ys) ≡ count_by p xs + count_by p ys
  counted-append p xs ys = sum_by-append (λ c. cond (p c) 1 0) xs ys

  pub counted-cons : (p : X → Bool) (c : X) (xs : List X) → count_by p (c ∷ xs) ≡ cond (p c) 1 0 + count_by p xs
  counted-cons p c xs = sum_by-cons (λ d. cond (p d) 1 0) c xs

  pub counted-moved : (p : X → Bool) (xs ys : List X) → IsPermutation xs ys → count_by p ys ≡ count_by p xs
  counted-moved p xs ys moved = sum_by-IsPermutation (λ c. cond (p c) 1 0) xs ys moved

  pub counted-same : (p q : X → Bool) (xs : List X) → All (λ c. p c ≡ q c) xs → count_by p xs ≡ count_by q xs
  counted-same p q [] all = refl
  counted-same p q (c ∷ xs) all =
      counted-cons p c xs
      ∙ ap (λ b. cond b 1 0 + count_by p xs) (All-head (λ d. p d ≡ q d) c xs all)
      ∙ ap (λ n. cond (q c) 1 0 + n) (counted-same p q xs (All-tail (λ d. p d ≡ q d) c xs all))
      ∙ sym (counted-cons q c xs)

  pub counted-none : (p : X → Bool) (xs : List X) → All (λ c. p c ≡ false) xs → count_by p xs ≡ 0
  counted-none p [] all = refl
  counted-none p (c ∷ xs) all =
      counted-cons p c xs
      ∙ ap (λ b. cond b 1 0 + count_by p xs) (All-head (λ d. p d ≡ false) c xs all)
      ∙ ap (λ n. 0 + n) (counted-none p xs (All-tail (λ d. p d ≡ false) c xs all))

  pub none-counted : (p : X → Bool) (xs : List X) → count_by p xs ≡ 0 → All (λ c. p c ≡ false) xs
  none-counted p [] none = All-nil (λ c. p c ≡ false)
  none-counted p (c ∷ xs) none = by (p c) refl (none-counted p xs)
    where
      whole : count_by p (c ∷ xs) ≡ cond (p c) 1 0 + count_by p xs
      whole = counted-cons p c xs

      by : (b : Bool) → p c ≡ b → (count_by p xs ≡ 0 → All (λ d. p d ≡ false) xs) → All (λ d. p d ≡ false) (c ∷ xs)
      by true e rest =
          let one : count_by p (c ∷ xs) ≡ 1 + count_by p xs = whole ∙ ap (λ b. cond b 1 0 + count_by p xs) e in
          let never : ⊥ = omega (arith, one, none) in
          absurd never
      by false e rest =
          let one : count_by p (c ∷ xs) ≡ 0 + count_by p xs = whole ∙ ap (λ b. cond b 1 0 + count_by p xs) e in
          All-cons (λ d. p d ≡ false) c xs e (rest (omega (arith, one, none)))

  pub counted-le : (p : X → Bool) (xs : List X) → count_by p xs ≤ length xs
  counted-le p [] = omega arith
  counted-le p (c ∷ xs) = let rest = counted-le p xs in by (p c) rest (counted-cons p c xs)
    where
      by : (b : Bool) → count_by p xs ≤ length xs → count_by p (c ∷ xs) ≡ cond b 1 0 + count_by p xs → count_by p (c ∷ xs) ≤ length (c ∷ xs)
      by true rest whole = omega (arith, rest, whole)
      by false rest whole = omega (arith, rest, whole)

  pub counted-filter : (p q : X → Bool) (xs : List X) → count_by p (filter q xs) ≤ count_by p xs
  counted-filter p q [] = omega arith
  counted-filter p q (c ∷ xs) = by (counted-filter p q xs) (q c)
    where
      whole : count_by p (c ∷ xs) ≡ cond (p c) 1 0 + count_by p xs
      whole = counted-cons p c xs

      by : count_by p (filter q xs) ≤ count_by p xs → (b : Bool) → count_by p (cond b (c ∷ filter q xs) (filter q xs)) ≤ count_by p (c ∷ xs)
      by rest true = let kept = counted-cons p c (filter q xs) in omega (arith, rest, kept, whole)
      by rest false = omega (arith, rest, whole)

-- ---- a list that rises

module _ {X : Type 0} (lt : X → X → Bool) where
  pub rises-by_places : (xs : List X) → ((i j : ℕ) (d : X) → i ≤ j → j < length xs → lt (get_or xs j d) (get_or xs i d) ≡ false) → Rises lt xs
  rises-by_places [] far = tt
  rises-by_places (x ∷ xs) far = (
    λ k d below. far 0 (suc k) d (omega arith) (omega (arith, below)),
    rises-by_places xs (λ i j d le below. far (suc i) (suc j) d (omega (arith, le)) (omega (arith, below))),
  )

  pub rises-sorted : IsStrictWeakOrder lt → (xs : List X) → IsSortedBy lt xs → Rises lt xs
  rises-sorted order xs sorted = rises-by_places xs (λ i j d le below. sorted_far lt order xs sorted i j d le below)

  -- the part after an element
  pub rises-from : (front : List X) (x : X) (rest : List X) → Rises lt (front ++ x ∷ rest) → Rises lt (x ∷ rest)
  rises-from [] x rest up = up
  rises-from (y ∷ front) x rest up = rises-from front x rest up.1

  -- the part before it
  pub rises-to : (front : List X) (x : X) (rest : List X) → Rises lt (front ++ x ∷ rest) → All (λ y. lt x y ≡ false) front
  rises-to [] x rest up = All-nil (λ y. lt x y ≡ false)
  rises-to (y ∷ front) x rest up =
      All-cons (λ z. lt x z ≡ false) y front (found front up.0) (rises-to front x rest up.1)
    where
      found : (zs : List X) → All (λ z. lt z y ≡ false) (zs ++ x ∷ rest) → lt x y ≡ false
      found [] all = All-head (λ z. lt z y ≡ false) x rest all
      found (z ∷ zs) all = found zs (All-tail (λ z. lt z y ≡ false) z (zs ++ x ∷ rest) all)

pub rises-map : {X Y : Type 0} (f : X → Y) (lt : Y → Y → Bool) (xs : List X) → Rises (λ a b. lt (f a) (f b)) xs → Rises lt (map f xs)
rises-map f lt [] up = tt
rises-map f lt (x ∷ xs) up = (All-map (λ y. lt y (f x) ≡ false) f xs up.0, rises-map f lt xs up.1)

-- ---- groups that are together in the sorted list

-- elements of one group are together in the order, and two that tie have one place
pub record AreGroups {X : Type 0} (same lt : X → X → Bool) (place : X → ℕ) : Type 0 where
  pub order : IsStrictWeakOrder lt
  pub itself : (x : X) → same x x ≡ true
  pub together : (x y z : X) → lt y x ≡ false → lt z y ≡ false → same x z ≡ true → same x y ≡ true
  pub moves : (x y : X) → same x y ≡ true → (z : X) → same x z ≡ same y z
  pub ties : (x y : X) → lt x y ≡ false → lt y x ≡ false → place x ≡ place y

module _ {X : Type 0} (same lt : X → X → Bool) (place : X → ℕ) (is : AreGroups same lt place) where
  -- how many of the group of x come after it
  abbrev pub after : X → List X → ℕ
  after x xs = count_by (λ y. same x y && lt x y) xs

  -- none of the rest is of the group, if the first isn't
  strangers : (x y : X) (ys : List X) → lt y x ≡ false → All (λ z. lt z y ≡ false) ys → same x y ≡ false → All (λ z. same x z ≡ false) ys
  strangers x y ys first up other =
      All-weaker (λ z. lt z y ≡ false) (λ z. same x z ≡ false) (λ z later. by z later (same x z) refl) ys up
    where
      by : (z : X) → lt z y ≡ false → (b : Bool) → same x z ≡ b → b ≡ false
      by z later true e = absurd (false≢true (sym other ∙ is.together x y z first later e))
      by z later false e = refl

  -- the k-th after x is of its group just if more than k of them are
  pub nth-same : (x : X) (xs : List X) → All (λ z. lt z x ≡ false) xs → Rises lt xs → (k : ℕ) (d : X) → k < length xs
      → same x (get_or xs k d) ≡ nat_lt k (count_by (same x) xs)
  nth-same x [] later up k d below = absurd (omega (arith, below))
  nth-same x (y ∷ ys) later up k d below =
      by (same x y) refl (λ j lt0. nth-same x ys (All-tail (λ z. lt z x ≡ false) y ys later) up.1 j d lt0) k below
    where
      here : lt y x ≡ false
      here = All-head (λ z. lt z x ≡ false) y ys later

      whole : count_by (same x) (y ∷ ys) ≡ cond (same x y) 1 0 + count_by (same x) ys
      whole = counted-cons (same x) y ys

      more : (n m : ℕ) → m ≡ 1 + n → true ≡ nat_lt 0 m
      more n m e = grind (arith, nat_tests, e)

      next : (j n m : ℕ) → m ≡ 1 + n → nat_lt j n ≡ nat_lt (suc j) m
      next j n m e = grind (arith, nat_tests, e)

      zeroth : (j m : ℕ) → m ≡ 0 → false ≡ nat_lt j m
      zeroth j m e = grind (arith, nat_tests, e)

      by : (b : Bool) → same x y ≡ b → ((j : ℕ) → j < length ys → same x (get_or ys j d) ≡ nat_lt j (count_by (same x) ys))
          → (j : ℕ) → j < length (y ∷ ys) → same x (get_or (y ∷ ys) j d) ≡ nat_lt j (count_by (same x) (y ∷ ys))
      by true e rest zero lt0 = e ∙ more (count_by (same x) ys) (count_by (same x) (y ∷ ys)) (whole ∙ ap (λ b. cond b 1 0 + count_by (same x) ys) e)
      by true e rest (suc j) lt0 =
          rest j (omega (arith, lt0))
          ∙ next j (count_by (same x) ys) (count_by (same x) (y ∷ ys)) (whole ∙ ap (λ b. cond b 1 0 + count_by (same x) ys) e)
      by false e rest j lt0 =
          let none = All-cons (λ z. same x z ≡ false) y ys e (strangers x y ys here up.0 e) in
          none j d lt0 ∙ zeroth j (count_by (same x) (y ∷ ys)) (counted-none (same x) (y ∷ ys) none)

  -- each place is there once at most
  abbrev pub AreOnce : List X → Type 0
  AreOnce xs = (n : ℕ) → count_by (λ y. place y == n) xs ≤ 1

  -- those after x in the list are after it in the order
  strictly : (front : List X) (x : X) (rest : List X) → AreOnce (front ++ x ∷ rest) → All (λ z. lt z x ≡ false) rest → All (λ z. lt x z ≡ true) rest
  strictly front x rest once later =
      let whole = counted-append (λ y. place y == place x) front (x ∷ rest) in
      let next : count_by (λ y. place y == place x) (x ∷ rest) ≡ 1 + count_by (λ y. place y == place x) rest
      = counted-cons (λ y. place y == place x) x rest ∙ ap (λ b. cond b 1 0 + count_by (λ y. place y == place x) rest) ((Decides-eqb (place x) (place x)).1 refl) in
      let most = once (place x) in
      let others : All (λ y. (place y == place x) ≡ false) rest
      = none-counted (λ y. place y == place x) rest (omega (arith, whole, next, most)) in
      λ k d below. by (get_or rest k d) (others k d below) (later k d below) (lt x (get_or rest k d)) refl
    where
      by : (z : X) → (place z == place x) ≡ false → lt z x ≡ false → (b : Bool) → lt x z ≡ b → b ≡ true
      by z apart after-x true e = refl
      by z apart after-x false e = absurd (false≢true (sym apart ∙ (Decides-eqb (place z) (place x)).1 (sym (is.ties x z e after-x))))

  -- in a sorted list as many come after x in its group as are in the group and later
  pub after-sorted : (front : List X) (x : X) (rest : List X) → AreOnce (front ++ x ∷ rest) → Rises lt (front ++ x ∷ rest)
      → after x (front ++ x ∷ rest) ≡ count_by (same x) rest
  after-sorted front x rest once up =
      let early = counted-none (λ y. same x y && lt x y) front (All-weaker (λ y. lt x y ≡ false) (λ y. same x y && lt x y ≡ false) (λ y e. unless (same x y) (lt x y) e) front (rises-to lt front x rest up)) in
      let here : same x x && lt x x ≡ false = unless (same x x) (lt x x) (self (lt x x) refl) in
      let late = counted-same (λ y. same x y && lt x y) (same x) rest
      (All-weaker (λ y. lt x y ≡ true) (λ y. same x y && lt x y ≡ same x y) (λ y e. when (same x y) (lt x y) e) rest (strictly front x rest once (rises-from lt front x rest up).0)) in
      let whole = counted-append (λ y. same x y && lt x y) front (x ∷ rest) in
      let next : after x (x ∷ rest) ≡ 0 + after x rest = counted-cons (λ y. same x y && lt x y) x rest ∙ ap (λ b. cond b 1 0 + after x rest) here in
      omega (arith, early, late, whole, next)
    where
      unless : (a b : Bool) → b ≡ false → a && b ≡ false
      unless true b e = e
      unless false b e = refl

      when : (a b : Bool) → b ≡ true → a && b ≡ a
      when true b e = e
      when false b e = refl

      self : (b : Bool) → lt x x ≡ b → lt x x ≡ false
      self true e = is.order.one_way x x e
      self false e = e

  -- ---- which of a sorted list are too many

  -- fewer than the limit come after it in its group
  abbrev pub stays : ℕ → List X → X → Bool
  stays limit xs x = nat_lt (after x xs) limit

  -- a list round one of its elements
  parts : (xs : List X) (r : ℕ) (x : X) → r < length xs → x ≡ get_or xs r x → xs ≡ take r xs ++ x ∷ drop (suc r) xs
  parts xs r x below at =
      sym (take-append-drop r xs)
      ∙ ap (λ l. take r xs ++ l) (drop_more xs r x below ∙ ap (λ c. c ∷ drop (r + 1) xs) (sym at) ∙ ap (λ n. x ∷ drop n xs) next)
    where
      next : r + 1 ≡ suc r
      next = omega arith

  after-at : (xs : List X) (r : ℕ) (x : X) → AreOnce xs → Rises lt xs → r < length xs → x ≡ get_or xs r x → after x xs ≡ count_by (same x) (drop (suc r) xs)
  after-at xs r x once up below at =
      let whole = parts xs r x below at in
      ap (after x) whole ∙ after-sorted (take r xs) x (drop (suc r) xs) (subst AreOnce whole once) (subst (Rises lt) whole up)

  -- too few follow it
  pub stays-near : (limit : ℕ) (xs : List X) (r : ℕ) (x : X) → AreOnce xs → Rises lt xs → r < length xs → x ≡ get_or xs r x → length xs ≤ r + limit
      → stays limit xs x ≡ true
  stays-near limit xs r x once up below at few =
      let found = after-at xs r x once up below at in
      let most = counted-le (same x) (drop (suc r) xs) in
      let size = length-drop (suc r) xs in
      less (after x xs) limit (omega (arith, found, most, size, few, below))
    where
      less : (n m : ℕ) → n < m → nat_lt n m ≡ true
      less n m lt0 = grind (arith, nat_tests)

  -- or the one that many later is of another group
  pub stays-far : (limit : ℕ) (xs : List X) (r : ℕ) (x y : X) → AreOnce xs → Rises lt xs → r < length xs → x ≡ get_or xs r x → r + limit < length xs → y ≡ get_or xs (r + limit) y
      → stays limit xs x ≡ not (same x y)
  stays-far zero xs r x y once up below at many place-y =
      let here : r + 0 ≡ r = omega arith in
      let one : y ≡ x = place-y ∙ ap (λ n. get_or xs n y) here ∙ get_or_default xs r y x below ∙ sym at in
      none (after x xs) ∙ sym (ap (λ z. not (same x z)) one ∙ ap not (is.itself x))
    where
      none : (n : ℕ) → nat_lt n 0 ≡ false
      none n = grind (arith, nat_tests)
  stays-far (suc k) xs r x y once up below at many place-y =
      let whole = parts xs r x below at in
      let found = after-at xs r x once up below at in
      let size = length-drop (suc r) xs in
      let inside : k < length (drop (suc r) xs) = omega (arith, size, many) in
      let next : suc r + k ≡ r + suc k = omega arith in
      let one : y ≡ get_or (drop (suc r) xs) k y = place-y ∙ ap (λ n. get_or xs n y) (sym next) ∙ sym (get_or-drop (suc r) xs k y) in
      let rises = rises-from lt (take r xs) x (drop (suc r) xs) (subst (Rises lt) whole up) in
      let test : same x y ≡ nat_lt k (count_by (same x) (drop (suc r) xs))
      = ap (same x) one ∙ nth-same x (drop (suc r) xs) rises.0 rises.1 k y inside in
      turned (after x xs) (count_by (same x) (drop (suc r) xs)) k (same x y) found test
    where
      turned : (n m k : ℕ) (b : Bool) → n ≡ m → b ≡ nat_lt k m → nat_lt n (suc k) ≡ not b
      turned n m k b e f = grind (arith, nat_tests, e, f)

  -- no group keeps more than the limit
  few_stay : (limit : ℕ) (whole front xs : List X) → AreOnce whole → Rises lt whole → whole ≡ front ++ xs → (g : X) → count_by (same g) (filter (stays limit whole) xs) ≤ limit
  few_stay limit whole front [] once up split g = omega arith
  few_stay limit whole front (x ∷ xs) once up split g =
      by (stays limit whole x) (same g x) refl refl
      (few_stay limit whole (front ++ x ∷ []) xs once up (split ∙ sym (append_assoc front (x ∷ []) xs)) g)
    where
      count : after x whole ≡ count_by (same x) xs
      count = ap (after x) split ∙ after-sorted front x xs (subst AreOnce split once) (subst (Rises lt) split up)

      under : (n m : ℕ) → nat_lt n m ≡ true → n < m
      under n m e = grind (arith, nat_tests, e)

      by : (b s : Bool) → stays limit whole x ≡ b → same g x ≡ s → count_by (same g) (filter (stays limit whole) xs) ≤ limit
          → count_by (same g) (cond b (x ∷ filter (stays limit whole) xs) (filter (stays limit whole) xs)) ≤ limit
      by false s e f rest = rest
      by true false e f rest =
          let next : count_by (same g) (x ∷ filter (stays limit whole) xs) ≡ 0 + count_by (same g) (filter (stays limit whole) xs)
          = counted-cons (same g) x (filter (stays limit whole) xs) ∙ ap (λ b. cond b 1 0 + count_by (same g) (filter (stays limit whole) xs)) f in
          omega (arith, next, rest)
      by true true e f rest =
          let next : count_by (same g) (x ∷ filter (stays limit whole) xs) ≡ 1 + count_by (same g) (filter (stays limit whole) xs)
          = counted-cons (same g) x (filter (stays limit whole) xs) ∙ ap (λ b. cond b 1 0 + count_by (same g) (filter (stays limit whole) xs)) f in
          let fewer = counted-filter (same g) (stays limit whole) xs in
          let alike : count_by (same g) xs ≡ count_by (same x) xs = counted-same (same g) (same x) xs (λ k d below. is.moves g x f (get_or xs k d)) in
          let lower = under (after x whole) limit e in
          omega (arith, next, fewer, alike, lower, count)

  pub few-stay : (limit : ℕ) (xs : List X) → AreOnce xs → Rises lt xs → (g : X) → count_by (same g) (filter (stays limit xs) xs) ≤ limit
  few-stay limit xs once up g = few_stay limit xs [] xs once up refl g

-- ---- places that ascend

pub ascends-lower : (n m : ℕ) (xs : List ℕ) → n ≤ m → Ascends m xs → Ascends n xs
ascends-lower n m [] le up = tt
ascends-lower n m (a ∷ xs) le up = let first = up.0 in (omega (arith, le, first), up.1)

below-none : (n m : ℕ) (xs : List ℕ) → Ascends m xs → n < m → count_by (λ y. y == n) xs ≡ 0
below-none n m [] up lt = refl
below-none n m (a ∷ xs) up lt =
    let first = up.0 in
    let other : (a == n) ≡ false = apart a n (omega (arith, lt, first)) in
    counted-cons (λ y. y == n) a xs ∙ ap (λ b. cond b 1 0 + count_by (λ y. y == n) xs) other
    ∙ ap (λ k. 0 + k) (below-none n (suc a) xs up.1 (omega (arith, lt, first)))
  where
    apart : (a n : ℕ) → n < a → (a == n) ≡ false
    apart a n lt = grind (arith, nat_tests)

counted-here : (a : ℕ) (xs : List ℕ) → count_by (λ y. y == a) (a ∷ xs) ≡ 1 + count_by (λ y. y == a) xs
counted-here a xs = counted-cons (λ y. y == a) a xs ∙ ap (λ b. cond b 1 0 + count_by (λ y. y == a) xs) ((Decides-eqb a a).1 refl)

-- lists that ascend and have the same places are the same
pub ascending-same : (n : ℕ) (xs ys : List ℕ) → Ascends n xs → Ascends n ys → ((k : ℕ) → count_by (λ y. y == k) xs ≡ count_by (λ y. y == k) ys) → xs ≡ ys
ascending-same n [] [] up up' same = refl
ascending-same n [] (b ∷ ys) up up' same =
    let counts = same b in
    let here = counted-here b ys in
    let never : ⊥ = omega (arith, counts, here) in
    absurd never
ascending-same n (a ∷ xs) [] up up' same =
    let counts = same a in
    let here = counted-here a xs in
    let never : ⊥ = omega (arith, counts, here) in
    absurd never
ascending-same n (a ∷ xs) (b ∷ ys) up up' same =
    ⊎_elim (λ e. both e (λ f. ascending-same (suc a) xs ys up.1 (subst (λ k. Ascends (suc k) ys) (sym e) up'.1) f))
    (λ h. ⊎_elim (λ lt. absurd (never a b xs ys up.1 up'.1 (λ k. same k) lt)) (λ lt. absurd (never b a ys xs up'.1 up.1 (λ k. sym (same k)) lt)) h)
    (cases_order a b)
  where
    never : (a b : ℕ) (xs ys : List ℕ) → Ascends (suc a) xs → Ascends (suc b) ys → ((k : ℕ) → count_by (λ y. y == k) (a ∷ xs) ≡ count_by (λ y. y == k) (b ∷ ys)) → a < b → ⊥
    never a b xs ys up up' same lt =
        let counts = same a in
        let here = counted-here a xs in
        let none = below-none a b (b ∷ ys) (omega arith, up') lt in
        omega (arith, counts, here, none)

    both : a ≡ b → (((k : ℕ) → count_by (λ y. y == k) xs ≡ count_by (λ y. y == k) ys) → xs ≡ ys) → a ∷ xs ≡ b ∷ ys
    both e rest =
        let tails = rest (λ k. by k (same k)) in
        (λ i. e i ∷ tails i)
      where
        by : (k : ℕ) → count_by (λ y. y == k) (a ∷ xs) ≡ count_by (λ y. y == k) (b ∷ ys) → count_by (λ y. y == k) xs ≡ count_by (λ y. y == k) ys
        by k counts =
            let one = counted-cons (λ y. y == k) a xs in
            let two = counted-cons (λ y. y == k) b ys ∙ ap (λ c. cond (c == k) 1 0 + count_by (λ y. y == k) ys) (sym e) in
            omega (arith, counts, one, two)

-- a sorted list of different places ascends
ascends-from : (n : ℕ) (xs : List ℕ) → ((k d : ℕ) → k < length xs → n ≤ get_or xs k d) → ((i j d : ℕ) → i ≤ j → j < length xs → get_or xs i d ≤ get_or xs j d)
    → ((k : ℕ) → count_by (λ y. y == k) xs ≤ 1) → Ascends n xs
ascends-from n [] low up once = tt
ascends-from n (a ∷ xs) low up once = (
  low 0 0 (omega arith),
  ascends-from (suc a) xs (λ k d below. above k d below) (λ i j d le below. up (suc i) (suc j) d (omega (arith, le)) (omega (arith, below)))
      (λ k. let whole = counted-cons (λ y. y == k) a xs in let most = once k in omega (arith, whole, most)),
)
  where
    above : (k d : ℕ) → k < length xs → suc a ≤ get_or xs k d
    above k d below =
        let here = counted-here a xs in
        let most = once a in
        let none = none-counted (λ y. y == a) xs (omega (arith, here, most)) in
        let le = up 0 (suc k) d (omega arith) (omega (arith, below)) in
        apart (get_or xs k d) a le (none k d below)
      where
        apart : (y a : ℕ) → a ≤ y → (y == a) ≡ false → suc a ≤ y
        apart y a le e = grind (arith, nat_tests, le, e)

pub ascends-sorted : (xs : List ℕ) → ((i j d : ℕ) → i ≤ j → j < length xs → get_or xs i d ≤ get_or xs j d) → ((k : ℕ) → count_by (λ y. y == k) xs ≤ 1) → Ascends 0 xs
ascends-sorted xs up once = ascends-from 0 xs (λ k d below. omega arith) up once

pub once-ascending : (n : ℕ) (xs : List ℕ) → Ascends n xs → (k : ℕ) → count_by (λ y. y == k) xs ≤ 1
once-ascending n [] up k = omega arith
once-ascending n (a ∷ xs) up k =
    let whole = counted-cons (λ y. y == k) a xs in
    let rest = once-ascending (suc a) xs up.1 k in
    by (a == k) refl whole rest
  where
    by : (b : Bool) → (a == k) ≡ b → count_by (λ y. y == k) (a ∷ xs) ≡ cond (a == k) 1 0 + count_by (λ y. y == k) xs → count_by (λ y. y == k) xs ≤ 1
        → count_by (λ y. y == k) (a ∷ xs) ≤ 1
    by false e whole rest =
        let one : count_by (λ y. y == k) (a ∷ xs) ≡ 0 + count_by (λ y. y == k) xs = whole ∙ ap (λ b. cond b 1 0 + count_by (λ y. y == k) xs) e in
        omega (arith, one, rest)
    by true e whole rest =
        let one : count_by (λ y. y == k) (a ∷ xs) ≡ 1 + count_by (λ y. y == k) xs = whole ∙ ap (λ b. cond b 1 0 + count_by (λ y. y == k) xs) e in
        let is : a ≡ k = (Decides-eqb a k).0 e in
        let none = below-none k (suc a) xs up.1 (omega (arith, is)) in
        omega (arith, one, none)

pub ascends-filter : (p : ℕ → Bool) (n : ℕ) (xs : List ℕ) → Ascends n xs → Ascends n (filter p xs)
ascends-filter p n [] up = tt
ascends-filter p n (a ∷ xs) up = by (p a) (ascends-filter p (suc a) xs up.1)
  where
    by : (b : Bool) → Ascends (suc a) (filter p xs) → Ascends n (cond b (a ∷ filter p xs) (filter p xs))
    by true rest = (up.0, rest)
    by false rest = let first = up.0 in ascends-lower n (suc a) (filter p xs) (omega (arith, first)) rest

-- ---- the places of those that stay

module _ {X : Type 0} where
  pub counted-map : {Y : Type 0} (p : Y → Bool) (f : X → Y) (xs : List X) → count_by p (map f xs) ≡ count_by (λ x. p (f x)) xs
  counted-map p f [] = refl
  counted-map p f (x ∷ xs) =
      counted-cons p (f x) (map f xs) ∙ ap (λ n. cond (p (f x)) 1 0 + n) (counted-map p f xs) ∙ sym (counted-cons (λ y. p (f y)) x xs)

  pub counted-both : (p q : X → Bool) (xs : List X) → count_by p (filter q xs) ≡ count_by (λ x. q x && p x) xs
  counted-both p q [] = refl
  counted-both p q (x ∷ xs) = by (q x) refl (counted-both p q xs)
    where
      by : (b : Bool) → q x ≡ b → count_by p (filter q xs) ≡ count_by (λ y. q y && p y) xs
          → count_by p (cond b (x ∷ filter q xs) (filter q xs)) ≡ count_by (λ y. q y && p y) (x ∷ xs)
      by true e rest =
          counted-cons p x (filter q xs) ∙ ap (λ n. cond (p x) 1 0 + n) rest
          ∙ sym (counted-cons (λ y. q y && p y) x xs ∙ ap (λ b. cond (b && p x) 1 0 + count_by (λ y. q y && p y) xs) e)
      by false e rest =
          let one : count_by (λ y. q y && p y) (x ∷ xs) ≡ 0 + count_by (λ y. q y && p y) xs
          = counted-cons (λ y. q y && p y) x xs ∙ ap (λ b. cond (b && p x) 1 0 + count_by (λ y. q y && p y) xs) e in
          omega (arith, rest, one)

module _ {X : Type 0} (same lt : X → X → Bool) (place : X → ℕ) (is : AreGroups same lt place) (at : ℕ → X) (placed : (n : ℕ) → place (at n) ≡ n) where
  -- the places of those in whose group fewer than the limit come later in the order
  abbrev pub kept_places : ℕ → List ℕ → List ℕ
  kept_places limit places = filter (λ n. stays same lt place is limit (map at places) (at n)) places

  pub once-placed : (places : List ℕ) (xs : List X) → Ascends 0 places → IsPermutation (map at places) xs → AreOnce same lt place is xs
  once-placed places xs up moved k =
      let there = counted-moved (λ y. place y == k) (map at places) xs moved ∙ counted-map (λ y. place y == k) at places
      ∙ counted-same (λ n. place (at n) == k) (λ n. n == k) places (λ j d below. ap (λ m. m == k) (placed (get_or places j d))) in
      let most = once-ascending 0 places up k in
      omega (arith, there, most)

  module _ (limit : ℕ) (places : List ℕ) (xs : List X) (up : Ascends 0 places) (moved : IsPermutation (map at places) xs) where
    st : X → Bool
    st y = stays same lt place is limit (map at places) y

    st-is : (y : X) → stays same lt place is limit xs y ≡ st y
    unfolding st
    st-is y = ap (λ n. nat_lt n limit) (counted-moved (λ z. same y z && lt y z) (map at places) xs moved)

    -- a count of those that stay, in either list
    counted-stay : (p : X → Bool) → count_by p (filter (stays same lt place is limit xs) xs) ≡ count_by (λ n. p (at n)) (kept_places limit places)
    unfolding st
    counted-stay p =
        counted-both p (stays same lt place is limit xs) xs
        ∙ counted-same (λ y. stays same lt place is limit xs y && p y) (λ y. st y && p y) xs (λ k d below. ap (λ b. b && p (get_or xs k d)) (st-is (get_or xs k d)))
        ∙ counted-moved (λ y. st y && p y) (map at places) xs moved
        ∙ counted-map (λ y. st y && p y) at places
        ∙ sym (counted-both (λ n. p (at n)) (λ n. st (at n)) places)

    -- the places that were found, once they are sorted
    pub kept_places-sorted : (found sorted : List ℕ) → found ≡ map place (filter (stays same lt place is limit xs) xs) → IsPermutation found sorted
        → ((i j d : ℕ) → i ≤ j → j < length sorted → get_or sorted i d ≤ get_or sorted j d) → sorted ≡ kept_places limit places
    kept_places-sorted found sorted which moved' rises =
        ascending-same 0 sorted (kept_places limit places) (ascends-sorted sorted rises once) kept-up counts
      where
        kept-up : Ascends 0 (kept_places limit places)
        kept-up = ascends-filter (λ n. stays same lt place is limit (map at places) (at n)) 0 places up

        counts : (k : ℕ) → count_by (λ y. y == k) sorted ≡ count_by (λ y. y == k) (kept_places limit places)
        counts k =
            counted-moved (λ y. y == k) found sorted moved' ∙ ap (count_by (λ y. y == k)) which
            ∙ counted-map (λ y. y == k) place (filter (stays same lt place is limit xs) xs)
            ∙ counted-stay (λ y. place y == k)
            ∙ counted-same (λ n. place (at n) == k) (λ n. n == k) (kept_places limit places) (λ j d below. ap (λ m. m == k) (placed (get_or (kept_places limit places) j d)))

        once : (k : ℕ) → count_by (λ y. y == k) sorted ≤ 1
        once k = let there = counts k in let most = once-ascending 0 (kept_places limit places) kept-up k in omega (arith, there, most)

    pub few-kept : Rises lt xs → (g : X) → count_by (λ n. same g (at n)) (kept_places limit places) ≤ limit
    few-kept rises g =
        let there = counted-stay (same g) in
        let most = few-stay same lt place is limit xs (once-placed places xs up moved) rises g in
        omega (arith, there, most)

pub ascends-push : (n : ℕ) (ps : List ℕ) (i : ℕ) → n ≤ i → Ascends n ps → All (λ p. p < i) ps → Ascends n (ps ++ i ∷ [])
ascends-push n [] i le up below = (le, tt)
ascends-push n (p ∷ ps) i le up below =
    let here = All-head (λ q. q < i) p ps below in
    (up.0, ascends-push (suc p) ps i (omega (arith, here)) up.1 (All-tail (λ q. q < i) p ps below))
