-- Cookies that are stored in turn: each is put in the place of the one with its key, which a map knows.
use Rattle.std.proofs.Common.{◌≡◌, ℕ, suc, ◌+◌, ◌-◌, ◌<◌, ◌≤◌, ◌&&◌, not, Bool, true, false, cond, List, [], ◌∷◌, ◌++◌, length, Option, Some, None, unwrap_or, refl, sym, ap, ◌∙◌, All, arith}
use Rattle.std.proofs.Math.ListN.{set}
use Rattle.std.proofs.lemmas.Bool.{false≢true}
use Rattle.std.proofs.lemmas.List.{append_assoc, append-nil}
use Rattle.std.proofs.lemmas.List.Elements.{All-head, All-tail, All-nil, All-cons}
use Rattle.std.specs.BTreeMap.{BTreeMap, UpdatesBy, get, is_at}
use Rattle.std.specs.Cmp.{tied_then}
use Rattle.std.specs.Cmp.Lexicographic.{slice_cmp, texts_ties}
use Rattle.std.specs.List.{filter, position_from}
use Rattle.std.specs.Map.{lookup}
use Rattle.std.specs.Ordering.{bool_cmp, eq_by_cmp, is_eq, nat_cmp, ordering_then}
use Rattle.cookie_browser.specs.Storage.{KeptView, CookieStore, both_or_neither, is_same_cookie, kept_with}
use Rattle.cookie_agent.specs.Stored.{IsApart, kept_with_each}
use Rattle.cookie_agent.specs.StoredCode.{ArePlaces, IsSummed, SummedKey, key_view, summed_key_cmp}
use Rattle.cookie_agent.specs.SumsCode.{sum_of}
use Rattle.cookie_agent.proofs.KeyLemmas.{alike, same_key, turned_key}
use Rattle.cookie_agent.proofs.PutLemmas.{kept_all}
use Rattle.cookie_agent.proofs.SumLemmas.{spared, tied_numbers}

-- ---- keys

tied_flags : (a b : Bool) → is_eq (bool_cmp a b) ≡ both_or_neither a b
tied_flags true true = refl
tied_flags true false = refl
tied_flags false true = refl
tied_flags false false = refl

same_sum : (p q : SummedKey) → IsSummed p → IsSummed q → is_same_cookie (key_view p.1.now) (key_view q.1.now) ≡ true → p.0 ≡ q.0
same_sum p q summed other e =
    let same = alike (key_view p.1.now) (key_view q.1.now) e in
    summed ∙ ap (λ name. sum_of name p.1.now.domain.items) same.name ∙ ap (sum_of q.1.now.name.items) same.domain ∙ sym other

-- two keys with the sums of their texts tie if they are of the same cookie
pub tied_keys : (p q : SummedKey) → IsSummed p → IsSummed q → eq_by_cmp summed_key_cmp p q ≡ is_same_cookie (key_view p.1.now) (key_view q.1.now)
tied_keys p q summed other =
    let a = p.1.now in
    let b = q.1.now in
    let sum = nat_cmp p.0 q.0 in
    let name = slice_cmp nat_cmp a.name.items b.name.items in
    let domain = slice_cmp nat_cmp a.domain.items b.domain.items in
    let flag = bool_cmp a.is_host_only b.is_host_only in
    let path = slice_cmp nat_cmp a.path.items b.path.items in
    let by_name = sym (texts_ties a.name.items b.name.items) in
    let by_domain = sym (texts_ties a.domain.items b.domain.items) in
    let by_path = sym (texts_ties a.path.items b.path.items) in
    sym (tied_then sum (ordering_then name (ordering_then domain (ordering_then flag path))))
    ∙ ap (λ c. is_eq sum && c) (sym (tied_then name (ordering_then domain (ordering_then flag path))))
    ∙ ap (λ c. is_eq sum && (is_eq name && c)) (sym (tied_then domain (ordering_then flag path)))
    ∙ ap (λ c. is_eq sum && (is_eq name && (is_eq domain && c))) (sym (tied_then flag path))
    ∙ (λ i. is_eq sum && (by_name i && (by_domain i && (tied_flags a.is_host_only b.is_host_only i && by_path i))))
    ∙ spared (is_eq sum) (is_same_cookie (key_view a) (key_view b)) (λ e. tied_numbers p.0 q.0 (same_sum p q summed other e))

-- ---- places

-- the place of the first cookie with the key of x, counted from n
abbrev pub place : KeptView → ℕ → CookieStore → Option ℕ
place x n xs = position_from (λ c. is_same_cookie c x) n xs

-- cookies of one key have one place
pub place_alike : (x y : KeptView) (n : ℕ) (xs : CookieStore) → is_same_cookie x y ≡ true → place x n xs ≡ place y n xs
place_alike x y n [] same = refl
place_alike x y n (c ∷ xs) same =
    let here = same_key x y c same in
    let rest = place_alike x y (n + 1) xs same in
    (λ i. cond (here i) (Some n) (rest i))

some_is : (a b : ℕ) → Some a ≡ Some b → a ≡ b
some_is a b e = cc

-- where x is put: at its place, if it has one
pub record IsPutAt (x : KeptView) (n p : ℕ) (xs : CookieStore) : Type 0 where
  pub from : n ≤ p
  pub below : p < n + length xs
  pub written : set xs (p - n) x ≡ kept_with x xs

pub put_at_place : (x : KeptView) (n p : ℕ) (xs : CookieStore) → IsApart xs → place x n xs ≡ Some p → IsPutAt x n p xs
put_at_place x n p [] apart e = cc
put_at_place x n p (c ∷ xs) apart e = by (is_same_cookie c x) refl (put_at_place x (n + 1) p xs apart.1) e
  where
    by : (b : Bool) → is_same_cookie c x ≡ b → (place x (n + 1) xs ≡ Some p → IsPutAt x (n + 1) p xs) → cond b (Some n) (place x (n + 1) xs) ≡ Some p
        → IsPutAt x n p (c ∷ xs)
    by true same later at =
        let is : n ≡ p = some_is n p at in
        let none : p - n ≡ 0 = omega (arith, is) in
        record {
          from = omega (arith, is);
          below = omega (arith, is);
          written = ap (λ k. set (c ∷ xs) k x) none
              ∙ ap (λ l. x ∷ l) (sym (kept_all c x same xs apart.0))
              ∙ sym (ap (λ b. cond b (x ∷ filter (λ d. not (is_same_cookie d x)) xs) (c ∷ kept_with x xs)) same);
        }
    by false other later at =
        let rest = later at in
        let from = rest.from in
        let below = rest.below in
        let next : p - n ≡ suc (p - (n + 1)) = omega (arith, from) in
        record {
          from = omega (arith, from);
          below = omega (arith, below);
          written = ap (λ k. set (c ∷ xs) k x) next
              ∙ ap (λ l. c ∷ l) rest.written
              ∙ sym (ap (λ b. cond b (x ∷ filter (λ d. not (is_same_cookie d x)) xs) (c ∷ kept_with x xs)) other);
        }

-- at the end, if it has none
pub put_at_end : (x : KeptView) (n : ℕ) (xs : CookieStore) → place x n xs ≡ None → kept_with x xs ≡ xs ++ x ∷ []
put_at_end x n [] e = refl
put_at_end x n (c ∷ xs) e = by (is_same_cookie c x) refl (put_at_end x (n + 1) xs) e
  where
    by : (b : Bool) → is_same_cookie c x ≡ b → (place x (n + 1) xs ≡ None → kept_with x xs ≡ xs ++ x ∷ []) → cond b (Some n) (place x (n + 1) xs) ≡ None
        → kept_with x (c ∷ xs) ≡ c ∷ (xs ++ x ∷ [])
    by true same later at = cc
    by false other later at =
        ap (λ b. cond b (x ∷ filter (λ d. not (is_same_cookie d x)) xs) (c ∷ kept_with x xs)) other
        ∙ ap (λ l. c ∷ l) (later at)

-- then each place is as it was
pub places_stay : (q x : KeptView) (n p : ℕ) (xs : CookieStore) → IsApart xs → place x n xs ≡ Some p → place q n (kept_with x xs) ≡ place q n xs
places_stay q x n p [] apart e = cc
places_stay q x n p (c ∷ xs) apart e = by (is_same_cookie c x) refl (places_stay q x (n + 1) p xs apart.1) e
  where
    by : (b : Bool) → is_same_cookie c x ≡ b → (place x (n + 1) xs ≡ Some p → place q (n + 1) (kept_with x xs) ≡ place q (n + 1) xs)
        → cond b (Some n) (place x (n + 1) xs) ≡ Some p
        → place q n (cond b (x ∷ filter (λ d. not (is_same_cookie d x)) xs) (c ∷ kept_with x xs)) ≡ cond (is_same_cookie c q) (Some n) (place q (n + 1) xs)
    by true same later at =
        let here : is_same_cookie x q ≡ is_same_cookie c q = turned_key x q ∙ sym (same_key c x q same) ∙ turned_key q c in
        ap (λ l. place q n (x ∷ l)) (kept_all c x same xs apart.0)
        ∙ ap (λ b. cond b (Some n) (place q (n + 1) xs)) here
    by false other later at = ap (λ o. cond (is_same_cookie c q) (Some n) o) (later at)

-- or the new one has the last place
pub place_at_end : (q x : KeptView) (n : ℕ) (xs : CookieStore) → place x n xs ≡ None
    → place q n (kept_with x xs) ≡ cond (is_same_cookie x q) (Some (n + length xs)) (place q n xs)
place_at_end q x n [] e = let same : n ≡ n + 0 = omega arith in ap (λ k. cond (is_same_cookie x q) (Some k) None) same
place_at_end q x n (c ∷ xs) e = by (is_same_cookie c x) refl (place_at_end q x (n + 1) xs) e
  where
    later : (n + 1) + length xs ≡ n + length (c ∷ xs)
    later = omega arith

    apart : (a b : Bool) → is_same_cookie c q ≡ a → is_same_cookie x q ≡ b → is_same_cookie c x ≡ false
        → cond a (Some n) (cond b (Some ((n + 1) + length xs)) (place q (n + 1) xs)) ≡ cond b (Some (n + length (c ∷ xs))) (cond a (Some n) (place q (n + 1) xs))
    apart true true is also other =
        absurd (false≢true (sym other ∙ same_key x q c also ∙ is))
    apart true false is also other = refl
    apart false true is also other = ap (λ k. Some k) later
    apart false false is also other = refl

    by : (b : Bool) → is_same_cookie c x ≡ b
        → (place x (n + 1) xs ≡ None → place q (n + 1) (kept_with x xs) ≡ cond (is_same_cookie x q) (Some ((n + 1) + length xs)) (place q (n + 1) xs))
        → cond b (Some n) (place x (n + 1) xs) ≡ None
        → place q n (cond b (x ∷ filter (λ d. not (is_same_cookie d x)) xs) (c ∷ kept_with x xs))
        ≡ cond (is_same_cookie x q) (Some (n + length (c ∷ xs))) (cond (is_same_cookie c q) (Some n) (place q (n + 1) xs))
    by true same later at = cc
    by false other later at =
        ap (λ o. cond (is_same_cookie c q) (Some n) o) (later at)
        ∙ apart (is_same_cookie c q) (is_same_cookie x q) refl refl other

-- ---- the map of the places

module _ (x : KeptView) (key : SummedKey) (same : is_same_cookie x (key_view key.1.now) ≡ true) (summed : IsSummed key) (m : BTreeMap SummedKey ℕ) (xs : CookieStore) (places : ArePlaces m xs) where
  -- what the map says of the key
  pub told_place : get summed_key_cmp m key ≡ place x 0 xs
  told_place = places key summed ∙ sym (place_alike x (key_view key.1.now) 0 xs same)

  -- the map has the place p at the key then: the one that it had, or else the last
  module _ (p : ℕ) (is : p ≡ unwrap_or (get summed_key_cmp m key) (length xs)) (apart : IsApart xs) where
    had : (q : ℕ) → get summed_key_cmp m key ≡ Some q → Some p ≡ place x 0 xs
    had q found = ap (λ k. Some k) (is ∙ ap (λ o. unwrap_or o (length xs)) found) ∙ sym found ∙ told_place

    pub put-among : p < length xs → set xs p x ≡ kept_with x xs
    put-among below = by (get summed_key_cmp m key) refl
      where
        by : (o : Option ℕ) → get summed_key_cmp m key ≡ o → set xs p x ≡ kept_with x xs
        by None none =
            let last : p ≡ length xs = is ∙ ap (λ o. unwrap_or o (length xs)) none in
            absurd (omega (arith, last, below))
        by (Some q) found =
            let start : p ≡ p - 0 = omega arith in
            ap (λ k. set xs k x) start ∙ (put_at_place x 0 p xs apart (sym (had q found))).written

    pub put-last : length xs ≤ p → xs ++ x ∷ [] ≡ kept_with x xs
    put-last beyond = by (get summed_key_cmp m key) refl
      where
        by : (o : Option ℕ) → get summed_key_cmp m key ≡ o → xs ++ x ∷ [] ≡ kept_with x xs
        by None none = sym (put_at_end x 0 xs (sym told_place ∙ none))
        by (Some q) found =
            let below = (put_at_place x 0 p xs apart (sym (had q found))).below in
            absurd (omega (arith, below, beyond))

    pub places-put : (n : BTreeMap SummedKey ℕ) (es : List (SummedKey × ℕ)) → es ≡ n.entries
        → UpdatesBy summed_key_cmp (summed_key_cmp key) m n (Some p) → (q : SummedKey) → IsSummed q
        → lookup (is_at (summed_key_cmp q)) es ≡ place (key_view q.1.now) 0 (kept_with x xs)
    places-put n es after updates q other =
        ap (lookup (is_at (summed_key_cmp q))) after
        ∙ updates.0 q
        ∙ ap (λ b. cond b (Some p) (get summed_key_cmp m q)) tied
        ∙ ap (λ o. cond (is_same_cookie x (key_view q.1.now)) (Some p) o) (places q other)
        ∙ by (get summed_key_cmp m key) refl
      where
        tied : is_at (summed_key_cmp key) q ≡ is_same_cookie x (key_view q.1.now)
        tied = tied_keys key q summed other ∙ turned_key (key_view key.1.now) (key_view q.1.now) ∙ sym (same_key x (key_view key.1.now) (key_view q.1.now) same) ∙ turned_key (key_view q.1.now) x

        stays : (b : Bool) → is_same_cookie x (key_view q.1.now) ≡ b → Some p ≡ place x 0 xs → cond b (Some p) (place (key_view q.1.now) 0 xs) ≡ place (key_view q.1.now) 0 xs
        stays true alike found = found ∙ place_alike x (key_view q.1.now) 0 xs alike
        stays false alike found = refl

        by : (o : Option ℕ) → get summed_key_cmp m key ≡ o
            → cond (is_same_cookie x (key_view q.1.now)) (Some p) (place (key_view q.1.now) 0 xs) ≡ place (key_view q.1.now) 0 (kept_with x xs)
        by None none =
            let last : length xs ≡ 0 + length xs = omega arith in
            ap (λ k. cond (is_same_cookie x (key_view q.1.now)) (Some k) (place (key_view q.1.now) 0 xs)) (is ∙ ap (λ o. unwrap_or o (length xs)) none ∙ last)
            ∙ sym (place_at_end (key_view q.1.now) x 0 xs (sym told_place ∙ none))
        by (Some k) found =
            stays (is_same_cookie x (key_view q.1.now)) refl (had k found)
            ∙ sym (places_stay (key_view q.1.now) x 0 p xs apart (sym (had k found)))

-- ---- a list that is stored in turn

pub kept_with_each-more : (xs : CookieStore) (x : KeptView) (store : CookieStore) → kept_with_each (xs ++ x ∷ []) store ≡ kept_with x (kept_with_each xs store)
kept_with_each-more [] x store = refl
kept_with_each-more (y ∷ xs) x store = kept_with_each-more xs x (kept_with y store)

-- a cookie that is none of those comes last
unplaced : (x : KeptView) (xs : CookieStore) → All (λ c. is_same_cookie c x ≡ false) xs → kept_with x xs ≡ xs ++ x ∷ []
unplaced x [] apart = refl
unplaced x (c ∷ xs) apart =
    ap (λ b. cond b (x ∷ filter (λ d. not (is_same_cookie d x)) xs) (c ∷ kept_with x xs)) (All-head (λ d. is_same_cookie d x ≡ false) c xs apart)
    ∙ ap (λ l. c ∷ l) (unplaced x xs (All-tail (λ d. is_same_cookie d x ≡ false) c xs apart))

-- no cookie of the first list is one of the second
abbrev AreOthers : CookieStore → CookieStore → Type 0
AreOthers store [] = Unit {0}
AreOthers store (x ∷ xs) = All (λ c. is_same_cookie c x ≡ false) store × AreOthers store xs

others_more : (store : CookieStore) (x : KeptView) (xs : CookieStore) → AreOthers store xs → All (λ d. is_same_cookie d x ≡ false) xs → AreOthers (store ++ x ∷ []) xs
others_more store x [] others apart = tt
others_more store x (y ∷ xs) others apart = (
  All-put store others.0 (turned_key x y ∙ All-head (λ d. is_same_cookie d x ≡ false) y xs apart),
  others_more store x xs others.1 (All-tail (λ d. is_same_cookie d x ≡ false) y xs apart),
)
  where
    All-put : (cs : CookieStore) → All (λ c. is_same_cookie c y ≡ false) cs → is_same_cookie x y ≡ false → All (λ c. is_same_cookie c y ≡ false) (cs ++ x ∷ [])
    All-put [] all last = All-cons (λ c. is_same_cookie c y ≡ false) x [] last (All-nil (λ c. is_same_cookie c y ≡ false))
    All-put (c ∷ cs) all last =
        All-cons (λ d. is_same_cookie d y ≡ false) c (cs ++ x ∷ []) (All-head (λ d. is_same_cookie d y ≡ false) c cs all)
        (All-put cs (All-tail (λ d. is_same_cookie d y ≡ false) c cs all) last)

kept_after : (store xs : CookieStore) → AreOthers store xs → IsApart xs → kept_with_each xs store ≡ store ++ xs
kept_after store [] others apart = sym (append-nil store)
kept_after store (x ∷ xs) others apart =
    ap (kept_with_each xs) (unplaced x store others.0)
    ∙ kept_after (store ++ x ∷ []) xs (others_more store x xs others.1 apart.0) apart.1
    ∙ append_assoc store (x ∷ []) xs

none_others : (xs : CookieStore) → AreOthers [] xs
none_others [] = tt
none_others (x ∷ xs) = (All-nil (λ c. is_same_cookie c x ≡ false), none_others xs)

-- different cookies are stored as they are
pub kept_with_each-apart : (xs : CookieStore) → IsApart xs → kept_with_each xs [] ≡ xs
kept_with_each-apart xs apart = kept_after [] xs (none_others xs) apart

-- cookies that are stored after others that differ are stored in turn among them
pub kept_with_each-after : (ys xs : CookieStore) → IsApart ys → kept_with_each (ys ++ xs) [] ≡ kept_with_each xs ys
kept_with_each-after ys xs apart = joined ys [] ∙ ap (kept_with_each xs) (kept_with_each-apart ys apart)
  where
    joined : (ys store : CookieStore) → kept_with_each (ys ++ xs) store ≡ kept_with_each xs (kept_with_each ys store)
    joined [] store = refl
    joined (y ∷ ys) store = joined ys (kept_with y store)
