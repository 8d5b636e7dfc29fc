-- What a sort of lent cookies does to the cookies.
use Rattle.std.proofs.Common.{◌≡◌, ℕ, ◌+◌, Bool, true, false, cond, List, [], ◌∷◌, length, get_or, map, refl, sym, ap, subst, ◌∙◌, IsPermutation, arith}
use Rattle.std.proofs.lemmas.List.{get_or-map, length-map}
use Rattle.std.proofs.lemmas.List.Sorted.{IsPermutation-map}
use Rattle.std.specs.List.{filter}
use Rattle.std.specs.List.Sorted.{IsSortedBy, IsStableBy, ties}
use Rattle.std.specs.Ordering.{is_lt}
use denote.Ref.{Bor}
use Rattle.jiff.specs.Types.{DateTime}
use Rattle.cookie.specs.Header.{joined_texts}
use Rattle.cookie_agent.specs.Sent.{path_length, greater_first, visible, sent_pair, IsOrderedHeader}
use Rattle.cookie_browser.specs.Storage.{KeptView, CookieStore}
use Rattle.cookie_agent.specs.SentCode.{targets, IsByPath}
use Rattle.cookie_browser.specs.Request.{RequestView}

pub filter-map : {X Y : Type 0} (p : Y → Bool) (f : X → Y) (xs : List X) → map f (filter (λ x. p (f x)) xs) ≡ filter p (map f xs)
filter-map p f [] = refl
filter-map {X} {Y} p f (x ∷ xs) = by (p (f x)) (filter-map p f xs)
  where
    by : (b : Bool) → map f (filter (λ x. p (f x)) xs) ≡ filter p (map f xs)
        → map f (cond b (x ∷ filter (λ x. p (f x)) xs) (filter (λ x. p (f x)) xs)) ≡ cond b (f x ∷ filter p (map f xs)) (filter p (map f xs))
    by true e = ap (λ l. f x ∷ l) e
    by false e = e

-- the longer path is the lesser
abbrev pub longer : KeptView → KeptView → Bool
longer a b = is_lt (greater_first (path_length a) (path_length b))

-- the order of lent cookies
abbrev pub lent_before : (KeptView → KeptView → Bool) → Bor KeptView → Bor KeptView → Bool
lent_before lt a b = lt a.now b.now

sorted-targets : (lt : KeptView → KeptView → Bool) (xs : List (Bor KeptView)) → IsSortedBy (lent_before lt) xs → IsSortedBy lt (targets xs)
sorted-targets lt [] sorted k d low high = absurd (omega arith)
sorted-targets lt (x ∷ xs) sorted k d low high =
    let long : length (targets (x ∷ xs)) ≡ length (x ∷ xs) = rw length-map refl in
    let this : get_or (targets (x ∷ xs)) k d ≡ (get_or (x ∷ xs) k x).now = get_or-map (λ (c : Bor KeptView). c.now) (x ∷ xs) k x d (omega arith) in
    let next : get_or (targets (x ∷ xs)) (k + 1) d ≡ (get_or (x ∷ xs) (k + 1) x).now = get_or-map (λ (c : Bor KeptView). c.now) (x ∷ xs) (k + 1) x d (omega arith) in
    ap (λ a. lt a (get_or (targets (x ∷ xs)) k d)) next ∙ ap (λ b. lt (get_or (x ∷ xs) (k + 1) x).now b) this ∙ sorted k x low (omega arith)

stable-targets : (lt : KeptView → KeptView → Bool) (xs ys : List (Bor KeptView)) → length ys ≡ length xs → IsStableBy (lent_before lt) xs ys → IsStableBy lt (targets xs) (targets ys)
stable-targets lt [] [] same stable x = refl
stable-targets lt [] (y ∷ ys) same stable x = absurd (omega arith)
stable-targets lt (b ∷ xs) ys same stable x =
    sym (filter-map (ties lt x) (λ (c : Bor KeptView). c.now) ys) ∙ ap targets (stable (record b { now = x })) ∙ filter-map (ties lt x) (λ (c : Bor KeptView). c.now) (b ∷ xs)

pub by_path : (xs ys : List (Bor KeptView)) → length ys ≡ length xs → IsPermutation xs ys
    → IsSortedBy (lent_before longer) ys → IsStableBy (lent_before longer) xs ys → IsByPath (targets xs) (targets ys)
by_path xs ys same moved sorted stable =
    record {
      moved = IsPermutation-map (λ (c : Bor KeptView). c.now) xs ys moved;
      longer_first = sorted-targets longer ys sorted;
      earlier_first = stable-targets longer xs ys same stable;
    }

pub ordered_header : (site : RequestView) (now : DateTime) (store : CookieStore) (header : List ℕ) (created ordered : CookieStore)
    → created ≡ visible site now store → IsByPath created ordered → header ≡ joined_texts (map sent_pair ordered) → IsOrderedHeader site now store header
ordered_header site now store header created ordered all is text =
    let found : IsByPath (visible site now store) ordered = subst (λ c. IsByPath c ordered) all is in
    record {
      is = record { cookies = ordered; sent = found.moved; text = text };
      longer_first = found.longer_first;
      earlier_first = found.earlier_first;
    }
