-- Which places stay: the search by an order against what the standard leaves.
use Rattle.std.proofs.Common.{◌≡◌, ℕ, zero, suc, ◌+◌, ◌<◌, ◌≤◌, Bool, true, false, cond, List, [], ◌∷◌, ◌++◌, length, get_or, map, take, Bor, None, refl, sym, ap, subst, ◌∙◌, arith, append-nil}
use Rattle.std.proofs.Math.ListN.{get_or-map}
use Rattle.std.proofs.lemmas.List.{get_or_default, length-map, map-append, take_more}
use Rattle.std.proofs.lemmas.List.Elements.{All-append, All-cons, All-filter, All-nil, All-weaker, filter_more}
use Rattle.std.specs.List.{count_by, filter}
use Rattle.std.specs.List.Sorted.{IsPermutation}
use Rattle.jiff.specs.Types.{DateTime}
use Rattle.cookie_browser.specs.Storage.{CookieStore, KeptView, lasting, lasts}
use Rattle.cookie_browser.specs.Suffixes.{Rule}
use Rattle.cookie_agent.specs.Limits.{IsWithin, counts, staying}
use Rattle.cookie_agent.specs.LimitsCode.{AreOnce, IsInOrder, Rank, Rises, blank, comes_before, counted_by, picked, rank_at, rank_of, shares, stays, text_of}
use Rattle.cookie_agent.specs.SentCode.{targets}
use Rattle.cookie_agent.specs.declared.group.Group.{Group}
use Rattle.cookie_agent.specs.declared.group.Group.TheVariants.{Domain, Site, Whole}
use Rattle.cookie_agent.specs.declared.limits.Limits.{Limits}
use Rattle.cookie_agent.specs.declared.ranked.Ranked.{Ranked}
use Rattle.cookie_agent.proofs.GroupLemmas.{are_groups, before, behind}
use Rattle.cookie_agent.proofs.LimitLemmas.{count-every, count-staying, few_at_all, few_of_each, of_text, staying-all, staying-kept}
use Rattle.cookie_agent.proofs.RankLemmas.{ascends-filter, ascends-push, counted-map, counted-same, few-kept, kept_places, kept_places-sorted, once-placed}

-- ---- the element at a place

-- the rank of the item that was read
pub rank_there : (xs : List Ranked) (k : ℕ) (x : Ranked) → x ≡ get_or xs k x → rank_of x ≡ get_or (map rank_of xs) k (rank_of x)
rank_there xs k x at = ap rank_of at ∙ sym (get_or-map rank_of xs k x)

pub rank_same : (xs : List Ranked) (k : ℕ) (x : Ranked) (rank : Rank) → k < length xs → x ≡ get_or xs k x → rank ≡ get_or (map rank_of xs) k rank → rank_of x ≡ rank
rank_same xs k x rank below at is =
    let size = length-map xs rank_of in
    rank_there xs k x at ∙ get_or_default (map rank_of xs) k (rank_of x) rank (omega (arith, below, size)) ∙ sym is

-- ---- one more

pub kept_more : (st : Rank → Bool) (rs : List Rank) (i : ℕ) (r : Rank) (kept : List ℕ) → i < length rs → r ≡ get_or rs i r → kept ≡ map (λ r. r.place) (filter st (take i rs))
    → (b : Bool) → st r ≡ b → cond b (kept ++ r.place ∷ []) kept ≡ map (λ r. r.place) (filter st (take (i + 1) rs))
kept_more st rs i r kept below at so b e =
    by b
    ∙ ap (λ l. l ++ map (λ r. r.place) (cond b (r ∷ []) [])) so
    ∙ sym (map-append (λ (r : Rank). r.place) (filter st (take i rs)) (cond b (r ∷ []) []))
    ∙ ap (map (λ (r : Rank). r.place)) (sym more)
  where
    by : (b : Bool) → cond b (kept ++ r.place ∷ []) kept ≡ kept ++ map (λ r. r.place) (cond b (r ∷ []) [])
    by true = refl
    by false = sym (append-nil kept)

    more : filter st (take (i + 1) rs) ≡ filter st (take i rs) ++ cond b (r ∷ []) []
    more =
        filter_more st rs i r below
        ∙ ap (λ (x : Rank). filter st (take i rs) ++ cond (st x) (x ∷ []) []) (sym at)
        ∙ ap (λ c. filter st (take i rs) ++ cond c (r ∷ []) []) e

pub lasting_more : (now : DateTime) (store : CookieStore) (i : ℕ) (x : KeptView) (places : List ℕ) → i < length store → x ≡ get_or store i x
    → picked store places ≡ lasting now (take i store) → (b : Bool) → lasts x.expiry now ≡ b
    → picked store (cond b (places ++ i ∷ []) places) ≡ lasting now (take (i + 1) store)
lasting_more now store i x places below at so b e =
    by b
    ∙ ap (λ l. l ++ cond b (x ∷ []) []) so
    ∙ sym (filter_more (λ c. lasts c.expiry now) store i x below
    ∙ ap (λ (y : KeptView). lasting now (take i store) ++ cond (lasts y.expiry now) (y ∷ []) []) (sym at)
    ∙ ap (λ c. lasting now (take i store) ++ cond c (x ∷ []) []) e)
  where
    here : get_or store i blank ≡ x
    here = get_or_default store i blank x below ∙ sym at

    by : (b : Bool) → picked store (cond b (places ++ i ∷ []) places) ≡ picked store places ++ cond b (x ∷ []) []
    by true = map-append (λ n. get_or store n blank) places (i ∷ []) ∙ ap (λ y. picked store places ++ y ∷ []) here
    by false = sym (append-nil (picked store places))

pub in_order_more : (places : List ℕ) (i : ℕ) → IsInOrder i places → (b : Bool) → IsInOrder (i + 1) (cond b (places ++ i ∷ []) places)
in_order_more places i order true = (
  ascends-push 0 places i (omega arith) order.0 order.1,
  All-append (λ p. p < i + 1) places (i ∷ []) (All-weaker (λ p. p < i) (λ p. p < i + 1) (λ p lt. omega (arith, lt)) places order.1)
      (All-cons (λ p. p < i + 1) i [] (omega arith) (All-nil (λ p. p < i + 1))),
)
in_order_more places i order false = (order.0, All-weaker (λ p. p < i) (λ p. p < i + 1) (λ p lt. omega (arith, lt)) places order.1)

-- ---- few places

pub counted_itself : (rules : List Rule) (group : Group) (c : KeptView) → counts (counted_by rules group) c c ≡ true
counted_itself rules Domain c = of_text (text_of rules Domain) c
counted_itself rules Site c = of_text (text_of rules Site) c
counted_itself rules Whole c = refl

module _ (rules : List Rule) (group : Group) (limit : ℕ) (store : CookieStore) (places : List ℕ) (fits : length places ≤ limit) where
  picked_fits : length (picked store places) ≤ limit
  picked_fits = let long = length-map places (λ n. get_or store n blank) in omega (arith, long, fits)

  pub all-stay : picked store places ≡ staying (counted_by rules group) limit [] (picked store places)
  all-stay =
      sym (staying-all (counted_by rules group) (counted_itself rules group) limit (picked store places)
      (few_of_each (counted_by rules group) limit (picked store places) (few_at_all (counted_by rules group) limit (picked store places) picked_fits)))

  pub all-few : (c : KeptView) → count_by (counts (counted_by rules group) c) (picked store places) ≤ limit
  all-few = few_at_all (counted_by rules group) limit (picked store places) picked_fits

-- ---- the places that are found

shared_texts : (rules : List Rule) (group : Group) (store : CookieStore) (cookie : KeptView) (n : ℕ)
    → shares group (record { place = 0; text = text_of rules group cookie; cookie = cookie }) (rank_at (text_of rules group) store n) ≡ counts (counted_by rules group) cookie (get_or store n blank)
shared_texts rules Domain store cookie n = refl
shared_texts rules Site store cookie n = refl
shared_texts rules Whole store cookie n = refl

module _ (rules : List Rule) (group : Group) (limit : ℕ) (store : CookieStore) (places : List ℕ) (order : IsInOrder (length store) places) (items : List Rank)
    (moved : IsPermutation (map (rank_at (text_of rules group) store) places) items) where
  abbrev at : ℕ → Rank
  at n = rank_at (text_of rules group) store n

  pub once : AreOnce items
  once = once-placed (shares group) (comes_before group) (λ r. r.place) (are_groups group) at (λ n. refl) places items order.0 moved

  module _ (rises : Rises (comes_before group) items) (found kept : List ℕ) (which : found ≡ map (λ r. r.place) (filter (stays group limit items) items))
      (turned : IsPermutation found kept) (up : (i j d : ℕ) → i ≤ j → j < length kept → get_or kept i d ≤ get_or kept j d) where
    same_places : kept ≡ kept_places (shares group) (comes_before group) (λ r. r.place) (are_groups group) at (λ n. refl) limit places
    same_places =
        kept_places-sorted (shares group) (comes_before group) (λ r. r.place) (are_groups group) at (λ n. refl) limit places items order.0 moved found kept which turned up

    pub found-value : picked store kept ≡ staying (counted_by rules group) limit [] (picked store places)
    found-value =
        ap (picked store) same_places
        ∙ sym (staying-kept (shares group) (comes_before group) (λ r. r.place) (are_groups group) at (counted_by rules group) (λ n. get_or store n blank)
        (before rules group store) (behind rules group store) limit places order.0)

    pub found-in_order : IsInOrder (length store) kept
    found-in_order =
        subst (IsInOrder (length store)) (sym same_places) (
          ascends-filter (λ n. stays group limit (map at places) (at n)) 0 places order.0,
          All-filter (λ n. stays group limit (map at places) (at n)) (λ p. p < length store) places order.1,
        )

    few_of : (cookie : KeptView) (rank : Rank) → ((n : ℕ) → shares group rank (at n) ≡ counts (counted_by rules group) cookie (get_or store n blank))
        → count_by (counts (counted_by rules group) cookie) (picked store kept) ≤ limit
    few_of cookie rank same =
        let most = few-kept (shares group) (comes_before group) (λ r. r.place) (are_groups group) at (λ n. refl) limit places items order.0 moved rises rank in
        let there : count_by (counts (counted_by rules group) cookie) (picked store kept)
        ≡ count_by (λ n. shares group rank (at n)) (kept_places (shares group) (comes_before group) (λ r. r.place) (are_groups group) at (λ n. refl) limit places)
        = counted-map (counts (counted_by rules group) cookie) (λ n. get_or store n blank) kept
        ∙ counted-same (λ n. counts (counted_by rules group) cookie (get_or store n blank)) (λ n. shares group rank (at n)) kept (λ k d below. sym (same (get_or kept k d)))
        ∙ ap (count_by (λ n. shares group rank (at n))) same_places in
        omega (arith, most, there)

    pub found-few : (cookie : KeptView) → count_by (counts (counted_by rules group) cookie) (picked store kept) ≤ limit
    found-few cookie = few_of cookie (record { place = 0; text = text_of rules group cookie; cookie = cookie }) (shared_texts rules group store cookie)

-- ---- the limits

pub is_within : (rules : List Rule) (limits : Limits) (first second third : CookieStore)
    → ((c : KeptView) → count_by (counts (counted_by rules Domain) c) first ≤ limits.per_domain)
    → second ≡ staying (counted_by rules Site) limits.per_site [] first → ((c : KeptView) → count_by (counts (counted_by rules Site) c) second ≤ limits.per_site)
    → third ≡ staying (counted_by rules Whole) limits.total [] second → ((c : KeptView) → count_by (counts (counted_by rules Whole) c) third ≤ limits.total)
    → IsWithin rules limits third
is_within rules limits first second third few left fewer last fewest =
    record {
      domains = λ domain.
          (let c : KeptView = record blank { domain = domain } in
          let one = few c in
          let less = count-staying (counted_by rules Site) limits.per_site (counts (counted_by rules Domain) c) [] first in
          let there = ap (count_by (counts (counted_by rules Domain) c)) left in
          let least = count-staying None limits.total (counts (counted_by rules Domain) c) [] second in
          let here = ap (count_by (counts (counted_by rules Domain) c)) last in
          omega (arith, one, less, there, least, here));
      sites = λ domain.
          (let c : KeptView = record blank { domain = domain } in
          let one = fewer c in
          let less = count-staying None limits.total (counts (counted_by rules Site) c) [] second in
          let there = ap (count_by (counts (counted_by rules Site) c)) last in
          omega (arith, one, less, there));
      total =
          let every = count-every blank third in
          let most = fewest blank in
          omega (arith, every, most);
    }

-- ---- cookies that are lent

pub target_at : (lent : List (Bor KeptView)) (i : ℕ) (b : Bor KeptView) → b ≡ get_or lent i b → b.now ≡ get_or (targets lent) i b.now
target_at [] i b is = refl
target_at (x ∷ lent) zero b is = ap (λ c. c.now) is
target_at (x ∷ lent) (suc i) b is = target_at lent i b is

-- the cookie that is lent stands at its place
pub target_there : (lent : List (Bor KeptView)) (place : ℕ) (b : Bor KeptView) → place < length lent → b ≡ get_or lent place b → b.now ≡ get_or (targets lent) place blank
target_there lent place b below is =
    let size = length-map lent (λ (c : Bor KeptView). c.now) in
    target_at lent place b is ∙ get_or_default (targets lent) place b.now blank (omega (arith, below, size))

-- one more cookie is lent
pub lent-more : (lent : List (Bor KeptView)) (i : ℕ) (b : Bor KeptView) → i < length lent → b ≡ get_or lent i b → targets (take (i + 1) lent) ≡ targets (take i lent) ++ b.now ∷ []
lent-more lent i b below is =
    ap targets (take_more lent i b below)
    ∙ map-append (λ (c : Bor KeptView). c.now) (take i lent) (get_or lent i b ∷ [])
    ∙ ap (λ (c : Bor KeptView). targets (take i lent) ++ c.now ∷ []) (sym is)

-- one more cookie is picked
pub picked-more : (store : CookieStore) (places : List ℕ) (made : CookieStore) (i : ℕ) (x : KeptView) → i < length places → x ≡ get_or store (get_or places i 0) blank
    → made ≡ picked store (take i places) → made ++ x ∷ [] ≡ picked store (take (i + 1) places)
picked-more store places made i x below at so =
    ap (λ l. l ++ x ∷ []) so
    ∙ ap (λ (y : KeptView). picked store (take i places) ++ y ∷ []) at
    ∙ sym (ap (picked store) (take_more places i 0 below) ∙ map-append (λ n. get_or store n blank) (take i places) (get_or places i 0 ∷ []))

abbrev pub rank_with : ℕ → List ℕ → KeptView → Rank
rank_with place text cookie = record { place = place; text = text; cookie = cookie }

-- the rank of a cookie that is lent, with its text
pub rank_lent : (text : KeptView → List ℕ) (lent : List (Bor KeptView)) (place : ℕ) (b : Bor KeptView) (t : List ℕ) → place < length lent → b ≡ get_or lent place b → t ≡ text b.now
    → rank_with place t b.now ≡ rank_at text (targets lent) place
rank_lent text lent place b t below is by_text =
    ap (λ u. rank_with place u b.now) by_text ∙ ap (λ (c : KeptView). rank_with place (text c) c) (target_there lent place b below is)
