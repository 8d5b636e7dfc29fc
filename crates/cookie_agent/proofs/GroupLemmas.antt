-- The groupings of ranked cookies, and their orders.
use Rattle.std.proofs.Common.{◌≡◌, ℕ, ℤ, ◌<◌, ◌&&◌, not, Bool, true, false, cond, List, refl, sym, ap, ◌∙◌, arith}
use Rattle.std.proofs.lemmas.Bool.{false≢true}
use Rattle.std.proofs.lemmas.Bool.Decides.{nat_tests}
use Rattle.std.proofs.lemmas.List.MinMax.{ranks_by}
use Rattle.std.proofs.lemmas.Map.Lookups.{exact_unsigned}
use Rattle.std.proofs.lemmas.Slice.Eq.{bytes_eq-Decides}
use Rattle.std.specs.Cmp.{IsTotalOrder, bool_cmp_total, int_cmp_total, nat_cmp_total, on_total, then_total}
use Rattle.std.specs.Ordering.{bool_cmp, int_cmp, is_eq, is_lt, nat_cmp, ordering_reverse, ordering_then}
use Rattle.std.specs.Prelude.{int_lt}
use Rattle.std.specs.Str.{bytes_eq}
use Rattle.std.specs.declared.cmp.Ordering.{Ordering}
use Rattle.std.specs.declared.cmp.Ordering.TheVariants.{Less, Equal, Greater}
use Rattle.jiff.proofs.SpanFacts.{signed_arith}
use Rattle.cookie_browser.specs.Storage.{CookieStore, both_or_neither}
use Rattle.cookie_browser.specs.Suffixes.{Rule}
use Rattle.cookie_agent.specs.Limits.{counts, goes_first}
use Rattle.cookie_agent.specs.LimitsCode.{Rank, access_cmp, comes_before, counted_by, rank_at, rank_cmp, shares, text_cmp, text_of}
use Rattle.cookie_agent.specs.SumsCode.{summed_cmp}
use Rattle.cookie_agent.specs.declared.group.Group.{Group}
use Rattle.cookie_agent.specs.declared.group.Group.TheVariants.{Domain, Site, Whole}
use Rattle.cookie_agent.proofs.RankLemmas.{AreGroups}
use Rattle.cookie_agent.proofs.SumLemmas.{summed_exact, summed_ties, summed_total}

-- ---- the orders are total

pub access_total : IsTotalOrder access_cmp
access_total = then_total (on_total (λ (r : Rank). r.cookie.last_access) int_cmp_total) (on_total (λ (r : Rank). r.place) nat_cmp_total)

text_total : IsTotalOrder text_cmp
text_total =
    then_total (on_total (λ (r : Rank). r.text) summed_total)
    (then_total (on_total (λ (r : Rank). r.cookie.is_secure_only) bool_cmp_total) access_total)

pub rank_total : (group : Group) → IsTotalOrder (rank_cmp group)
rank_total Domain = text_total
rank_total Site = text_total
rank_total Whole = access_total

-- what neither comes before ties
tied : (a b : Ordering) → a ≡ ordering_reverse b → is_lt a ≡ false → is_lt b ≡ false → a ≡ Equal
tied Less b e f g = absurd (false≢true (sym f))
tied Equal b e f g = refl
tied Greater Less e f g = absurd (false≢true (sym g))
tied Greater Equal e f g = cc
tied Greater Greater e f g = cc

then_equal : (a b : Ordering) → ordering_then a b ≡ Equal → (a ≡ Equal) × (b ≡ Equal)
then_equal Less b e = cc
then_equal Equal b e = (refl, e)
then_equal Greater b e = cc

-- the first part doesn't come before, if the whole doesn't
then_first : (a b : Ordering) → is_lt (ordering_then a b) ≡ false → is_lt a ≡ false
then_first Less b e = e
then_first Equal b e = refl
then_first Greater b e = refl

access_ties : (x y : Rank) → access_cmp x y ≡ Equal → x.place ≡ y.place
access_ties x y e = exact_unsigned x.place y.place (then_equal (int_cmp x.cookie.last_access y.cookie.last_access) (nat_cmp x.place y.place) e).1

text_ties : (x y : Rank) → text_cmp x y ≡ Equal → x.place ≡ y.place
text_ties x y e =
    access_ties x y
    (then_equal (bool_cmp x.cookie.is_secure_only y.cookie.is_secure_only) (access_cmp x y)
    (then_equal (summed_cmp x.text y.text) (ordering_then (bool_cmp x.cookie.is_secure_only y.cookie.is_secure_only) (access_cmp x y)) e).1).1

rank_ties : (group : Group) (x y : Rank) → rank_cmp group x y ≡ Equal → x.place ≡ y.place
rank_ties Domain x y e = text_ties x y e
rank_ties Site x y e = text_ties x y e
rank_ties Whole x y e = access_ties x y e

-- ---- the groups are together

texts_meet : (x y z : Rank) → is_lt (text_cmp y x) ≡ false → is_lt (text_cmp z y) ≡ false → bytes_eq z.text x.text ≡ true → bytes_eq y.text x.text ≡ true
texts_meet x y z after-x after-y same =
    let text : z.text ≡ x.text = (bytes_eq-Decides z.text x.text).0 same in
    let up = then_first (summed_cmp y.text x.text) (ordering_then (bool_cmp y.cookie.is_secure_only x.cookie.is_secure_only) (access_cmp y x)) after-x in
    let down : is_lt (summed_cmp x.text y.text) ≡ false
    = ap (λ d. is_lt (summed_cmp d y.text)) (sym text)
    ∙ then_first (summed_cmp z.text y.text) (ordering_then (bool_cmp z.cookie.is_secure_only y.cookie.is_secure_only) (access_cmp z y)) after-y in
    (bytes_eq-Decides y.text x.text).1
    (summed_exact y.text x.text
    (tied (summed_cmp y.text x.text) (summed_cmp x.text y.text) (summed_total.antisymm y.text x.text) up down))

groups_itself : (group : Group) (x : Rank) → shares group x x ≡ true
groups_itself Domain x = (bytes_eq-Decides x.text x.text).1 refl
groups_itself Site x = (bytes_eq-Decides x.text x.text).1 refl
groups_itself Whole x = refl

groups_together : (group : Group) (x y z : Rank) → comes_before group y x ≡ false → comes_before group z y ≡ false → shares group x z ≡ true → shares group x y ≡ true
groups_together Domain x y z e f g = texts_meet x y z e f g
groups_together Site x y z e f g = texts_meet x y z e f g
groups_together Whole x y z e f g = refl

texts_move : (x y z : Rank) → bytes_eq y.text x.text ≡ true → bytes_eq z.text x.text ≡ bytes_eq z.text y.text
texts_move x y z e = ap (λ d. bytes_eq z.text d) (sym ((bytes_eq-Decides y.text x.text).0 e))

groups_move : (group : Group) (x y : Rank) → shares group x y ≡ true → (z : Rank) → shares group x z ≡ shares group y z
groups_move Domain x y e z = texts_move x y z e
groups_move Site x y e z = texts_move x y z e
groups_move Whole x y e z = refl

pub are_groups : (group : Group) → AreGroups (shares group) (comes_before group) (λ r. r.place)
are_groups group =
    record {
      order = ranks_by (rank_total group) (λ r. r);
      itself = groups_itself group;
      together = groups_together group;
      moves = groups_move group;
      ties = λ x y e f. rank_ties group x y (tied (rank_cmp group x y) (rank_cmp group y x) ((rank_total group).antisymm x y) e f);
    }

-- ---- who comes before whom, by who goes first

int_before : (a b : ℤ) (o : Ordering) → is_lt o ≡ false → is_lt (ordering_then (int_cmp a b) o) ≡ int_lt a b
int_before a b o later = by (int_lt a b) (int_lt b a)
  where
    by : (s t : Bool) → is_lt (ordering_then (cond s Less (cond t Greater Equal)) o) ≡ s
    by true t = refl
    by false true = refl
    by false false = later

int_behind : (a b : ℤ) (o : Ordering) → is_lt o ≡ true → is_lt (ordering_then (int_cmp a b) o) ≡ not (int_lt b a)
int_behind a b o sooner = by (int_lt a b) refl (int_lt b a) refl
  where
    one_way : (s t : Bool) → int_lt a b ≡ s → int_lt b a ≡ t → s ≡ true → t ≡ true → ⊥
    one_way s t e f g h = false≢true (sym (never (e ∙ g)) ∙ f ∙ h)
      where
        never : int_lt a b ≡ true → int_lt b a ≡ false
        never is = grind (arith, signed_arith)

    by : (s : Bool) → int_lt a b ≡ s → (t : Bool) → int_lt b a ≡ t → is_lt (ordering_then (cond s Less (cond t Greater Equal)) o) ≡ not t
    by true e true f = absurd (one_way true true e f refl refl)
    by true e false f = refl
    by false e true f = refl
    by false e false f = sooner

place_before : (n e : ℕ) → e < n → is_lt (nat_cmp n e) ≡ false
place_before n e lt = grind (arith, nat_tests)

place_behind : (n l : ℕ) → n < l → is_lt (nat_cmp n l) ≡ true
place_behind n l lt = grind (arith, nat_tests)

secure_first : (s t b : Bool) (o : Ordering) → is_lt o ≡ b → is_lt (ordering_then (bool_cmp s t) o) ≡ cond (both_or_neither s t) b t
secure_first true true b o e = e
secure_first true false b o e = refl
secure_first false true b o e = refl
secure_first false false b o e = e

secure_last : (s t b : Bool) (o : Ordering) → is_lt o ≡ not b → is_lt (ordering_then (bool_cmp s t) o) ≡ not (cond (both_or_neither t s) b s)
secure_last true true b o e = e
secure_last true false b o e = refl
secure_last false true b o e = refl
secure_last false false b o e = e

same_text : (a b : List ℕ) (o : Ordering) → bytes_eq b a ≡ true → is_lt (ordering_then (summed_cmp a b) o) ≡ is_lt o
same_text a b o e = by (summed_cmp a b) (summed_ties a b ∙ (bytes_eq-Decides a b).1 (sym ((bytes_eq-Decides b a).0 e)))
  where
    by : (c : Ordering) → is_eq c ≡ true → is_lt (ordering_then c o) ≡ is_lt o
    by Less f = absurd (false≢true f)
    by Equal f = refl
    by Greater f = absurd (false≢true f)

with_text : (s b : Bool) (p q : Bool) → s ≡ b → (b ≡ true → p ≡ q) → s && p ≡ b && q
with_text s true p q e f = ap (λ t. t && p) e ∙ f refl
with_text s false p q e f = ap (λ t. t && p) e

text_before : (x y : Rank) → y.place < x.place
    → bytes_eq y.text x.text && is_lt (text_cmp x y)
    ≡ bytes_eq y.text x.text && cond (both_or_neither x.cookie.is_secure_only y.cookie.is_secure_only) (int_lt x.cookie.last_access y.cookie.last_access) y.cookie.is_secure_only
text_before x y earlier =
    with_text _ _ _ _ refl (λ e.
    same_text x.text y.text _ e
    ∙ secure_first x.cookie.is_secure_only y.cookie.is_secure_only (int_lt x.cookie.last_access y.cookie.last_access) (access_cmp x y)
    (int_before x.cookie.last_access y.cookie.last_access (nat_cmp x.place y.place) (place_before x.place y.place earlier)))

text_behind : (x y : Rank) → x.place < y.place
    → bytes_eq y.text x.text && is_lt (text_cmp x y)
    ≡ bytes_eq y.text x.text && not (cond (both_or_neither y.cookie.is_secure_only x.cookie.is_secure_only) (int_lt y.cookie.last_access x.cookie.last_access) x.cookie.is_secure_only)
text_behind x y later =
    with_text _ _ _ _ refl (λ e.
    same_text x.text y.text _ e
    ∙ secure_last x.cookie.is_secure_only y.cookie.is_secure_only (int_lt y.cookie.last_access x.cookie.last_access) (access_cmp x y)
    (int_behind x.cookie.last_access y.cookie.last_access (nat_cmp x.place y.place) (place_behind x.place y.place later)))

-- the cookie of the place, counted by the group's text
abbrev ranked_at : List Rule → Group → CookieStore → ℕ → Rank
ranked_at rules group store n = rank_at (text_of rules group) store n

pub before : (rules : List Rule) (group : Group) (store : CookieStore) (n e : ℕ) → e < n
    → shares group (ranked_at rules group store n) (ranked_at rules group store e) && comes_before group (ranked_at rules group store n) (ranked_at rules group store e)
    ≡ counts (counted_by rules group) (ranked_at rules group store n).cookie (ranked_at rules group store e).cookie && goes_first (counted_by rules group) (ranked_at rules group store n).cookie (ranked_at rules group store e).cookie
before rules Domain store n e earlier = text_before (ranked_at rules Domain store n) (ranked_at rules Domain store e) earlier
before rules Site store n e earlier = text_before (ranked_at rules Site store n) (ranked_at rules Site store e) earlier
before rules Whole store n e earlier =
    let x = ranked_at rules Whole store n in
    let y = ranked_at rules Whole store e in
    int_before x.cookie.last_access y.cookie.last_access (nat_cmp x.place y.place) (place_before x.place y.place earlier)

pub behind : (rules : List Rule) (group : Group) (store : CookieStore) (n l : ℕ) → n < l
    → shares group (ranked_at rules group store n) (ranked_at rules group store l) && comes_before group (ranked_at rules group store n) (ranked_at rules group store l)
    ≡ counts (counted_by rules group) (ranked_at rules group store n).cookie (ranked_at rules group store l).cookie && not (goes_first (counted_by rules group) (ranked_at rules group store l).cookie (ranked_at rules group store n).cookie)
behind rules Domain store n l later = text_behind (ranked_at rules Domain store n) (ranked_at rules Domain store l) later
behind rules Site store n l later = text_behind (ranked_at rules Site store n) (ranked_at rules Site store l) later
behind rules Whole store n l later =
    let x = ranked_at rules Whole store n in
    let y = ranked_at rules Whole store l in
    int_behind x.cookie.last_access y.cookie.last_access (nat_cmp x.place y.place) (place_behind x.place y.place later)
