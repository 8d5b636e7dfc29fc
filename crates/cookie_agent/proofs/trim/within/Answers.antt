-- The places that are found are those of the cookies that stay.
use Rattle.std.proofs.Common.{◌≡◌, ◌≤◌, ℕ, List, map, ap, subst, sym, ◌∙◌, arith}
use Rattle.std.proofs.lemmas.List.Sorted.{IsNonDecreasingBy-from_sort}
use Rattle.std.specs.List.{count_by}
use Rattle.std.specs.List.Sorted.{IsPermutation}
use Rattle.std.specs.Str.{bytes_eq}
use Rattle.cookie_browser.specs.Storage.{CookieStore}
use Rattle.cookie_agent.specs.LimitsCode.{Rank, Rises, comes_before, rank_at, ranks, text_of}
use Rattle.cookie_agent.specs.SentCode.{targets}
use Rattle.cookie_agent.specs.declared.group.Group.{Group}
use Rattle.cookie_agent.specs.declared.ranked.Ranked.{Ranked}
use Rattle.cookie_agent.proofs.SpreadLemmas.{each-stays, few-each}
use Rattle.cookie_agent.proofs.TrimLemmas.{all-few, all-stay, found-few, found-in_order, found-value, once}
use Rattle.cookie_agent.proofs.trim.within.Goals as goal

-- what is sorted are the ranks of the places, and it rises
moved_there : (at : ℕ → Rank) (made sorted : List Ranked) {asked places : List ℕ} {shown : List Ranked}
    → ranks made ≡ map at asked → asked ≡ places → IsPermutation (ranks made) (ranks sorted) → shown ≡ sorted → IsPermutation (map at places) (ranks shown)
moved_there at made sorted {asked} {places} {shown} are is moved seen =
    subst (λ l. IsPermutation l (ranks shown)) (are ∙ ap (map at) is) (subst (λ l. IsPermutation (ranks made) (ranks l)) (sym seen) moved)

rises_there : (group : Group) (sorted : List Ranked) {shown : List Ranked} → Rises (comes_before group) (ranks sorted) → shown ≡ sorted → Rises (comes_before group) (ranks shown)
rises_there group sorted rises seen = subst (λ l. Rises (comes_before group) (ranks l)) (sym seen) rises

pub staying_places-requires-clause-once : goal.staying_places-requires-clause-once
staying_places-requires-clause-once c =
    let moved = moved_there (rank_at (text_of c.args.suffixes.now c.args.group) (targets c.args.cookies.now)) c.in_ok-ranked.ranked.items c.sorted-ranked.result.items c.in_ok-ranked.ensures c.deref.ensures.value c.sorted-ranked.ensures.moved c.deref-3.ensures.value in
    once c.args.suffixes.now c.args.group c.args.limit (targets c.args.cookies.now) c.args.places.items c.requires (ranks c.deref-3.result.now) moved

pub returns-clause-value : goal.returns-clause-value
returns-clause-value c =
    let moved = moved_there (rank_at (text_of c.args.suffixes.now c.args.group) (targets c.args.cookies.now)) c.in_ok-ranked.ranked.items c.sorted-ranked.result.items c.in_ok-ranked.ensures c.deref.ensures.value c.sorted-ranked.ensures.moved c.deref-3.ensures.value in
    let rises = rises_there c.args.group c.sorted-ranked.result.items c.sorted-ranked.ensures.rises c.deref-3.ensures.value in
    found-value c.args.suffixes.now c.args.group c.args.limit (targets c.args.cookies.now) c.args.places.items c.requires (ranks c.deref-3.result.now) moved rises
    c.in_ok-kept.kept.items c.sort_unstable.new.self.items c.in_ok-kept.ensures c.sort_unstable.ensures.permutation
    (IsNonDecreasingBy-from_sort (λ x. x) c.sort_unstable.new.self.items c.sort_unstable.ensures.sorted)

pub returns-clause-in_order : goal.returns-clause-in_order
returns-clause-in_order c =
    let moved = moved_there (rank_at (text_of c.args.suffixes.now c.args.group) (targets c.args.cookies.now)) c.in_ok-ranked.ranked.items c.sorted-ranked.result.items c.in_ok-ranked.ensures c.deref.ensures.value c.sorted-ranked.ensures.moved c.deref-3.ensures.value in
    let rises = rises_there c.args.group c.sorted-ranked.result.items c.sorted-ranked.ensures.rises c.deref-3.ensures.value in
    found-in_order c.args.suffixes.now c.args.group c.args.limit (targets c.args.cookies.now) c.args.places.items c.requires (ranks c.deref-3.result.now) moved rises
    c.in_ok-kept.kept.items c.sort_unstable.new.self.items c.in_ok-kept.ensures c.sort_unstable.ensures.permutation
    (IsNonDecreasingBy-from_sort (λ x. x) c.sort_unstable.new.self.items c.sort_unstable.ensures.sorted)

pub returns-clause-few : goal.returns-clause-few
returns-clause-few c =
    let moved = moved_there (rank_at (text_of c.args.suffixes.now c.args.group) (targets c.args.cookies.now)) c.in_ok-ranked.ranked.items c.sorted-ranked.result.items c.in_ok-ranked.ensures c.deref.ensures.value c.sorted-ranked.ensures.moved c.deref-3.ensures.value in
    let rises = rises_there c.args.group c.sorted-ranked.result.items c.sorted-ranked.ensures.rises c.deref-3.ensures.value in
    found-few c.args.suffixes.now c.args.group c.args.limit (targets c.args.cookies.now) c.args.places.items c.requires (ranks c.deref-3.result.now) moved rises
    c.in_ok-kept.kept.items c.sort_unstable.new.self.items c.in_ok-kept.ensures c.sort_unstable.ensures.permutation
    (IsNonDecreasingBy-from_sort (λ x. x) c.sort_unstable.new.self.items c.sort_unstable.ensures.sorted)

pub returns-then-len-limit-clause-value : goal.returns-then-len-limit-clause-value
returns-then-len-limit-clause-value c =
    all-stay c.args.suffixes.now c.args.group c.args.limit (targets c.args.cookies.now) c.args.places.items (omega (arith, c.if-len-limit.true, c.len.ensures))

pub returns-then-len-limit-clause-few : goal.returns-then-len-limit-clause-few
returns-then-len-limit-clause-few c cookie =
    all-few c.args.suffixes.now c.args.group c.args.limit (targets c.args.cookies.now) c.args.places.items (omega (arith, c.if-len-limit.true, c.len.ensures)) cookie

pub returns-then-branch-clause-value : goal.returns-then-branch-clause-value
returns-then-branch-clause-value c =
    let rules = c.args.suffixes.now in
    let group = c.args.group in
    let limit = c.args.limit in
    let store : CookieStore = targets c.args.cookies.now in
    let is = ap ranks c.deref-2.ensures.value ∙ c.in_ok-ranked.ensures ∙ ap (map (rank_at (text_of rules group) store)) c.deref.ensures.value in
    each-stays rules group limit store c.args.places.items
    (λ text. subst (λ l. count_by (λ r. bytes_eq r.text text) l ≤ limit) is (c.in_ok-are_few.ensures c.if-branch.true text))

pub returns-then-branch-clause-few : goal.returns-then-branch-clause-few
returns-then-branch-clause-few c cookie =
    let rules = c.args.suffixes.now in
    let group = c.args.group in
    let limit = c.args.limit in
    let store : CookieStore = targets c.args.cookies.now in
    let is = ap ranks c.deref-2.ensures.value ∙ c.in_ok-ranked.ensures ∙ ap (map (rank_at (text_of rules group) store)) c.deref.ensures.value in
    few-each rules group limit store c.args.places.items
    (λ text. subst (λ l. count_by (λ r. bytes_eq r.text text) l ≤ limit) is (c.in_ok-are_few.ensures c.if-branch.true text)) cookie
