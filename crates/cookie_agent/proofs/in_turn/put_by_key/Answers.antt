-- The map has the place of the one with the key, or the last one.
use Rattle.std.proofs.Common.{◌≡◌, ◌<◌, ◌≤◌, [], ◌∷◌, length, unwrap_or, ap, ◌∙◌, sym, rules, arith}
use Rattle.std.proofs.lemmas.List.{length-map, map-append, map-set}
use Rattle.std.specs.BTreeMap.{get}
use Rattle.std.specs.BTreeMap.Entry.{map_with_value}
use Rattle.cookie_browser.specs.Storage.{CookieStore}
use Rattle.cookie_agent.specs.SentCode.{targets}
use Rattle.cookie_agent.specs.StoredCode.{SummedKey, key_view, summed_key_cmp}
use Rattle.cookie_agent.proofs.PlaceLemmas.{place, places-put, put-among, put-last}
use Rattle.cookie_agent.proofs.in_turn.put_by_key.Goals as goal

pub returns-then-place-len-clause-value : goal.returns-then-place-len-clause-value
returns-then-place-len-clause-value c =
    let x = c.args.cookie.now in
    let xs : CookieStore = targets c.args.made.now.items in
    let key : SummedKey = (c.sum.result, c.key-key.result) in
    let p = c.or_insert-place.result.now in
    let long = length-map c.args.made.now.items (λ b. b.now) in
    let is : p ≡ unwrap_or (get summed_key_cmp c.args.places.now key) (length xs) = search rules in
    let below : p < length xs = omega (arith, long, c.if-place-len.true, c.len-2.ensures) in
    map-set (λ b. b.now) c.args.made.now.items p c.args.cookie
    ∙ put-among x key c.key-key.ensures c.sum.ensures c.args.places.now xs c.requires.places p is c.requires.apart below

pub returns-then-place-len-clause-places : goal.returns-then-place-len-clause-places
returns-then-place-len-clause-places c q other =
    let x = c.args.cookie.now in
    let xs : CookieStore = targets c.args.made.now.items in
    let key : SummedKey = (c.sum.result, c.key-key.result) in
    let p = c.or_insert-place.result.now in
    let long = length-map c.args.made.now.items (λ b. b.now) in
    let is : p ≡ unwrap_or (get summed_key_cmp c.args.places.now key) (length xs) = search rules in
    places-put x key c.key-key.ensures c.sum.ensures c.args.places.now xs c.requires.places p is c.requires.apart (map_with_value c.in_ok-places.field-0 p) _ (search rules) (c.in_ok-places.ensures.update.0 p) q other
    ∙ ap (place (key_view q.1.now) 0) (sym (returns-then-place-len-clause-value c))

pub returns-clause-value : goal.returns-clause-value
returns-clause-value c =
    let x = c.args.cookie.now in
    let xs : CookieStore = targets c.args.made.now.items in
    let key : SummedKey = (c.sum.result, c.key-key.result) in
    let p = c.or_insert-place.result.now in
    let long = length-map c.args.made.now.items (λ b. b.now) in
    let is : p ≡ unwrap_or (get summed_key_cmp c.args.places.now key) (length xs) = search rules in
    let beyond : length xs ≤ p = omega (arith, long, c.if-place-len.false, c.len-2.ensures) in
    ap targets c.in_ok-push.ensures.items
    ∙ map-append (λ b. b.now) c.args.made.now.items (c.args.cookie ∷ [])
    ∙ put-last x key c.key-key.ensures c.sum.ensures c.args.places.now xs c.requires.places p is c.requires.apart beyond

pub returns-clause-places : goal.returns-clause-places
returns-clause-places c q other =
    let x = c.args.cookie.now in
    let xs : CookieStore = targets c.args.made.now.items in
    let key : SummedKey = (c.sum.result, c.key-key.result) in
    let p = c.or_insert-place.result.now in
    let long = length-map c.args.made.now.items (λ b. b.now) in
    let is : p ≡ unwrap_or (get summed_key_cmp c.args.places.now key) (length xs) = search rules in
    places-put x key c.key-key.ensures c.sum.ensures c.args.places.now xs c.requires.places p is c.requires.apart (map_with_value c.in_ok-places.field-0 p) _ (search rules) (c.in_ok-places.ensures.update.0 p) q other
    ∙ ap (place (key_view q.1.now) 0) (sym (returns-clause-value c))
