-- One more cookie is there.
use Rattle.std.proofs.Common.{◌<◌, [], ◌∷◌, ap, get_or, length, ◌∙◌, arith}
use Rattle.std.proofs.lemmas.List.{length-map, map-append}
use Rattle.std.proofs.lemmas.List.Elements.{All-get_or}
use Rattle.cookie_browser.specs.Storage.{CookieStore}
use Rattle.cookie_agent.specs.SentCode.{targets}
use Rattle.cookie_agent.proofs.TrimLemmas.{picked-more, target_there}
use Rattle.cookie_agent.proofs.trim.cookies_at.Goals as goal

pub loop-place-preserved : goal.loop-place-preserved
loop-place-preserved c =
    let lent = c.args.cookies.now in
    let store : CookieStore = targets lent in
    let places = c.args.places.now in
    let i = c.loop-place.place-index in
    let place = get_or places i 0 in
    let x = c.index-cookies-place.result in
    let long = length-map lent (λ b. b.now) in
    let inside : place < length store = All-get_or (λ p. p < length store) places i 0 c.loop-place-test.true c.requires in
    let there = target_there lent place x (omega (arith, inside, long)) c.index-cookies-place.is in
    ap targets c.in_ok-push.ensures.items
    ∙ map-append (λ b. b.now) c.loop-place.made.items (x ∷ [])
    ∙ picked-more store places (targets c.loop-place.made.items) i x.now c.loop-place-test.true there c.loop-place.invariant
