-- One more cookie, with its text.
use Rattle.std.proofs.Common.{◌<◌, ◌++◌, ◌∷◌, [], List, ℕ, get_or, length, map, take, sym, ap, ◌∙◌, arith}
use Rattle.std.proofs.lemmas.List.{length-map, map-append, take_more}
use Rattle.std.proofs.lemmas.List.Elements.{All-get_or}
use Rattle.cookie_browser.specs.Storage.{CookieStore, KeptView}
use Rattle.cookie_agent.specs.LimitsCode.{Rank, rank_at, rank_of, ranks, text_of}
use Rattle.cookie_agent.specs.SentCode.{targets}
use Rattle.cookie_agent.specs.declared.ranked.Ranked.{Ranked}
use Rattle.cookie_agent.proofs.TrimLemmas.{rank_lent}
use Rattle.cookie_agent.proofs.trim.ranked.Goals as goal

pub loop-index-preserved : goal.loop-index-preserved
loop-index-preserved c =
    let lent = c.args.cookies.now in
    let store : CookieStore = targets lent in
    let places = c.args.places.now in
    let i = c.loop-index.index in
    let place = get_or places i 0 in
    let text : KeptView → List ℕ = text_of c.args.suffixes.now c.args.group in
    let at : ℕ → Rank = rank_at text store in
    let item : Ranked = record { place = place; text = c.of-text.result; cookie = c.index-cookies-place.result } in
    let size = length-map lent (λ b. b.now) in
    let inside : place < length store = All-get_or (λ p. p < length store) places i 0 c.loop-index-test.true c.requires in
    ap (λ l. ranks l) c.in_ok-push.ensures.items
    ∙ map-append rank_of c.loop-index.made.items (item ∷ [])
    ∙ ap (λ l. l ++ rank_of item ∷ []) c.loop-index.invariant
    ∙ ap (λ r. map at (take i places) ++ r ∷ []) (rank_lent text lent place c.index-cookies-place.result c.of-text.result (omega (arith, inside, size)) c.index-cookies-place.is (c.of-text.ensures ∙ c.text.ensures))
    ∙ sym (ap (map at) (take_more places i 0 c.loop-index-test.true) ∙ map-append at (take i places) (place ∷ []))
