use Rattle.std.proofs.Common.{◌≡◌, ◌+◌, [], ◌∷◌, ◌++◌, drop, sym, ap, subst, ◌∙◌, append-nil, append_assoc, drop_of_length-le}
use Rattle.std.proofs.lemmas.List.{drop_more}
use Rattle.std.specs.FinMap.{empty, get, get-empty}
use Rattle.cookie.specs.Jar.{name_cmp}
use Rattle.cookie_client.specs.Rounds.{AreRounds, IsRound}
use Rattle.cookie_client.specs.ExchangeCode.{IsHeaderOf}
use Rattle.cookie_client.proofs.RoundLemmas.{round_of, rounds-length, told}
use Rattle.cookie_client.proofs.requests.rounds.Goals as goal

pub loop-request-init : goal.loop-request-init
loop-request-init c = (
  c.new.result,
  told c.new.result _ (ap (λ v. get v []) c.new.ensures ∙ get-empty name_cmp []) c.in_ok-header.ensures.text c.in_ok-header.ensures.cookies,
  λ rest h.
      subst (λ client. AreRounds c.args.now client c.args.requests.now (c.new-played.result.items ++ rest)) c.new.ensures
      (subst (λ ps. AreRounds c.args.now c.new.result c.args.requests.now (ps ++ rest)) (sym c.new-played.ensures.items) h),
)

pub loop-request-preserved : goal.loop-request-preserved
loop-request-preserved c =
    let (client, is, more) = c.loop-request.invariant in
    let one = c.in_ok-one.one in
    let requests = c.args.requests.now in
    let later = drop (c.loop-request.request-index + 1) requests in
    let this : IsRound c.args.now client c.request-item.result.calls.now one =
    round_of c.args.now client _ c.request-item.result.calls.now one (subst (IsHeaderOf client) (sym c.as_str.ensures.value) is) c.in_ok-one.ensures in
    let first : drop c.loop-request.request-index requests ≡ c.request-item.result ∷ later =
    drop_more requests c.loop-request.request-index c.request-item.result c.loop-request-test.true ∙ ap (λ r. r ∷ later) (sym c.request-item.is) in (
      one.client,
      told one.client _ this.named c.in_ok-header-2.ensures.text c.in_ok-header-2.ensures.cookies,
      λ rest h.
          subst (AreRounds c.args.now empty requests)
          (sym (append_assoc c.loop-request.played.items (one ∷ []) rest) ∙ ap (λ ps. ps ++ rest) (sym c.in_ok-push.ensures.items))
          (more (one ∷ rest) (subst (λ rs. AreRounds c.args.now client rs (one ∷ rest)) (sym first) (this, h))),
    )

pub returns-clause-rounds : goal.returns-clause-rounds
returns-clause-rounds c =
    let (client, is, more) = c.loop-request.invariant in
    subst (AreRounds c.args.now empty c.args.requests.now) (append-nil c.loop-request.played.items)
    (more [] (subst (λ rs. AreRounds c.args.now client rs []) (sym (drop_of_length-le c.args.requests.now c.loop-request-test.false)) tt))

pub returns-clause-count : goal.returns-clause-count
returns-clause-count c =
    let (client, is, more) = c.loop-request.invariant in
    rounds-length c.args.now empty c.args.requests.now c.loop-request.played.items
    (subst (AreRounds c.args.now empty c.args.requests.now) (append-nil c.loop-request.played.items)
    (more [] (subst (λ rs. AreRounds c.args.now client rs []) (sym (drop_of_length-le c.args.requests.now c.loop-request-test.false)) tt)))
