use Rattle.std.proofs.Common.{ap, ◌+◌, subst, ◌<◌, ◌^◌, ◌∙◌, refl}
use Rattle.std.specs.String.{string_bytes}
use Rattle.cookie.specs.Keys.{encryption_half}
use Rattle.cookie.proofs.PurposeLemmas.{apart}
use Rattle.cookie_session.specs.Tokens.{new_token, token_purpose, token_text}
use Rattle.cookie_session.proofs.TokenLemmas.{makes_read, makes_token, token_of, token_purpose_text}
use Rattle.cookie_session.proofs.tokens.Tokens.make.Goals as goal

pub returns-in_err-text-clause-apart : goal.returns-in_err-text-clause-apart
returns-in_err-text-clause-apart g c = apart token_purpose c.args.self.now.purpose.now token_purpose_text

pub returns-clause-reads : goal.returns-clause-reads
returns-clause-reads g c =
    let site = c.args.self.now in
    let value = c.args.value.now in
    makes_read string_bytes site (new_token site c.args.now value) c.sealer-sealer.result.now c.as_str.result.now _ c.seal_for.result c.newest.ensures.some
    (subst (λ n. (n < 2 ^ 64) × (n + site.lifetime < 2 ^ 64)) c.second_of-made.ensures.value c.in_ok-text.ensures.fits)
    refl
    (c.sealer-sealer.ensures ∙ ap encryption_half c.newest.ensures.value)
    (c.as_str.ensures.value ∙ c.in_ok-text.ensures.text ∙ ap (λ n. token_text (token_of (n, (n + site.lifetime, value)))) c.second_of-made.ensures.value)
    c.seal_for.ensures.outcome.ok

pub returns-clause-ok : goal.returns-clause-ok
returns-clause-ok g c =
    let site = c.args.self.now in
    let value = c.args.value.now in
    makes_token string_bytes site c.args.now value c.sealer-sealer.result.now c.as_str.result.now _ c.seal_for.result
    (c.sealer-sealer.ensures ∙ ap encryption_half c.newest.ensures.value)
    (c.as_str.ensures.value ∙ c.in_ok-text.ensures.text ∙ ap (λ n. token_text (token_of (n, (n + site.lifetime, value)))) c.second_of-made.ensures.value)
    c.seal_for.ensures.outcome.ok
