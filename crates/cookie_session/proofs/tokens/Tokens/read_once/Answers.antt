use Rattle.std.proofs.Common.{◌≡◌, ap, subst, sym, ◌∙◌}
use Rattle.cookie_session.specs.Endings.{MayBeSpent}
use Rattle.cookie_session.specs.Revocations.{IsRevoked, IsRevokedToo}
use Rattle.cookie_session.specs.Tokens.{TokenState, token_id}
use Rattle.cookie_session.proofs.TokenLemmas.{no_token, once_none, once_read, once_spent, one_token, only_token, token_long}
use Rattle.cookie_session.proofs.tokens.Tokens.read_once.Goals as goal

pub returns-in_default-clause-read : goal.returns-in_default-clause-read
returns-in_default-clause-read g c kept can =
    once_none c.args.self.now c.args.now c.args.text.now c.in_ok-token.field-0 c.in_ok-token.ensures c.in_default.is
    (IsRevoked (g.R.Revocations.revoked_until c.args.revocations.now) (token_id c.args.text.now))

pub returns-in_default-clause-spent : goal.returns-in_default-clause-spent
returns-in_default-clause-spent g c kept can token is =
    absurd (no_token c.args.self.now c.args.now c.args.text.now c.in_ok-token.field-0 c.in_ok-token.ensures c.in_default.is token is)

pub returns-in-Ok-true-clause-read : goal.returns-in-Ok-true-clause-read
returns-in-Ok-true-clause-read g c kept can =
    let is = one_token c.args.self.now c.args.now c.args.text.now c.in_ok-token.field-0 c.in_ok-token.ensures c.in-Some.token c.in-Some.is in
    let was = (c.in-Ok-true.ensures.already kept can).0 c.in-Ok-true.field-0-test in
    once_spent c.args.self.now c.args.now c.args.text.now c.in_ok-token.field-0 c.in_ok-token.ensures c.in-Some.token c.in-Some.is (IsRevoked (g.R.Revocations.revoked_until c.args.revocations.now) (token_id c.args.text.now))
    (subst (IsRevoked (g.R.Revocations.revoked_until c.args.revocations.now)) (c.id_of.ensures.id (token_long c.args.self.now c.args.now c.args.text.now c.in-Some.token is)) was)

pub returns-in-Ok-true-clause-spent : goal.returns-in-Ok-true-clause-spent
returns-in-Ok-true-clause-spent g c kept can token is =
    let end_is : c.token.inside.end ≡ token.end = ap (λ (t : TokenState). t.end) (c.token.view_is ∙ only_token c.args.self.now c.args.now c.args.text.now c.in_ok-token.field-0 c.in_ok-token.ensures c.in-Some.token c.in-Some.is token is) in
    subst (λ id. IsRevokedToo id token.end (g.R.Revocations.revoked_until c.args.revocations.now) (g.R.Revocations.revoked_until c.revoke.new.self)) (c.id_of.ensures.id (token_long c.args.self.now c.args.now c.args.text.now token is))
    (subst (λ end. IsRevokedToo c.id_of.result end (g.R.Revocations.revoked_until c.args.revocations.now) (g.R.Revocations.revoked_until c.revoke.new.self)) end_is (c.in-Ok-true.ensures.revoked kept can))

pub returns-in-Ok-true-clause-unasked : goal.returns-in-Ok-true-clause-unasked
returns-in-Ok-true-clause-unasked g c none =
    absurd (none c.in-Some.token (one_token c.args.self.now c.args.now c.args.text.now c.in_ok-token.field-0 c.in_ok-token.ensures c.in-Some.token c.in-Some.is))

pub returns-in-Ok-false-clause-read : goal.returns-in-Ok-false-clause-read
returns-in-Ok-false-clause-read g c kept can =
    let is = one_token c.args.self.now c.args.now c.args.text.now c.in_ok-token.field-0 c.in_ok-token.ensures c.in-Some.token c.in-Some.is in
    let no = c.in-Ok-false.field-0-test in
    once_read c.args.self.now c.args.now c.args.text.now c.in_ok-token.field-0 c.in_ok-token.ensures c.in-Some.token c.in-Some.is (IsRevoked (g.R.Revocations.revoked_until c.args.revocations.now) (token_id c.args.text.now))
    (λ was.
    let yes = (c.in-Ok-false.ensures.already kept can).1 (subst (IsRevoked (g.R.Revocations.revoked_until c.args.revocations.now)) (sym (c.id_of.ensures.id (token_long c.args.self.now c.args.now c.args.text.now c.in-Some.token is))) was) in
    cc)

pub returns-in-Ok-false-clause-spent : goal.returns-in-Ok-false-clause-spent
returns-in-Ok-false-clause-spent g c kept can token is =
    let end_is : c.token.inside.end ≡ token.end = ap (λ (t : TokenState). t.end) (c.token.view_is ∙ only_token c.args.self.now c.args.now c.args.text.now c.in_ok-token.field-0 c.in_ok-token.ensures c.in-Some.token c.in-Some.is token is) in
    subst (λ id. IsRevokedToo id token.end (g.R.Revocations.revoked_until c.args.revocations.now) (g.R.Revocations.revoked_until c.revoke.new.self)) (c.id_of.ensures.id (token_long c.args.self.now c.args.now c.args.text.now token is))
    (subst (λ end. IsRevokedToo c.id_of.result end (g.R.Revocations.revoked_until c.args.revocations.now) (g.R.Revocations.revoked_until c.revoke.new.self)) end_is (c.in-Ok-false.ensures.revoked kept can))

pub returns-in-Ok-false-clause-unasked : goal.returns-in-Ok-false-clause-unasked
returns-in-Ok-false-clause-unasked g c none =
    absurd (none c.in-Some.token (one_token c.args.self.now c.args.now c.args.text.now c.in_ok-token.field-0 c.in_ok-token.ensures c.in-Some.token c.in-Some.is))

pub returns-in-Err-clause-unasked : goal.returns-in-Err-clause-unasked
returns-in-Err-clause-unasked g c none =
    absurd (none c.in-Some.token (one_token c.args.self.now c.args.now c.args.text.now c.in_ok-token.field-0 c.in_ok-token.ensures c.in-Some.token c.in-Some.is))

pub returns-in-Err-clause-unsure : goal.returns-in-Err-clause-unsure
returns-in-Err-clause-unsure g c error same =
    let is = one_token c.args.self.now c.args.now c.args.text.now c.in_ok-token.field-0 c.in_ok-token.ensures c.in-Some.token c.in-Some.is in
    let end_is : c.token.inside.end ≡ c.in-Some.token.end = ap (λ (t : TokenState). t.end) c.token.view_is in (
      c.in-Some.token,
      is,
      λ kept.
          subst (λ id. MayBeSpent (record { id = id; end = c.in-Some.token.end }) (g.R.Revocations.revoked_until c.args.revocations.now) (g.R.Revocations.revoked_until c.revoke.new.self)) (c.id_of.ensures.id (token_long c.args.self.now c.args.now c.args.text.now c.in-Some.token is))
          (subst (λ end. MayBeSpent (record { id = c.id_of.result; end = end }) (g.R.Revocations.revoked_until c.args.revocations.now) (g.R.Revocations.revoked_until c.revoke.new.self)) end_is (c.in-Err.ensures.err kept)),
    )
