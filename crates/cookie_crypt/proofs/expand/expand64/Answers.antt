use Rattle.std.proofs.Common.{ℕ, ◌++◌, List, [], ◌∷◌, ap, sym, ◌∙◌, append_assoc}
use Rattle.cookie_crypt.specs.Hmac.{hmac}
use Rattle.cookie_crypt.specs.Expand.{expand64}
use Rattle.cookie_crypt.proofs.expand.expand64.Goals as goal

pub returns : goal.returns
unfolding expand64
returns c =
    let prk : List ℕ = c.args.prk.now in
    let info : List ℕ = c.args.info.now in
    c.join.ensures
    ∙ ap (λ b. c.hmac-first.result ++ b) (c.hmac-second.ensures ∙ ap (hmac prk) (sym (append_assoc c.hmac-first.result info (2 ∷ []))))
    ∙ ap (λ first. first ++ hmac prk (first ++ info ++ 2 ∷ [])) c.hmac-first.ensures
