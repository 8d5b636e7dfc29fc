use Rattle.std.proofs.Common.{◌≡◌, ap, subst, ◌∙◌}
use Rattle.cookie.specs.Keys.{encryption_half}
use Rattle.cookie.specs.Record.{Record}
use Rattle.cookie.specs.Sealing.{IsSealingOf}
use Rattle.cookie_session.specs.KeyRing.{newest}
use Rattle.cookie_session.proofs.SaveLemmas.{shown_opens}
use Rattle.cookie_session.proofs.key_ring.KeyRing.add.Goals as goal

pub returns-clause-opens : goal.returns-clause-opens
returns-clause-opens g c =
    let (nonce, is_nonce, drawn, is) = c.in_ok-sealed.ensures.ok in
    let ring = c.args.self.now in
    let cookie = c.args.cookie.fields in
    let sealed = c.in_ok-sealed.sealed.fields in
    let named : sealed.name ≡ cookie.name = ap (λ (r : Record). r.name) is.fields in
    let key : c.sealer.result.now ≡ encryption_half (newest ring) = c.sealer.ensures ∙ ap encryption_half c.newest.ensures.value in
    shown_opens sealed cookie.name named c.args.jar.now c.add.new.self c.in_ok-add.ensures.gives ring cookie.value c.newest.ensures.some
    (subst (λ k. IsSealingOf k sealed cookie.value) key is.stands)
