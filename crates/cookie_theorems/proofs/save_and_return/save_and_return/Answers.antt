use Rattle.std.proofs.Common.{subst}
use Rattle.cookie.specs.Jar.{JarState}
use Rattle.cookie_session.specs.Seconds.{second_of}
use Rattle.cookie_session.specs.Session.{seen_at}
use Rattle.cookie_theorems.specs.Returning.{IsOpened}
use Rattle.cookie_theorems.proofs.ReturnLemmas.{handled, returned_open, still_unnamed}
use Rattle.cookie_theorems.proofs.save_and_return.save_and_return.Goals as goal

pub returns-clause-returns : goal.returns-clause-returns
returns-clause-returns g c can =
    let site = c.args.sessions.now in
    let saved = c.in_ok-save.ensures in
    let (nonce, is_nonce, drawn, added) = saved.ok in
    let (outcomes, told, played) = c.in_ok-play.ensures in
    let (texts, are, read) = c.in_ok-next.ensures.read in
    let unnamed = still_unnamed site nonce c.args.now c.args.later c.args.session.now c.args.jar.now c.play.new.jar c.save.new.jar c.args.calls.now outcomes c.args.client.now
    c.next_jar.new.client can saved.lives told played added saved.cookie texts are read in
    (c.in_ok-answer.ensures.answers 0 (seen_at (second_of c.args.now) c.args.session.now)).1
    (returned_open site nonce c.args.now c.args.later c.args.session.now c.args.jar.now c.play.new.jar c.save.new.jar c.args.calls.now outcomes c.args.client.now
    c.next_jar.new.client can saved.lives told played added saved.cookie texts are read c.in_ok-next.next (c.in_ok-next.ensures.shows unnamed site.cookie.now.fields.name) saved.opens)

pub returns-clause-came : goal.returns-clause-came
returns-clause-came g c =
    let site = c.args.sessions.now in
    let saved = c.in_ok-save.ensures in
    let (nonce, is_nonce, drawn, added) = saved.ok in
    let (outcomes, told, played) = c.in_ok-play.ensures in
    record {
      handled = handled _ site nonce c.args.now c.args.session.now c.args.jar.now c.play.new.jar c.save.new.jar c.args.calls.now outcomes told played is_nonce drawn added
          saved.meets saved.lives saved.within saved.fits;
      read = c.in_ok-next.ensures.read;
      opened = subst (λ (j : JarState). IsOpened site j c.args.later c.in_ok-answer.answer) c.in_ok-next.ensures.next c.in_ok-answer.ensures.answers;
    }
