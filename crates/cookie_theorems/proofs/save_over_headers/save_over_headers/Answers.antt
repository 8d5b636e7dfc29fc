use Rattle.cookie.specs.DeltaTexts.{AreDeltaTexts}
use Rattle.cookie_http.specs.Fields.{set_cookie_texts}
use Rattle.cookie_theorems.proofs.ExchangeLemmas.{are_carried}
use Rattle.cookie_session.specs.Seconds.{second_of}
use Rattle.cookie_session.specs.Session.{seen_at}
use Rattle.cookie_theorems.proofs.ReturnLemmas.{handled, returned_open, still_unnamed}
use Rattle.cookie_theorems.proofs.save_over_headers.save_over_headers.Goals as goal

pub returns-clause-returns : goal.returns-clause-returns
returns-clause-returns g c can =
    let site = c.args.sessions.now in
    let saved = c.in_ok-save.ensures in
    let (nonce, is_nonce, drawn, added) = saved.ok in
    let (outcomes, told, played) = c.in_ok-play.ensures in
    let carried = c.in_ok-carried.ensures in
    let response = c.in_ok-carried.carried.response in
    let are : AreDeltaTexts c.save.new.jar.delta (set_cookie_texts response) = are_carried c.save.new.jar.delta response carried.carried.response in
    let unnamed = still_unnamed site nonce c.args.now c.args.later c.args.session.now c.args.jar.now c.play.new.jar c.save.new.jar c.args.calls.now outcomes c.args.client.now
    c.carry.new.client can saved.lives told played added saved.cookie (set_cookie_texts response) are carried.carried.reads in
    (c.in_ok-opened.ensures.answers 0 (seen_at (second_of c.args.now) c.args.session.now)).1
    (returned_open site nonce c.args.now c.args.later c.args.session.now c.args.jar.now c.play.new.jar c.save.new.jar c.args.calls.now outcomes c.args.client.now
    c.carry.new.client can saved.lives told played added saved.cookie (set_cookie_texts response) are carried.carried.reads
    c.in_ok-carried.carried.next (carried.shows unnamed site.cookie.now.fields.name) saved.opens)

pub returns-clause-handled : goal.returns-clause-handled
returns-clause-handled g c =
    let site = c.args.sessions.now in
    let saved = c.in_ok-save.ensures in
    let (nonce, is_nonce, drawn, added) = saved.ok in
    let (outcomes, told, played) = c.in_ok-play.ensures in
    handled _ site nonce c.args.now c.args.session.now c.args.jar.now c.play.new.jar c.save.new.jar c.args.calls.now outcomes told played is_nonce drawn added saved.meets saved.lives
    saved.within saved.fits
