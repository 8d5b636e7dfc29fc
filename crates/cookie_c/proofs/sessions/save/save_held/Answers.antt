use Rattle.cookie_c.proofs.SaveLemmas.{saves_held}
use Rattle.cookie_c.proofs.sessions.save.save_held.Goals as goal

pub returns-in-Session : goal.returns-in-Session
returns-in-Session c =
    saves_held c.args.lasting c.args.sessions.now c.args.nonce.bytes.now c.args.time c.save-answer.result c.args.out.now c.save-answer.new.out c.args.session.now (record { handle = c.put.new.self })
    _ _ _ _ c.in-Some.ensures.taken c.as_mut.ensures.value c.in-Session.is c.put.ensures c.save-answer.ensures
