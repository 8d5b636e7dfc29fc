use Rattle.std.proofs.Common.{◌≡◌, Ok, IfOk, MatchResult, subst, sym, ap, ◌∙◌}
use Rattle.std.specs.String.{string_bytes}
use Rattle.cookie_client.specs.Lines.{lines_of}
use Rattle.cookie_client.specs.Run.{IsOfAgreement, Refuses}
use Rattle.cookie_client.specs.Session.{session_of_lines, session_of_bytes}
use Rattle.cookie_client.proofs.RunLemmas.{session_of_bytes-text, session_of_bytes-bad}
use Rattle.cookie_client.proofs.engine.answer.Goals as goal

pub returns-in-Ok-clause-played : goal.returns-in-Ok-clause-played
returns-in-Ok-clause-played c =
    let is : session_of_bytes c.args.now c.args.bytes.now ≡ session_of_lines c.args.now (lines_of c.in-Ok.text.now) =
    session_of_bytes-text c.args.now c.args.bytes.now c.in-Ok.ensures.cases.1 ∙ ap (λ t. session_of_lines c.args.now (lines_of t)) (sym c.in-Ok.ensures.cases.0) in
    subst (λ s. MatchResult c.session_text.result (λ text. s ≡ Ok (string_bytes text)) (Refuses s)) (sym is) c.session_text.ensures.played

pub returns-in-Ok-clause-agreement : goal.returns-in-Ok-clause-agreement
returns-in-Ok-clause-agreement c =
    subst (λ bytes. IfOk c.session_text.result (λ text. IsOfAgreement c.args.now (lines_of bytes) (string_bytes text))) c.in-Ok.ensures.cases.0 c.session_text.ensures.agreement

pub returns-in-Err-clause-played : goal.returns-in-Err-clause-played
returns-in-Err-clause-played c = session_of_bytes-bad c.args.now c.args.bytes.now c.in-Err.ensures.cases.0
