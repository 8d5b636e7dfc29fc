use Rattle.std.proofs.Common.{◌≡◌, ◌++◌, [], true, None, Ok, List, ℕ, length, drop, map, sym, ap, subst, ◌∙◌, arith, length-drop}
use Rattle.std.specs.FinMap.{get}
use Rattle.std.specs.List.{AllZip, list_all}
use Rattle.std.proofs.lemmas.Result.{err_from_is_err_and}
use Rattle.std.specs.String.{string_bytes}
use Rattle.cookie.specs.CookieOf.{header_cookies}
use Rattle.cookie.specs.History.{after_all}
use Rattle.cookie.specs.Jar.{AddOriginal, JarState, view}
use Rattle.cookie_client.specs.Agreement.{value_of}
use Rattle.cookie_client.specs.Calls.{IsOutcome, changes_of}
use Rattle.cookie_client.specs.Client.{ReadsBack, after_texts}
use Rattle.cookie_client.specs.Lines.{lines_of}
use Rattle.cookie_client.specs.Originals.{client_of_line, jar_of_line}
use Rattle.cookie_client.specs.Run.{IsOfAgreement, Refuses}
use Rattle.cookie_client.specs.Session.{changes_in, cookie_line, delta_texts, header_line, session_of_lines, set_cookie_lines}
use Rattle.cookie_client.specs.declared.call.JarCall.{JarCall}
use Rattle.cookie_client.specs.declared.exchange.Played.{Played}
use Rattle.cookie_client.proofs.EntriesLemmas.{are_texts}
use Rattle.cookie_client.proofs.ExchangeLemmas.{exchanged}
use Rattle.cookie_client.proofs.RoundLemmas.{client_shown, fresh_line, holds_line}
use Rattle.cookie_client.proofs.RunLemmas.{matched, session_of_lines-refused, written_by}
use Rattle.cookie_client.proofs.SessionLemmas.{lines_of-length}
use Rattle.cookie_client.proofs.engine.session_text.Goals as goal

pub calls_of-requires : goal.calls_of-requires
calls_of-requires c =
    omega (arith, ap length c.header_of-header.ensures.rest, length-drop 1 c.of-lines.result, ap length c.of-lines.ensures, lines_of-length c.args.text.now)

pub returns-in_err-calls-clause-played : goal.returns-in_err-calls-clause-played
returns-in_err-calls-clause-played c =
    let p = err_from_is_err_and c.from_residual.result c.from_residual.ensures.1 in
    let rest = c.header_of-header.ensures.rest ∙ ap (drop 1) c.of-lines.ensures in
    rw (p.1, p.2) (session_of_lines-refused c.args.now (lines_of c.args.text.now) c.in_err-calls.field-0.0
    (subst (λ ls. Refuses (changes_in c.args.now 2 ls) c.in_err-calls.field-0.0) rest c.in_err-calls.ensures))

-- what is written is the session's text, and of an agreement
told : (c : goal.After-drop-calls-2) (text : List ℕ)
    → (let client = after_texts c.args.now (delta_texts c.replay.new.jar) c.in_ok-client.client in
    (text ≡ set_cookie_lines (delta_texts c.replay.new.jar) ++ cookie_line client) × (get client [] ≡ None → ReadsBack client))
    → (session_of_lines c.args.now (lines_of c.args.text.now) ≡ Ok text) × IsOfAgreement c.args.now (lines_of c.args.text.now) text
told c text is =
    let now = c.args.now in
    let calls : List JarCall = c.in_ok-calls.calls.items in
    let lines = lines_of c.args.text.now in
    let header = c.header_of-header.ensures.header ∙ ap header_line c.of-lines.ensures in
    let rest = c.header_of-header.ensures.rest ∙ ap (drop 1) c.of-lines.ensures in
    let replayed = c.in_ok-outcomes.ensures in
    let jar = c.replay.new.jar in
    let client = after_texts now (delta_texts jar) c.in_ok-client.client in
    let p : Played = record { jar = jar; client = client; outcomes = c.in_ok-outcomes.outcomes } in
    let begun : c.in_ok-jar.jar ≡ jar_of_line (header_line lines) = c.in_ok-jar.ensures ∙ (λ i. after_all (map AddOriginal (header_cookies true (header i))) (c.requires i)) in
    let held : c.in_ok-client.client ≡ client_of_line (header_line lines) =
    client_shown (jar_of_line (header_line lines)) (client_of_line (header_line lines)) (fresh_line (header_line lines)) (holds_line (header_line lines)) c.in_ok-client.client (λ name. c.in_ok-client.ensures name ∙ ap (λ (j : JarState). value_of (view j name)) begun) in
    let read : client ≡ after_texts now (delta_texts jar) (client_of_line (header_line lines)) = ap (after_texts now (delta_texts jar)) held in
    let made : jar ≡ after_all (changes_of p.outcomes.items calls) (jar_of_line (header_line lines)) =
    replayed.jar ∙ (λ i. after_all (changes_of p.outcomes.items (c.deref.ensures.value i)) (begun i)) in
    written_by now lines calls p text
    (ap (λ ls. changes_in now 2 ls) (sym rest) ∙ c.in_ok-calls.ensures)
    (exchanged now (jar_of_line (header_line lines)) (client_of_line (header_line lines)) calls p (delta_texts jar)
    (fresh_line (header_line lines))
    (subst (λ cs. AllZip IsOutcome cs p.outcomes.items) c.deref.ensures.value replayed.outcomes) made (are_texts jar) read)
    (sym (c.are_accepted.ensures ∙ ap (list_all (λ b. b)) c.deref-2.ensures.value) ∙ c.if-not-are_accepted.false)
    read is

pub returns-clause-played : goal.returns-clause-played
returns-clause-played c =
    matched c.output.result _ _ (Refuses (session_of_lines c.args.now (lines_of c.args.text.now))) (λ answer is. (told c (string_bytes answer) is).0) tt c.output.ensures

pub returns-clause-agreement : goal.returns-clause-agreement
returns-clause-agreement c = matched c.output.result _ _ _ (λ answer is. (told c (string_bytes answer) is).1) tt c.output.ensures
