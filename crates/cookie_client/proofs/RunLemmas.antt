-- What a run answers, from what its session is.
use Rattle.std.proofs.Common.{◌≡◌, ℕ, true, List, [], ◌++◌, map, drop, Option, Some, None, Result, Ok, Err, cond, IsUtf8, sym, ap, subst, ◌∙◌}
use Rattle.std.specs.FinMap.{get}
use Rattle.std.specs.Io.KnownBytes.{Keeps}
use Rattle.std.specs.List.{list_all}
use Rattle.std.specs.Result.{MatchResult, result_map_both}
use Rattle.std.specs.Str.{is_utf8}
use Rattle.std.proofs.lemmas.Bool.{false_from_ne_true}
use Rattle.std.proofs.lemmas.Slice.Zip.{AllZip-long}
use Rattle.std.proofs.lemmas.Str.{IsUtf8-from_is_utf8, is_utf8-from_IsUtf8}
use Rattle.jiff.specs.Types.{DateTime}
use Rattle.cookie.specs.History.{after_all}
use Rattle.cookie.specs.Jar.{Change, JarState}
use Rattle.cookie.specs.Memory.{Gives}
use Rattle.cookie_client.specs.Agreement.{Agrees}
use Rattle.cookie_client.specs.Calls.{IsOutcome, change_of, changes_of}
use Rattle.cookie_client.specs.Client.{ReadsBack, after_texts}
use Rattle.cookie_client.specs.Lines.{lines_of}
use Rattle.cookie_client.specs.Exchange.{IsExchange}
use Rattle.cookie_client.specs.Originals.{client_of_line, jar_of_line}
use Rattle.cookie_client.specs.Run.{IsOfAgreement, IsPlayed, Refuses}
use Rattle.cookie_client.specs.Session.{Fault, BadMoment, BadInput, changes_in, cookie_line, delta_texts, header_line, moment_of, session_of_lines, session_of_bytes, session, set_cookie_lines, session_text}
use Rattle.cookie_client.specs.declared.call.JarCall.{JarCall}
use Rattle.cookie_client.specs.declared.exchange.Played.{Played}
use Rattle.cookie_client.specs.declared.run_error.RunError.{RunError}
use Rattle.cookie_client.specs.declared.run_error.RunError.TheVariants as refusal
use Rattle.cookie_client.proofs.NameLemmas.{client_of_line-unnamed}
use Rattle.cookie_client.proofs.RoundLemmas.{holds_kept, holds_line}
use Rattle.cookie_client.proofs.SessionLemmas.{accepted_items-all}

pub session_of_bytes-text : (now : DateTime) (bytes : List ℕ) → IsUtf8 bytes → session_of_bytes now bytes ≡ session_of_lines now (lines_of bytes)
session_of_bytes-text now bytes text = ap (λ b. cond b (session_of_lines now (lines_of bytes)) (Err BadInput)) (is_utf8-from_IsUtf8 bytes text)

pub session_of_bytes-bad : (now : DateTime) (bytes : List ℕ) → ¬ (IsUtf8 bytes) → session_of_bytes now bytes ≡ Err BadInput
session_of_bytes-bad now bytes bad =
    ap (λ b. cond b (session_of_lines now (lines_of bytes)) (Err BadInput)) (false_from_ne_true (is_utf8 bytes) (λ e. bad (IsUtf8-from_is_utf8 bytes e)))

-- ---- the text of a session

-- the session as it is finished from what the lines ask for
asked : DateTime → List (List ℕ) → Result (List Change) Fault → Result (List ℕ) Fault
asked now lines r =
    result_map_both (λ changes. session_text now (client_of_line (header_line lines)) (after_all changes (jar_of_line (header_line lines)))) (λ fault. fault) r

pub session_of_lines-refused : (now : DateTime) (lines : List (List ℕ)) (e : RunError) → Refuses (changes_in now 2 (drop 1 lines)) e → Refuses (session_of_lines now lines) e
unfolding asked
session_of_lines-refused now lines refusal.BadMoment h = h
session_of_lines-refused now lines refusal.BadInput h = ap (asked now lines) h
session_of_lines-refused now lines (refusal.BadLine line) h = ap (asked now lines) h
session_of_lines-refused now lines refusal.OutOfMemory h = h
session_of_lines-refused now lines refusal.Input h = h
session_of_lines-refused now lines refusal.Output h = h

-- what is written of accepted calls is the session's text, and of a client that agrees with the jar
pub written_by : (now : DateTime) (lines : List (List ℕ)) (calls : List JarCall) (p : Played) (text : List ℕ) → changes_in now 2 (drop 1 lines) ≡ Ok (map change_of calls)
    → IsExchange now (jar_of_line (header_line lines)) (client_of_line (header_line lines)) calls p → list_all (λ b. b) p.outcomes.items ≡ true
    → p.client ≡ after_texts now (delta_texts p.jar) (client_of_line (header_line lines))
    → (text ≡ set_cookie_lines (delta_texts p.jar) ++ cookie_line p.client) × (get p.client [] ≡ None → ReadsBack p.client)
    → (session_of_lines now lines ≡ Ok text) × IsOfAgreement now lines text
unfolding asked
written_by now lines calls p text asks exchange all read (is, reads_back) =
    let values = client_of_line (header_line lines) in
    let start : JarState = jar_of_line (header_line lines) in
    let changes : List Change = map change_of calls in
    let same : changes_of p.outcomes.items calls ≡ changes = ap (map change_of) (accepted_items-all p.outcomes.items calls (AllZip-long IsOutcome calls p.outcomes.items exchange.outcomes) all) in
    let made : p.jar ≡ after_all changes start = exchange.jar ∙ ap (λ cs. after_all cs start) same in
    let named : get p.client [] ≡ None = exchange.agreement.named (client_of_line-unnamed (header_line lines)) in (
      ap (asked now lines) asks
          ∙ sym (ap Ok (is ∙ ap (λ v. set_cookie_lines (delta_texts p.jar) ++ cookie_line v) read ∙ ap (λ jar. session_text now values jar) made)),
      record {
        changes = changes;
        asked = asks;
        jar = p.jar;
        made = made;
        client = p.client;
        agreement = subst (λ cs. Agrees now values cs p.jar p.client) same exchange.agreement;
        held = holds_kept start values (holds_line (header_line lines)) changes p.jar made;
        named = named;
        reads_back = reads_back named;
        written = is;
      },
    )

-- an answer, or out of memory
pub matched : {T : Type 0} (r : Result T RunError) (P P' : T → Type 0) (Q : RunError → Type 0) → ((answer : T) → P answer → P' answer) → Q refusal.OutOfMemory
    → Gives refusal.OutOfMemory r P → MatchResult r P' Q
matched (Ok answer) P P' Q weaker wanting h = weaker answer h
matched (Err e) P P' Q weaker wanting h = subst Q (sym h) wanting

-- ---- the session of a moment

at_moment : List ℕ → Option DateTime → Result (List ℕ) Fault
at_moment bytes o = elim o as (λ _. Result (List ℕ) Fault) [ None ↦ Err BadMoment | Some now ↦ session_of_bytes now bytes ]

pub session-at_moment : (moment bytes : List ℕ) (now : DateTime) → moment_of moment ≡ Some now → session moment bytes ≡ session_of_bytes now bytes
unfolding at_moment
session-at_moment moment bytes now e = ap (at_moment bytes) e

-- a refusal of the session, before anything is written
pub refused : (moment bytes : List ℕ) (now : DateTime) → moment_of moment ≡ Some now → (is_read : List ℕ → Type 0) → is_read bytes
    → (old new : Option (List ℕ)) → Keeps old new → (e : RunError) → Refuses (session_of_bytes now bytes) e
    → IsPlayed {T = Unit {0}} moment is_read old new (Err e)
refused moment bytes now good is_read read old new keeps refusal.BadMoment h = absurd h
refused moment bytes now good is_read read old new keeps refusal.BadInput h = (bytes, read, session-at_moment moment bytes now good ∙ h, keeps)
refused moment bytes now good is_read read old new keeps (refusal.BadLine line) h = (bytes, read, session-at_moment moment bytes now good ∙ h, keeps)
refused moment bytes now good is_read read old new keeps refusal.OutOfMemory h = keeps
refused moment bytes now good is_read read old new keeps refusal.Input h = absurd h
refused moment bytes now good is_read read old new keeps refusal.Output h = absurd h
