use Rattle.std.proofs.Common.{◌≡◌, ℕ, List, ◌==◌, ◌&&◌, Bool, sym, ap, ◌∙◌}
use Rattle.std.specs.List.{before_first}
use Rattle.std.specs.Str.{bytes_eq, trim}
use Rattle.cookie_core.specs.CookieOf.{key_text}
use Rattle.cookie_core.specs.SentNames.{has_printed_escapes, sent_name}
use Rattle.cookie_core.specs.Wsp.{trim_wsp}
use Rattle.cookie_core.proofs.BareLemmas.{settled_named}
use Rattle.cookie_core.proofs.SentNameLemmas.{keeps_prefixes}
use Rattle.cookie_core.proofs.sent_name.is_named_as_sent.Goals as goal

-- what was compared are the name that is read and the one that was sent
compared : (piece name key sent : List ℕ) (result : Bool) → name ≡ before_first (λ byte. byte == 61) piece → key ≡ trim name → sent ≡ trim_wsp name
    → result ≡ bytes_eq key sent → (result ≡ bytes_eq (key_text piece) (sent_name piece)) × (sent ≡ sent_name piece)
compared piece name key sent result is trimmed sends same =
    let k : key ≡ key_text piece = trimmed ∙ ap trim is in
    let s : sent ≡ sent_name piece = sends ∙ ap trim_wsp is in
    (same ∙ (λ i. bytes_eq (k i) (s i)), s)

pub returns-then-eq-clause-named : goal.returns-then-eq-clause-named
returns-then-eq-clause-named c =
    let piece = c.args.piece.now in
    let (eq, sent) = compared piece c.before_equals-name.result.now c.as_bytes-2.result.now c.trim_wsp-sent.result.now c.eq.result
    c.before_equals-name.ensures (c.as_bytes-2.ensures.value ∙ c.trim.ensures.trim) (c.trim_wsp-sent.ensures ∙ ap trim_wsp c.as_bytes.ensures.value) c.eq.ensures in
    c.has_printed_escapes.ensures ∙ ap has_printed_escapes sent ∙ sym (ap (λ b. b && has_printed_escapes (sent_name piece)) (sym eq ∙ c.if-eq.true))

pub returns-then-eq-clause-prefixes : goal.returns-then-eq-clause-prefixes
returns-then-eq-clause-prefixes c = keeps_prefixes c.args.piece.now

pub returns-else-eq-clause-named : goal.returns-else-eq-clause-named
returns-else-eq-clause-named c =
    let piece = c.args.piece.now in
    let (eq, sent) = compared piece c.before_equals-name.result.now c.as_bytes-2.result.now c.trim_wsp-sent.result.now c.eq.result
    c.before_equals-name.ensures (c.as_bytes-2.ensures.value ∙ c.trim.ensures.trim) (c.trim_wsp-sent.ensures ∙ ap trim_wsp c.as_bytes.ensures.value) c.eq.ensures in
    c.if-eq.false ∙ sym (ap (λ b. b && has_printed_escapes (sent_name piece)) (sym eq ∙ c.if-eq.false))

pub returns-else-eq-clause-prefixes : goal.returns-else-eq-clause-prefixes
returns-else-eq-clause-prefixes c = keeps_prefixes c.args.piece.now

pub returns-then-is_bare-clause-named : goal.returns-then-is_bare-clause-named
returns-then-is_bare-clause-named c =
    settled_named c.args.piece.now c.before_equals-name.result.now c.before_equals-name.ensures (c.is_bare.ensures c.if-is_bare.true)

pub returns-then-is_bare-clause-prefixes : goal.returns-then-is_bare-clause-prefixes
returns-then-is_bare-clause-prefixes c = keeps_prefixes c.args.piece.now
