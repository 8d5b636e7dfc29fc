use Rattle.std.proofs.Common.{◌≡◌, true, false, List, ℕ, IsUtf8, Result, Ok, IfOk, IfErr, refl, rules, sym, ap, subst, ◌∙◌, string_bytes}
use Rattle.std.specs.Arc.{arc_value}
use Rattle.cookie_core.specs.Decoding.{NamesFault, ReadsInMemory, are_decoded}
use Rattle.cookie_core.specs.DecodingCode.{Decodes}
use Rattle.cookie_core.specs.Reads.{Reads, record_or_refusal}
use Rattle.cookie_core.specs.Record.{CookieView, Record, no_raw_forms, plain}
use Rattle.cookie_core.specs.Spans.{span_text}
use Rattle.cookie_core.specs.declared.parse_error.ParseError.{ParseError}
use Rattle.cookie_core.proofs.DecodeLemmas.{Decodes-same, HasPair-record, ReadsInMemory-outcome}
use Rattle.cookie_core.proofs.cookie.Cookie.read_shared_pair.Goals as goal

-- what a text is read as whose name and value are decoded
decoded : (text name value : List ℕ) (outcome : Result CookieView ParseError) → Reads false text (Ok (plain name value))
    → Decodes (record { fields = plain name value; raw = no_raw_forms }) outcome
    → ReadsInMemory true text (record_or_refusal outcome) × IfErr outcome (NamesFault text)
decoded text name value outcome reads is =
    let cookie : CookieView = record { fields = plain name value; raw = no_raw_forms } in
    let both = ReadsInMemory-outcome text (Ok cookie) outcome reads is in
    (both.0, both.1)

pub returns-in-Some-clause-reads : goal.returns-in-Some-clause-reads
returns-in-Some-clause-reads c =
    let text = c.range-text.result.now in
    let same : text ≡ span_text (string_bytes (arc_value c.args.whole.now)) c.args.piece = search rules in
    let name : c.in-Some.name.text.now ≡ span_text text c.in-Ok.spans.0 = search rules in
    let value : c.in-Some.value.text.now ≡ span_text text c.in-Ok.spans.1 = search rules in
    let is = rw (name, value) at c.decode_pair.ensures in
    subst (λ t. ReadsInMemory true t (record_or_refusal c.decode_pair.result)) same
    (decoded text (span_text text c.in-Ok.spans.0) (span_text text c.in-Ok.spans.1) c.decode_pair.result c.in-Ok.ensures.reads is).0

pub returns-in-Some-clause-fault : goal.returns-in-Some-clause-fault
returns-in-Some-clause-fault c =
    let text = c.range-text.result.now in
    let same : text ≡ span_text (string_bytes (arc_value c.args.whole.now)) c.args.piece = search rules in
    let name : c.in-Some.name.text.now ≡ span_text text c.in-Ok.spans.0 = search rules in
    let value : c.in-Some.value.text.now ≡ span_text text c.in-Ok.spans.1 = search rules in
    let is = rw (name, value) at c.decode_pair.ensures in
    subst (λ t. IfErr c.decode_pair.result (NamesFault t)) same
    (decoded text (span_text text c.in-Ok.spans.0) (span_text text c.in-Ok.spans.1) c.decode_pair.result c.in-Ok.ensures.reads is).1

pub returns-in-Ok-shared-clause-reads : goal.returns-in-Ok-shared-clause-reads
returns-in-Ok-shared-clause-reads c =
    let text = c.range-text.result.now in
    let whole : List ℕ = span_text (string_bytes (arc_value c.args.whole.now)) c.args.piece in
    let same : text ≡ whole = search rules in
    let cookie = c.at_spans.result in
    let name = c.in-Ok.spans.0 in
    let value = c.in-Ok.spans.1 in
    let fields : plain (span_text whole name) (span_text whole value) ≡ cookie.fields =
    ap (λ (t : List ℕ). plain (span_text t name) (span_text t value)) (sym c.in-Ok-shared.ensures.bytes) ∙ sym (ap (λ (view : CookieView). view.fields) c.at_spans.ensures) in
    let reads : Reads false whole (Ok (plain (span_text whole name) (span_text whole value))) =
    subst (λ (t : List ℕ). Reads false t (Ok (plain (span_text t name) (span_text t value)))) same c.in-Ok.ensures.reads in
    let none : are_decoded (plain (span_text whole name) (span_text whole value)) ≡ false =
    subst (λ (t : List ℕ). are_decoded (plain (span_text t name) (span_text t value)) ≡ false) same (sym c.in_default.ensures.escape) in
    let utf8 = subst (λ (t : List ℕ). IsUtf8 (span_text t name) × IsUtf8 (span_text t value)) same c.escaped_pair.ensures.texts in
    let unchanged = Decodes-same cookie (subst (λ (r : Record). are_decoded r ≡ false) fields none) (subst (λ (r : Record). IsUtf8 r.name × IsUtf8 r.value) fields utf8) in
    (ReadsInMemory-outcome whole (Ok cookie) (Ok cookie) (subst (λ (r : Record). Reads false whole (Ok r)) fields reads) unchanged).0

pub returns-in-Err-shared-clause-reads : goal.returns-in-Err-shared-clause-reads
returns-in-Err-shared-clause-reads c =
    let text = c.range-text.result.now in
    let whole : List ℕ = span_text (string_bytes (arc_value c.args.whole.now)) c.args.piece in
    let same : text ≡ whole = search rules in
    let reads = subst (λ (t : List ℕ). Reads false t (Ok (plain (span_text t c.in-Ok.spans.0) (span_text t c.in-Ok.spans.1)))) same c.in-Ok.ensures.reads in
    HasPair-record false whole (plain (span_text whole c.in-Ok.spans.0) (span_text whole c.in-Ok.spans.1)) reads
