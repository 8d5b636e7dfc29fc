use Rattle.std.proofs.Common.{◌≡◌, rules, refl, ap, subst, ◌∙◌, length, slice_range, string_bytes, arith}
use Rattle.std.proofs.lemmas.Str.{IsUtf8-string_bytes, IsCharBoundary-start}
use Rattle.cookie_core.specs.DecodingCode.{IsJoined}
use Rattle.cookie_core.specs.Escapes.{unescape}
use Rattle.cookie_core.specs.Record.{CookieView, no_raw_forms, plain}
use Rattle.cookie_core.proofs.DecodeLemmas.{Decodes-own, joined-texts}
use Rattle.cookie_core.proofs.cookie.Cookie.decode_pair.Goals as goal

pub at_spans-requires-clause-name : goal.at_spans-requires-clause-name
at_spans-requires-clause-name c =
    let joined : IsJoined c.args.name.text.now c.args.value.text.now (string_bytes c.in-Some.text) c.in-Some.middle = search rules in
    (omega arith, IsCharBoundary-start (string_bytes c.in-Some.text) (IsUtf8-string_bytes c.in-Some.text), joined.apart)

pub at_spans-requires-clause-text : goal.at_spans-requires-clause-text
at_spans-requires-clause-text c = IsUtf8-string_bytes c.in-Some.text

pub returns : goal.returns
returns c =
    let name = c.args.name.text.now in
    let value = c.args.value.text.now in
    let text = string_bytes c.in-Some.text in
    let middle = c.in-Some.middle in
    let cookie : CookieView = record { fields = plain name value; raw = no_raw_forms } in
    let joined : IsJoined name value text middle = search rules in
    let (first, last, name_utf8, value_utf8) = joined-texts name value text middle joined (IsUtf8-string_bytes c.in-Some.text) in
    let end : length text ≡ c.len.result = search rules in
    let rest : slice_range text middle c.len.result ≡ unescape value = subst (λ k. slice_range text middle k ≡ unescape value) end last in
    let made = c.at_spans.ensures in
    Decodes-own cookie c.at_spans.result (unescape name) (unescape value) c.requires refl refl name_utf8 value_utf8
    (ap (λ (view : CookieView). view.fields) made ∙ rw (first, rest) refl) (ap (λ (view : CookieView). view.raw) made)
