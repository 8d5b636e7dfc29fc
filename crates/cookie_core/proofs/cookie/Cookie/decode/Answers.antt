use Rattle.std.proofs.Common.{None, ap, subst, ◌∙◌, string_bytes}
use Rattle.std.proofs.lemmas.Result.{err_from_is_err_and}
use Rattle.std.specs.Str.{IsUtf8}
use Rattle.cookie_core.specs.DecodingCode.{IsRefusedFor}
use Rattle.cookie_core.specs.Escapes.{unescape}
use Rattle.cookie_core.specs.Record.{Record, RawForms}
use Rattle.cookie_core.proofs.DecodeLemmas.{Decodes-own, blamed-name, blamed-value}
use Rattle.cookie_core.proofs.cookie.Cookie.decode.Goals as goal

pub returns-in_err-name : goal.returns-in_err-name
returns-in_err-name c =
    let p = err_from_is_err_and c.from_residual.result c.from_residual.ensures.1 in
    let error = c.in_err-name.field-0.0 in
    rw (p.1, p.2) (
      c.requires,
      blamed-name c.args.self.fields.name c.args.self.fields.value error (subst (λ t. IsRefusedFor t error) c.name.ensures c.in_err-name.ensures.refused),
    )

pub returns-in_err-value : goal.returns-in_err-value
returns-in_err-value c =
    let p = err_from_is_err_and c.from_residual-in_err-value.result c.from_residual-in_err-value.ensures.1 in
    let error = c.in_err-value.field-0.0 in
    rw (p.1, p.2) (
      c.requires,
      blamed-value c.args.self.fields.name c.args.self.fields.value error (subst IsUtf8 (c.in_ok-name.ensures.bytes ∙ ap unescape c.name.ensures) c.in_ok-name.ensures.utf8) (subst (λ t. IsRefusedFor t error) c.value.ensures c.in_err-value.ensures.refused),
    )

pub returns : goal.returns
returns c =
    let fields = c.set_value_owned.ensures.fields ∙ ap (λ (f : Record). record f { value = string_bytes c.in_ok-value.value }) c.set_name_owned.ensures.fields in
    let raw = c.set_value_owned.ensures.raw ∙ ap (λ (f : RawForms). record f { value = None }) c.set_name_owned.ensures.raw in
    Decodes-own c.args.self c.set_value_owned.new.self (string_bytes c.in_ok-name.name) (string_bytes c.in_ok-value.value) c.requires (c.in_ok-name.ensures.bytes ∙ ap unescape c.name.ensures) (c.in_ok-value.ensures.bytes ∙ ap unescape c.value.ensures) c.in_ok-name.ensures.utf8 c.in_ok-value.ensures.utf8 fields raw
