use Rattle.std.proofs.Common.{None, ap, subst, ◌∙◌, string_bytes}
use Rattle.std.proofs.lemmas.Result.{err_from_is_err_and}
use Rattle.std.specs.Str.{IsUtf8}
use Rattle.cookie_core.specs.DecodingCode.{IsRefusedFor}
use Rattle.cookie_core.specs.Escapes.{unescape}
use Rattle.cookie_core.specs.Record.{CookieView, no_raw_forms, plain}
use Rattle.cookie_core.proofs.DecodeLemmas.{Decodes-own, blamed-name, blamed-value}
use Rattle.cookie_core.proofs.cookie.Cookie.decode_apart.Goals as goal

pub returns-in_err-name : goal.returns-in_err-name
returns-in_err-name c =
    let p = err_from_is_err_and c.from_residual.result c.from_residual.ensures.1 in
    let error = c.in_err-name.field-0.0 in
    rw (p.1, p.2) (
      c.requires,
      blamed-name c.args.name.now c.args.value.now error c.in_err-name.ensures.refused,
    )

pub returns-in_err-value : goal.returns-in_err-value
returns-in_err-value c =
    let p = err_from_is_err_and c.from_residual-in_err-value.result c.from_residual-in_err-value.ensures.1 in
    let error = c.in_err-value.field-0.0 in
    rw (p.1, p.2) (
      c.requires,
      blamed-value c.args.name.now c.args.value.now error (subst IsUtf8 c.in_ok-name.ensures.bytes c.in_ok-name.ensures.utf8) c.in_err-value.ensures.refused,
    )

pub returns : goal.returns
returns c =
    let cookie : CookieView = record { fields = plain c.args.name.now c.args.value.now; raw = no_raw_forms } in
    let made = c.new_owned.ensures in
    Decodes-own cookie c.new_owned.result (string_bytes c.in_ok-name.name) (string_bytes c.in_ok-value.value) c.requires c.in_ok-name.ensures.bytes c.in_ok-value.ensures.bytes c.in_ok-name.ensures.utf8 c.in_ok-value.ensures.utf8
    (ap (λ (view : CookieView). view.fields) made) (ap (λ (view : CookieView). view.raw) made)
