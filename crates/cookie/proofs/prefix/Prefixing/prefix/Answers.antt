use Rattle.std.proofs.Common.{◌++◌, ◌==◌, length, ap, sym, ◌∙◌}
use Rattle.std.specs.String.{string_bytes}
use Rattle.cookie_core.specs.Record.{CookieView}
use Rattle.cookie.specs.Prefixes.{clipped_cookie}
use Rattle.cookie.proofs.PrefixLemmas.{clipped_cookie-prefixed, clipped_cookie-empty, renamed_raw-empty, renamed_raw-prefixed}
use Rattle.cookie.proofs.prefix.Prefixing.prefix.Goals.{then-not-is_empty+in_ok-name, else-not-is_empty}
use Rattle.cookie.proofs.prefix.Prefixing.prefix.Goals as goal

pub returns-clause-raw : goal.returns-clause-raw
returns-clause-raw g c =
    let text = c.as_str.ensures ∙ c.PREFIX.ensures in
    let cookie = c.args.cookie in
    elim c.if-not-is_empty.branch [
      | then-not-is_empty+in_ok-name w ↦
          ap (λ (v : CookieView). v.raw) w.cookie-is ∙ w.set_name_owned.ensures.raw
          ∙ sym (renamed_raw-prefixed g.Self.Prefix.PREFIX cookie (ap (λ t. length t == 0) (sym text) ∙ sym w.if-not-is_empty.ensures))
      | else-not-is_empty w ↦
          ap (λ (v : CookieView). v.raw) w.cookie-is
          ∙ sym (renamed_raw-empty g.Self.Prefix.PREFIX cookie (ap (λ t. length t == 0) (sym text) ∙ sym w.if-not-is_empty.ensures))
    ]

pub returns-clause-back : goal.returns-clause-back
returns-clause-back g c =
    let text = c.as_str.ensures ∙ c.PREFIX.ensures in
    let prefix = g.Self.Prefix.PREFIX in
    let cookie = c.args.cookie in
    elim c.if-not-is_empty.branch [
      | then-not-is_empty+in_ok-name w ↦
          ap (λ (v : CookieView). clipped_cookie prefix v.fields) w.cookie-is
          ∙ ap (clipped_cookie prefix) {y = record cookie.fields { name = string_bytes w.in_ok-name.name }} w.set_name_owned.ensures.fields
          ∙ ap (λ n. clipped_cookie prefix (record cookie.fields { name = n })) (w.in_ok-name.ensures ∙ ap (λ n. prefix ++ n) w.name.ensures)
          ∙ clipped_cookie-prefixed prefix cookie.fields
      | else-not-is_empty w ↦
          ap (λ (v : CookieView). clipped_cookie prefix v.fields) w.cookie-is
          ∙ clipped_cookie-empty prefix cookie.fields (ap (λ t. length t == 0) (sym text) ∙ sym w.if-not-is_empty.ensures)
    ]
