use Rattle.std.proofs.Common.{◌≡◌, rules, true, false, sym, subst}
use Rattle.http_header.specs.FieldValue.{IsFieldValue}
use Rattle.cookie.specs.Text.{cookie_text}
use Rattle.cookie_http.proofs.FieldTextLemmas.{IsFieldValue-cookie_text, IsUtf8-cookie_text}
use Rattle.cookie_http.proofs.response.append_cookie.Goals as goal

pub returns-in_err-text-clause-text : goal.returns-in_err-text-clause-text
returns-in_err-text-clause-text c = IsUtf8-cookie_text c.args.cookie.now.fields c.name_value.ensures.cookie

pub returns-in_err-from_string-clause-text : goal.returns-in_err-from_string-clause-text
returns-in_err-from_string-clause-text c = IsUtf8-cookie_text c.args.cookie.now.fields c.name_value.ensures.cookie

pub from_known_valid-value-requires : goal.from_known_valid-value-requires
from_known_valid-value-requires c =
    let cookie = c.args.cookie.now.fields in
    let is : c.in_ok-from_string.field-0 ≡ cookie_text true false cookie = search rules in
    subst IsFieldValue (sym is) (IsFieldValue-cookie_text cookie c.name_value.ensures.cookie c.requires.fits)

pub returns-in_err-append-clause-text : goal.returns-in_err-append-clause-text
returns-in_err-append-clause-text c = IsUtf8-cookie_text c.args.cookie.now.fields c.name_value.ensures.cookie

pub returns-clause-text : goal.returns-clause-text
returns-clause-text c = IsUtf8-cookie_text c.args.cookie.now.fields c.name_value.ensures.cookie
