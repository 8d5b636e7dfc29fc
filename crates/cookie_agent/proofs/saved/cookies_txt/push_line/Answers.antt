use Rattle.std.proofs.Common.{cond, not, decimal, []}
use Rattle.cookie_agent.specs.CookiesTxt.{domain_field, flag_text, http_only_mark}
use Rattle.cookie_browser.specs.RefusedCode.{kept_view}
use Rattle.cookie_agent.proofs.CookiesTxtLemmas.{line_parts}
use Rattle.cookie_agent.proofs.saved.cookies_txt.push_line.Goals as goal

pub returns : goal.returns
returns c =
    let cookie = kept_view c.args.cookie.now in
    rw (c.in_ok-extend_from_slice-2.ensures.items, c.in_ok-extend_from_slice.ensures.items, c.in_ok-push_field-4.ensures, c.in_ok-push_field-3.ensures, c.in_ok-push_field-2.ensures, c.in_ok-push_field.ensures, c.in_ok-push_domain.ensures, c.as_bytes.ensures.value, c.format.ensures.text, c.flag_text.ensures)
    (line_parts c.args.text.now.items (cond cookie.is_http_only http_only_mark []) (domain_field cookie) (flag_text (not cookie.is_host_only)) cookie.path (flag_text cookie.is_secure_only) (decimal c.args.seconds) cookie.name cookie.value)
