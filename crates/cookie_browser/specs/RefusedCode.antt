-- Mirrors private code: a request and a kept cookie with copies of their texts.
use Rattle.std.specs.Prelude.{None, pos}
use Rattle.cookie_browser.specs.Request.{RequestView}
use Rattle.cookie_browser.specs.Storage.{KeptView}
use Rattle.cookie_browser.specs.declared.request.BrowserRequest.{BrowserRequest}
use Rattle.cookie_browser.specs.declared.kept_cookie.KeptCookie.{KeptCookie}

abbrev pub request_view : BrowserRequest → RequestView
request_view request =
    record {
      host = request.host.now;
      is_address = request.is_address;
      path = request.path.now;
      is_secure = request.is_secure;
      is_same_site = request.is_same_site;
      is_top_level = request.is_top_level;
      is_safe = request.is_safe;
    }

-- a refusal depends neither on the expiry nor on the last access
abbrev pub kept_view : KeptCookie → KeptView
kept_view cookie =
    record {
      name = cookie.name.now;
      value = cookie.value.now;
      domain = cookie.domain.now;
      is_host_only = cookie.is_host_only;
      path = cookie.path.now;
      is_secure_only = cookie.is_secure_only;
      is_http_only = cookie.is_http_only;
      same_site = cookie.same_site;
      expiry = None;
      last_access = pos 0;
    }
