-- The site of a request.
use Rattle.std.specs.Prelude.{ℕ, true, Bool, List, ◌∷◌, codes, eqb, if◌then◌else◌}
use Rattle.std.specs.List.{starts_with}
use Rattle.std.specs.Str.{str_to_ascii_lowercase}
use Rattle.cookie_browser.specs.Request.{RequestView}

-- the path of a request: one that doesn't begin with `/` gets one, so an empty one is `/` (RFC 9112 3.2.1)
abbrev pub request_path : List ℕ → List ℕ
request_path path = if starts_with eqb path (codes "/") then path else 47 ∷ path

-- a same-site top-level navigation with a safe method to a host, in lower case, and a path
abbrev pub site_of : List ℕ → Bool → List ℕ → Bool → RequestView
site_of host is_address path is_secure =
    record {
      host = str_to_ascii_lowercase host;
      is_address = is_address;
      path = request_path path;
      is_secure = is_secure;
      is_same_site = true;
      is_top_level = true;
      is_safe = true;
    }
