-- A request: where it goes, how it came about (RFC 6265bis, "Same-site" and "cross-site" Requests), and which domains and
-- paths it is in.
use Rattle.std.specs.Prelude.{ℕ, ◌==◌, ◌-◌, ◌&&◌, ◌||◌, not, Bool, List, [], ◌∷◌, codes, eqb, drop, take, length, if◌then◌else◌}
use Rattle.std.specs.List.{starts_with, ends_with, before_last}
use Rattle.std.specs.Str.{bytes_eq}

-- the canonicalized host (Canonicalized Host Names), whether it is an IP address, the path, whether the connection is
-- secure; and whether the request is same-site, is a top-level navigation, and has a safe method
pub record RequestView : Type 0 where
  pub host : List ℕ
  pub is_address : Bool
  pub path : List ℕ
  pub is_secure : Bool
  pub is_same_site : Bool
  pub is_top_level : Bool
  pub is_safe : Bool

-- the host is the domain; or it is no address, and ends in a dot and the domain (Domain Matching)
abbrev pub is_in_domain : List ℕ → Bool → List ℕ → Bool
is_in_domain host is_address domain =
    bytes_eq host domain
    || (not is_address
    && (ends_with eqb host domain
    && ends_with eqb (take (length host - length domain) host) (codes ".")))

-- the path, or `/` if it is empty
abbrev pub or_root : List ℕ → List ℕ
or_root [] = codes "/"
or_root (byte ∷ bytes) = byte ∷ bytes

-- the path up to its last `/`, without it, or `/` (Paths and Path-Match, default-path)
abbrev pub folder_of : List ℕ → List ℕ
folder_of path =
    if starts_with eqb path (codes "/")
    then or_root (before_last (λ byte. byte == 47) path) else codes "/"

-- the request's path is the cookie's, or is below it (Paths and Path-Match)
abbrev pub is_under_path : List ℕ → List ℕ → Bool
is_under_path request cookie =
    bytes_eq request cookie
    || (starts_with eqb request cookie
    && (ends_with eqb cookie (codes "/")
    || starts_with eqb (drop (length cookie) request) (codes "/")))
