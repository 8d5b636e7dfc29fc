-- A walk over cookies that meets each name once.
use Rattle.std.specs.Prelude.{◌≡◌, List, Option, map}
use Rattle.std.specs.List.{find, IsDistinct}
use Rattle.std.specs.Str.{bytes_eq}
use Rattle.cookie_core.specs.Record.{Record}
use Rattle.cookie.specs.Jar.{Name}

-- the cookies are those that stand at the names, each name once
pub record Walks (at : Name → Option Record) (cookies : List Record) : Type 0 where
  pub found : (name : Name) → find (λ c. bytes_eq name c.name) cookies ≡ at name
  pub once : IsDistinct bytes_eq (map (λ c. c.name) cookies)
