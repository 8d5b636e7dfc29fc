-- The paths and domains that a `Set-Cookie` header can hold: no control character, and no `;` (RFC 6265 4.1.1).
use Rattle.std.specs.Prelude.{◌≡◌, ◌==◌, ◌&&◌, not, nat_le, ℕ, Bool, List, All, Some, IfSome, IsTrue}
use Rattle.std.specs.FinMap.{FinMap, get}
use Rattle.cookie_core.specs.Record.{Record}
use Rattle.cookie_core.specs.Separators.{semicolon}
use Rattle.cookie.specs.Jar.{Name, name_cmp, Marked}

-- a byte of path-value or domain-value: no control character, such as a tab or a line break, and no `;`
abbrev pub is_attribute_byte : ℕ → Bool
is_attribute_byte b = nat_le 32 b && not (b == 127) && not (b == semicolon)

-- the text can be the value of a path or a domain: it ends neither the header nor the attribute
abbrev pub IsAttributeValue : List ℕ → Type 0
IsAttributeValue text = All (λ b. IsTrue (is_attribute_byte b)) text

-- the cookie's path and domain, if it has them, can be such values
pub record FitsField (cookie : Record) : Type 0 where
  pub path : IfSome cookie.path IsAttributeValue
  pub domain : IfSome cookie.domain IsAttributeValue

-- each cookie of the delta does
abbrev pub AllFitFields : FinMap name_cmp Marked → Type 0
AllFitFields delta =
    (name : Name) (entry : Marked) → get delta name ≡ Some entry → FitsField entry.cookie
