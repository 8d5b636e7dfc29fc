-- The values of the attribute `SameSite` (RFC 6265bis 4.1.2.7).
use Rattle.std.specs.Prelude.{ℕ, List, codes}
use Rattle.cookie_core.specs.declared.same_site.SameSite.{SameSite}
use Rattle.cookie_core.specs.declared.same_site.SameSite.TheVariants as same_site

-- the value as it is printed
abbrev pub same_site_text : SameSite → List ℕ
same_site_text same_site.Strict = codes "Strict"
same_site_text same_site.Lax = codes "Lax"
same_site_text same_site.None = codes "None"
