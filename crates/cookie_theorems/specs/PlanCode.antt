-- Mirrors private code: whether a stored cookie is as its name's plan has it.
use Rattle.std.specs.Prelude.{◌&&◌, ◌||◌, not, Bool}
use Rattle.std.specs.Str.{bytes_eq}
use Rattle.cookie_browser.specs.Request.{RequestView}
use Rattle.cookie_browser.specs.Storage.{KeptView, both_or_neither}
use Rattle.cookie_theorems.specs.Agreement.{PlanView}

-- The cookie has the plan's scope. If it is secure-only, so is the plan, and if the plan is, the connection is secure.
abbrev pub fits_plan : PlanView → RequestView → KeptView → Bool
fits_plan plan site kept =
    bytes_eq kept.domain plan.scope.domain
    && (both_or_neither kept.is_host_only plan.scope.is_host_only
    && (bytes_eq kept.path plan.scope.path
    && ((not kept.is_secure_only || plan.is_secure) && (not plan.is_secure || site.is_secure))))
