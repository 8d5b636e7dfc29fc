-- A cookie is sent exactly if no obstacle keeps it.
use Rattle.std.proofs.Common.{◌≡◌, not, ◌&&◌, ◌||◌, Bool, true, false, refl}
use Rattle.cookie_browser.specs.Storage.{allows, lasts}
use Rattle.cookie_browser.specs.Request.{is_under_path}
use Rattle.cookie_agent.specs.Obstacles.{IsExhaustive, has_host}

-- all conditions hold exactly if none fails
all_or_one : (lasts host path secure only allowed : Bool) → (lasts && ((host && path) && ((secure || not only) && allowed))) ≡ not (not lasts || (not host || (not path || ((only && not secure) || (not allowed || false)))))
all_or_one false host path secure only allowed = refl
all_or_one true false path secure only allowed = refl
all_or_one true true false secure only allowed = refl
all_or_one true true true true false false = refl
all_or_one true true true true false true = refl
all_or_one true true true true true false = refl
all_or_one true true true true true true = refl
all_or_one true true true false false false = refl
all_or_one true true true false false true = refl
all_or_one true true true false true allowed = refl

pub exhaustive : IsExhaustive
exhaustive request now cookie =
    all_or_one (lasts cookie.expiry now) (has_host request cookie) (is_under_path request.path cookie.path) request.is_secure cookie.is_secure_only (allows request cookie.same_site)
