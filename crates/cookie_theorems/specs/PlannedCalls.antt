-- Which calls on a jar a user agent at a site can follow.
use Rattle.std.specs.Prelude.{◌≡◌, ◌≢◌, [], true, false, List}
use Rattle.jiff.specs.Types.{DateTime}
use Rattle.cookie.specs.Jar.{Name, Change, AddOriginal, Add, Remove, ForceRemove, ResetDelta}
use Rattle.cookie.specs.Record.{Record}
use Rattle.cookie.specs.Removal.{removal}
use Rattle.cookie_browser.specs.Request.{RequestView}
use Rattle.cookie_browser.specs.Storage.{is_sent, lasts}
use Rattle.cookie_browser.specs.Suffixes.{Rule}
use Rattle.cookie_client.specs.Calls.{change_of}
use Rattle.cookie_client.specs.declared.call.JarCall.{JarCall}
use Rattle.cookie_theorems.specs.Agreement.{IsPlanned, PlanView}

-- an addition: of a cookie with a name, as its name's plan has it, which is sent at once
pub record IsPlannedAddition (rules : List Rule) (site : RequestView) (now : DateTime)
    (plans : Name → PlanView) (cookie : Record)
    : Type 0 where
  pub name : cookie.name ≢ []
  pub planned : IsPlanned rules site now plans cookie
  pub sent : is_sent site now planned.kept ≡ true

-- a removal: the cookie that asks the browser to drop it has a name, is as its name's plan has it, and is expired
pub record IsPlannedRemoval (rules : List Rule) (site : RequestView) (now : DateTime)
    (plans : Name → PlanView) (cookie : Record)
    : Type 0 where
  pub name : cookie.name ≢ []
  pub planned : IsPlanned rules site now plans cookie
  pub expired : lasts planned.kept.expiry now ≡ false

-- an addition, a removal or a reset: the agent knows nothing of originals, and isn't told of a forced removal
abbrev pub IsPlannedChange : List Rule → RequestView → DateTime → (Name → PlanView) → Change
    → Type 0
IsPlannedChange rules site now plans (AddOriginal cookie) = ⊥
IsPlannedChange rules site now plans (Add cookie) = IsPlannedAddition rules site now plans cookie
IsPlannedChange rules site now plans (Remove cookie moment) =
    IsPlannedRemoval rules site now plans (removal moment cookie)
IsPlannedChange rules site now plans (ForceRemove name) = ⊥
IsPlannedChange rules site now plans ResetDelta = Unit {0}

-- The change that a call makes is as planned. Its cookie is looked at as the jar stores it.
abbrev pub IsPlannedCall : List Rule → RequestView → DateTime → (Name → PlanView) → JarCall
    → Type 0
IsPlannedCall rules site now plans call = IsPlannedChange rules site now plans (change_of call)
