-- A cookie whose parts C passes in (RFC 6265 5.2.1 to 5.2.6): what its numbers say, the other way round from
-- `Numbers`.
use Rattle.std.specs.Prelude.{◌≡◌, ◌≤◌, ◌==◌, ◌⊎◌, ℕ, pos, Bool, List, Option, Some, None, IsUtf8, if◌then◌else◌}
use Rattle.jiff.specs.Types.{DateTime}
use Rattle.jiff.specs.Words.{IsDate, IsTime, IsYmd, IsHms, nanos_of_seconds}
use Rattle.cookie.specs.Record.{Record, without_leading_dot}
use Rattle.cookie.specs.Types.{AtDateTime}
use Rattle.cookie.specs.declared.SameSite.{SameSite}
use Rattle.cookie.specs.declared.SameSite.TheVariants as rule
use Rattle.cookie_c.specs.declared.attributes.Attributes.{Attributes}
use Rattle.cookie_c.specs.declared.date.Moment.{Moment}
use Rattle.cookie_c.specs.declared.status.Status.{Status}
use Rattle.cookie_c.specs.declared.status.Status.TheVariants as status

-- each number, but for the age and the expiry, is one that `numbers_of` has
pub record AreCodes (numbers : Attributes) : Type 0 where
  pub http_only : numbers.http_only ≤ 2
  pub secure : numbers.secure ≤ 2
  pub partitioned : numbers.partitioned ≤ 2
  pub same_site : numbers.same_site ≤ 3
  pub has_path : numbers.has_path ≤ 1
  pub has_domain : numbers.has_domain ≤ 1
  pub has_max_age : numbers.has_max_age ≤ 1
  pub has_expires : numbers.has_expires ≤ 1

-- there is a date and time with these numbers
abbrev pub IsMoment : Moment → Type 0
IsMoment numbers =
    IsDate numbers.year numbers.month numbers.day
    × IsTime numbers.hour numbers.minute numbers.second (pos 0)

-- the date and time has these numbers
abbrev pub IsMomentOf : Moment → DateTime → Type 0
IsMomentOf numbers moment =
    IsYmd numbers.year numbers.month numbers.day moment.date
    × IsHms numbers.hour numbers.minute numbers.second (pos 0) moment.time

-- the expiry, where there is one, is a date and time
abbrev pub HasDate : Attributes → Type 0
HasDate numbers = numbers.has_expires ≡ 1 → IsMoment numbers.expires

-- the expiry, where there is one, is this date and time
abbrev pub ExpiresAt : Attributes → DateTime → Type 0
ExpiresAt numbers moment = numbers.has_expires ≡ 1 → IsMomentOf numbers.expires moment

-- name and value are UTF-8, and so are path and domain where there is one
abbrev pub AreTexts : List ℕ → List ℕ → List ℕ → List ℕ → Attributes → Type 0
AreTexts name value path domain numbers =
    IsUtf8 name × IsUtf8 value
    × (numbers.has_path ≡ 1 → IsUtf8 path) × (numbers.has_domain ≡ 1 → IsUtf8 domain)

-- the flag that has this number
abbrev pub flag_of : ℕ → Option Bool
flag_of number = if number == 0 then None else Some (number == 1)

-- the rule for requests from other sites that has this number
abbrev pub same_site_of : ℕ → Option SameSite
same_site_of number =
    if number == 1 then Some rule.Strict
    else if number == 2 then Some rule.Lax
    else if number == 3 then Some rule.None
    else None

-- something, where the number says that it is set
abbrev pub option_of : {X : Type 0} → ℕ → X → Option X
option_of number x = if number == 1 then Some x else None

-- the record of these texts and numbers, with its expiry, if it has one, at this date and time
abbrev pub record_of_parts : List ℕ → List ℕ → List ℕ → List ℕ → Attributes → DateTime → Record
record_of_parts name value path domain numbers moment =
    record {
      name = name;
      value = value;
      http_only = flag_of numbers.http_only;
      secure = flag_of numbers.secure;
      partitioned = flag_of numbers.partitioned;
      same_site = same_site_of numbers.same_site;
      path = option_of numbers.has_path path;
      domain = option_of numbers.has_domain (without_leading_dot domain);
      max_age = option_of numbers.has_max_age (nanos_of_seconds numbers.max_age);
      expires = option_of numbers.has_expires (AtDateTime moment);
    }

-- why these parts are refused, if they aren't a cookie's: the numbers come first, then the date, and then the texts
abbrev pub IsUnprintable : List ℕ → List ℕ → List ℕ → List ℕ → Attributes → Status → Type 0
IsUnprintable name value path domain numbers why =
    ((why ≡ status.BadAttribute) × ¬ AreCodes numbers)
    ⊎ (((why ≡ status.NoDate) × AreCodes numbers × ¬ HasDate numbers)
    ⊎ ((why ≡ status.NotUtf8) × AreCodes numbers × HasDate numbers
    × ¬ AreTexts name value path domain numbers))
