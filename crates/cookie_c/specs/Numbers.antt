-- A cookie's attributes as numbers (RFC 6265 5.2.1 to 5.2.6).
use Rattle.std.specs.Prelude.{ℕ, ℤ, pos, int_div, Bool, true, false, Option, Some, None, is_some, if◌then◌else◌}
use Rattle.std.specs.Option.{option_and_then}
use Rattle.cookie.specs.Expiration.{datetime_of}
use Rattle.cookie.specs.Record.{Record}
use Rattle.cookie.specs.declared.SameSite.{SameSite}
use Rattle.cookie.specs.declared.SameSite.TheVariants as rule
use Rattle.cookie_c.specs.Dates.{moment_or_refusal, refused_moment}
use Rattle.cookie_c.specs.declared.attributes.Attributes.{Attributes}
use Rattle.cookie_c.specs.declared.status.Status.TheVariants as status

-- the number of a flag
abbrev pub flag_code : Option Bool → ℕ
flag_code None = 0
flag_code (Some true) = 1
flag_code (Some false) = 2

-- the number of a rule for requests from other sites
abbrev pub same_site_code : Option SameSite → ℕ
same_site_code None = 0
same_site_code (Some rule.Strict) = 1
same_site_code (Some rule.Lax) = 2
same_site_code (Some rule.None) = 3

-- whether something is set, as a number
abbrev pub presence : {X : Type 0} → Option X → ℕ
presence o = if is_some o then 1 else 0

-- an age in whole seconds, cut toward zero
abbrev pub whole_seconds : Option ℤ → ℤ
whole_seconds None = pos 0
whole_seconds (Some n) = int_div n (pos 1000000000)

-- the numbers of a record's attributes
abbrev pub numbers_of : Record → Attributes
numbers_of r =
    record {
      http_only = flag_code r.http_only;
      secure = flag_code r.secure;
      partitioned = flag_code r.partitioned;
      same_site = same_site_code r.same_site;
      has_path = presence r.path;
      has_domain = presence r.domain;
      has_max_age = presence r.max_age;
      has_expires = presence r.expires;
      max_age = whole_seconds r.max_age;
      expires = moment_or_refusal (option_and_then datetime_of r.expires);
    }

-- none is set
abbrev pub no_numbers : Attributes
no_numbers =
    record {
      http_only = 0;
      secure = 0;
      partitioned = 0;
      same_site = 0;
      has_path = 0;
      has_domain = 0;
      has_max_age = 0;
      has_expires = 0;
      max_age = pos 0;
      expires = refused_moment status.NoDate;
    }
