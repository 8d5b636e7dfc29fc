-- Dates for C, as numbers.
use Rattle.std.specs.Prelude.{ℕ, pos, List, Option, Some, None, if◌then◌else◌}
use Rattle.std.specs.Str.{is_utf8}
use Rattle.jiff.specs.Types.{DateTime}
use Rattle.cookie.specs.Moments.{date_of}
use Rattle.cookie_c.specs.Codes.{code_of}
use Rattle.cookie_c.specs.declared.date.Moment.{Moment}
use Rattle.cookie_c.specs.declared.status.Status.{Status}
use Rattle.cookie_c.specs.declared.status.Status.TheVariants as status

-- the answer of a call that has no date
abbrev pub refused_moment : Status → Moment
refused_moment why =
    record {
      status = code_of why;
      year = pos 0;
      month = pos 0;
      day = pos 0;
      hour = pos 0;
      minute = pos 0;
      second = pos 0;
    }

-- the numbers of a date and time, without the fraction of a second
abbrev pub told_moment : DateTime → Moment
told_moment moment =
    record {
      status = code_of status.Done;
      year = moment.date.year;
      month = pos moment.date.month;
      day = pos moment.date.day;
      hour = pos moment.time.hour;
      minute = pos moment.time.minute;
      second = pos moment.time.second;
    }

-- the answer to a text with this date; or to one that is no date
abbrev pub moment_or_refusal : Option DateTime → Moment
moment_or_refusal None = refused_moment status.NoDate
moment_or_refusal (Some moment) = told_moment moment

-- what a text is read as
abbrev pub moment_in : List ℕ → Moment
moment_in text =
    if is_utf8 text then moment_or_refusal (date_of text) else refused_moment status.NotUtf8
