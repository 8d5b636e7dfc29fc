-- Mirrors private code: what the texts of a cookie are, in the source that it was read from.
use Rattle.std.specs.Prelude.{◌≡◌, ℕ, List, Option, Some, None, [], string_bytes, option_map, option_and_then, IfSome, IsUtf8}
use Rattle.cookie_core.specs.Record.{Record, RawForms, all_lent, no_raw_forms}
use Rattle.cookie_core.specs.Spans.{StandsIn, span_text}
use Rattle.cookie_core.specs.declared.source.Source.{Source}
use Rattle.cookie_core.specs.declared.cookie_str.CookieStr.{CookieStr}
use Rattle.cookie_core.specs.declared.source.Source.TheVariants as source
use Rattle.cookie_core.specs.declared.cookie_str.CookieStr.TheVariants as text

-- the bytes of a source, none where there is none
abbrev pub source_bytes : Source → List ℕ
source_bytes source.None = []
source_bytes (source.Borrowed whole) = whole.now
source_bytes (source.Owned whole) = string_bytes whole
source_bytes (source.Shared part) = part

-- the bytes of a text in a source of these bytes
abbrev pub text_bytes : List ℕ → CookieStr → List ℕ
text_bytes whole (text.Span span) = span_text whole span
text_bytes whole (text.Borrowed own) = own.now
text_bytes whole (text.Owned own) = string_bytes own

-- the bytes of a text that is a span of a borrowed source
abbrev pub raw_bytes : Source → CookieStr → Option (List ℕ)
raw_bytes (source.Borrowed whole) (text.Span span) = Some (span_text whole.now span)
raw_bytes _ _ = None

-- a span stands in the source, and a borrowed text is UTF-8
abbrev pub Fits : List ℕ → CookieStr → Type 0
Fits whole (text.Span span) = StandsIn whole span
Fits whole (text.Borrowed own) = IsUtf8 own.now
Fits whole (text.Owned own) = Unit {0}

-- no text is a raw form of this source
abbrev pub IsNotLent : Source → Type 0
IsNotLent lender = (part : CookieStr) → raw_bytes lender part ≡ None

-- both sources have the same bytes, and lend the same parts
pub record IsSameSource (old new : Source) : Type 0 where
  pub bytes : source_bytes new ≡ source_bytes old
  pub lent : (part : CookieStr) → raw_bytes new part ≡ raw_bytes old part

-- both texts have the same bytes in each source, fit the same sources, and borrow the same parts
pub record IsSameText (old new : CookieStr) : Type 0 where
  pub bytes : (whole : List ℕ) → text_bytes whole new ≡ text_bytes whole old
  pub fits : (whole : List ℕ) → Fits whole old → Fits whole new
  pub lent : (lender : Source) → raw_bytes lender new ≡ raw_bytes lender old

-- `IsSameText` for texts that may be unset
pub record IsSameOptionalText (old new : Option CookieStr) : Type 0 where
  pub bytes : (whole : List ℕ)
      → option_map (text_bytes whole) new ≡ option_map (text_bytes whole) old
  pub fits : (whole : List ℕ) → IfSome old (Fits whole) → IfSome new (Fits whole)
  pub lent : (lender : Source)
      → option_and_then (raw_bytes lender) new ≡ option_and_then (raw_bytes lender) old

-- the text, if it is set, has the same bytes in either source, and fits the new one if it fits the old one
pub record IsSameIn (old new : Source) (part : Option CookieStr) : Type 0 where
  pub bytes : option_map (text_bytes (source_bytes new)) part
      ≡ option_map (text_bytes (source_bytes old)) part
  pub fits : IfSome part (Fits (source_bytes old)) → IfSome part (Fits (source_bytes new))

-- the raw forms of a cookie whose texts are all spans of its source
abbrev pub lent_forms : Source → Record → RawForms
lent_forms (source.Borrowed whole) cookie = all_lent cookie
lent_forms _ cookie = no_raw_forms
