-- Mirrors private code: parts of a `cookies.txt`, as the code writes them.
use Rattle.std.specs.Prelude.{◌≡◌, ℕ, not, Bool, List, [], ◌∷◌, ◌++◌, decimal, Option, Some, None, if◌then◌else◌}
use Rattle.std.specs.List.{join_with_byte}
use Rattle.jiff.specs.Types.{DateTime}
use Rattle.jiff.specs.Words.{civil_nanos}
use Rattle.cookie_core.specs.Attributes.{nanos_of_seconds, seconds_of_digits}
use Rattle.cookie_browser.specs.Storage.{KeptView}
use Rattle.cookie_agent.specs.CookiesTxt.{cookie_of, domain_field, expiry_seconds, flag_of, flag_text, has_fields, http_only_mark, line_of_fields, read_line}
use Rattle.cookie_agent.specs.declared.saved.cookies_txt.Fields.{Fields}
use Rattle.cookie_agent.specs.declared.saved.cookies_txt.Kind.{Kind}
use Rattle.cookie_agent.specs.declared.saved.line.Line.{Line}
use Rattle.cookie_agent.specs.declared.saved.line.Line.TheVariants as line

-- the seconds of the cookie's expiry, if the form can carry the cookie
abbrev pub carried_seconds : KeptView → Option ℕ
carried_seconds cookie =
    if has_fields cookie then expiry_seconds cookie.expiry else None

-- the fields of the domain, with a tab after each
abbrev pub domain_text : KeptView → List ℕ
domain_text cookie =
    (if cookie.is_http_only then http_only_mark else [])
    ++ (domain_field cookie ++ 9 ∷ (flag_text (not cookie.is_host_only) ++ 9 ∷ []))

-- the cookie with an expiry of these seconds, as it is loaded at the time
abbrev pub dated : ℕ → DateTime → KeptView → KeptView
dated seconds now cookie =
    record cookie { expiry = Some (nanos_of_seconds seconds); last_access = civil_nanos now }

-- the cookie of the fields, the flags and the seconds
abbrev pub cookie_as : DateTime → Kind → ℕ → Fields → KeptView
cookie_as now kind seconds fields =
    cookie_of now kind.is_http_only fields.domain.now kind.below fields.path.now kind.is_secure_only
    seconds fields.name.now fields.value.now

-- what a line of the fields holds
abbrev pub line_of_parts : DateTime → Bool → Option Fields → Line
line_of_parts now http_only None = line.Bad
line_of_parts now http_only (Some fields) =
    read_line now http_only fields.domain.now (flag_of fields.below.now) fields.path.now
    (flag_of fields.secure.now) (seconds_of_digits fields.expiry.now) fields.name.now
    fields.value.now

-- a line of the texts holds what one of the fields holds
abbrev pub AreFieldsOf : List (List ℕ) → Option Fields → Type 0
AreFieldsOf texts fields =
    (now : DateTime) (http_only : Bool)
    → line_of_parts now http_only fields ≡ line_of_fields now http_only texts

-- the line of the cookie with an expiry of these seconds
abbrev pub line_at : ℕ → KeptView → List ℕ
line_at seconds cookie =
    (if cookie.is_http_only then http_only_mark else [])
    ++ (join_with_byte 9
    (domain_field cookie
    ∷ flag_text (not cookie.is_host_only)
    ∷ cookie.path
    ∷ flag_text cookie.is_secure_only
    ∷ decimal seconds
    ∷ cookie.name
    ∷ cookie.value
    ∷ [])
    ++ 10 ∷ [])
