-- What a browser makes of a cookie, for C: `old` is the buffer at the call and `new` at the return.
use Rattle.std.specs.Prelude.{◌≡◌, ℕ, ℤ, pos, ◌+◌, ◌-ℤ◌, int_div, ◌⊎◌, false, List, [], ◌++◌, length, Option, Some, None, is_some, Result, Ok, Err}
use Rattle.jiff.specs.Types.{DateTime}
use Rattle.jiff.specs.Words.{civil_nanos}
use Rattle.cookie_browser.specs.Refusal.{refusal_section, refusal_text}
use Rattle.cookie_browser.specs.Request.{RequestView}
use Rattle.cookie_browser.specs.Storage.{KeptView, verdict}
use Rattle.cookie_browser.specs.SuffixList.{rules_of}
use Rattle.cookie_browser.specs.Suffixes.{HasSameElements, Rule}
use Rattle.cookie_browser.specs.declared.enforcement.Enforcement.{Enforcement}
use Rattle.cookie_browser.specs.declared.enforcement.Enforcement.TheVariants as enforcement
use Rattle.cookie_browser.specs.declared.refusal.Refusal.{Refusal}
use Rattle.cookie_browser.specs.declared.refusal.Refusal.TheVariants as refusal
use Rattle.cookie_session.specs.Seconds.{from_zero}
use Rattle.cookie_c.specs.Answers.{IsGiven}
use Rattle.cookie_c.specs.Codes.{code_of}
use Rattle.cookie_c.specs.Handles.{IsKept, IsPut, suffixes_in}
use Rattle.cookie_c.specs.Spans.{no_span}
use Rattle.cookie_c.specs.Sites.{AtSecond}
use Rattle.cookie_c.specs.declared.explanation.Explanation.{Explanation}
use Rattle.cookie_c.specs.declared.explanation.request.Request.{Request}
use Rattle.cookie_c.specs.declared.explanation.stored.Stored.{Stored}
use Rattle.cookie_c.specs.declared.span.Span.{Span}
use Rattle.cookie_c.specs.declared.status.Status.{Status}
use Rattle.cookie_c.specs.declared.status.Status.TheVariants as status
use Rattle.cookie_c.specs.declared.suffixes.Suffixes.{Suffixes}

-- C's request as a browser sees it
abbrev pub request_of : Request → RequestView
request_of request =
    record {
      host = request.host.now;
      is_address = request.is_address;
      path = request.path.now;
      is_secure = request.is_secure;
      is_same_site = request.is_same_site;
      is_top_level = request.is_top_level;
      is_safe = request.is_safe;
    }

-- ---- numbers

-- the number of the step that refuses a cookie
abbrev pub refusal_code : Refusal → ℕ
refusal_code refusal.ControlCharacter = 1
refusal_code refusal.TooLong = 2
refusal_code refusal.Empty = 3
refusal_code refusal.NonAsciiDomain = 4
refusal_code refusal.PublicSuffix = 5
refusal_code refusal.ForeignDomain = 6
refusal_code refusal.InsecureConnection = 7
refusal_code refusal.OverlaysSecure = 8
refusal_code refusal.CrossSite = 9
refusal_code refusal.NoneWithoutSecure = 10
refusal_code refusal.SecurePrefix = 11
refusal_code refusal.HostPrefix = 12
refusal_code refusal.NamelessPrefix = 13
refusal_code refusal.HttpPrefix = 14

-- the number of the enforcement: the number of the rule with its name (`same_site_code`)
abbrev pub enforcement_code : Enforcement → ℕ
enforcement_code enforcement.Default = 0
enforcement_code enforcement.Strict = 1
enforcement_code enforcement.Lax = 2
enforcement_code enforcement.None = 3

-- the whole seconds from a time to an expiry, a part of a second left out; 0 if the expiry isn't after it
abbrev pub seconds_until : DateTime → ℤ → ℕ
seconds_until now expiry = from_zero (int_div (expiry -ℤ civil_nanos now) (pos 1000000000))

-- the same for a cookie, and 0 if it has no expiry
abbrev pub seconds_left : DateTime → Option ℤ → ℕ
seconds_left now None = 0
seconds_left now (Some expiry) = seconds_until now expiry

-- ---- the answer

-- the span of a text that begins at this offset
abbrev pub span_at : ℕ → List ℕ → Span
span_at start text = record { start = start; length = length text }

-- there is no cookie
abbrev pub nothing_stored : Stored
nothing_stored =
    record {
      name = no_span;
      value = no_span;
      domain = no_span;
      path = no_span;
      lifetime = 0;
      same_site = 0;
      is_persistent = false;
      is_host_only = false;
      is_secure = false;
      is_http_only = false;
    }

-- the cookie that is stored at a time
abbrev pub stored_as : DateTime → KeptView → Stored
stored_as now cookie =
    record {
      name = span_at 0 cookie.name;
      value = span_at (length cookie.name) cookie.value;
      domain = span_at (length cookie.name + length cookie.value) cookie.domain;
      path = span_at (length cookie.name + length cookie.value + length cookie.domain) cookie.path;
      lifetime = seconds_left now cookie.expiry;
      same_site = enforcement_code cookie.same_site;
      is_persistent = is_some cookie.expiry;
      is_host_only = cookie.is_host_only;
      is_secure = cookie.is_secure_only;
      is_http_only = cookie.is_http_only;
    }

-- the answer of a call that explains nothing
abbrev pub unexplained : Status → Explanation
unexplained why =
    record {
      status = code_of why;
      refusal = 0;
      sentence = no_span;
      section = no_span;
      stored = nothing_stored;
    }

-- the answer to a verdict at a time, if the texts have room
abbrev pub answer_to : DateTime → Result KeptView Refusal → Explanation
answer_to now (Ok cookie) = record (unexplained status.Done) { stored = stored_as now cookie }
answer_to now (Err why) =
    record (unexplained status.Done) {
      refusal = refusal_code why;
      sentence = span_at 0 (refusal_text why);
      section = span_at (length (refusal_text why)) (refusal_section why);
    }

-- the texts of the answer, one after the other
abbrev pub texts_of : Result KeptView Refusal → List ℕ
texts_of (Ok cookie) = cookie.name ++ cookie.value ++ cookie.domain ++ cookie.path
texts_of (Err why) = refusal_text why ++ refusal_section why

-- The verdict is told: the answer is the one to it, but for the status, and its texts are given.
pub record Explains (now : DateTime) (outcome : Result KeptView Refusal) (answer : Explanation)
    (old new : List ℕ) : Type 0 where
  pub told : answer ≡ record (answer_to now outcome) { status = answer.status }
  pub texts : IsGiven (texts_of outcome)
      (record { status = answer.status; length = length (texts_of outcome) }) old new

-- nothing is explained, and nothing is written
abbrev pub IsUnexplained : Status → Explanation → List ℕ → List ℕ → Type 0
IsUnexplained why answer old new = (answer ≡ unexplained why) × (new ≡ old)

-- The answer explains what a browser that stores no cookie makes of a `Set-Cookie` text in that second, by these rules.
-- Or memory ran out.
abbrev pub IsExplained : Request → List ℕ → ℕ → List Rule → Explanation → List ℕ → List ℕ → Type 0
IsExplained request text second rules answer old new =
    AtSecond second
    (λ now. Explains now (verdict rules (request_of request) now [] text) answer old new
    ⊎ IsUnexplained status.OutOfMemory answer old new)
    (λ why. IsUnexplained why answer old new)

-- the same by the rules that a handle has, which a handle without them refuses first
abbrev pub IsExplainedBy : Option (List Rule) → Request → List ℕ → ℕ → Explanation → List ℕ → List ℕ
    → Type 0
IsExplainedBy None request text second answer old new =
    IsUnexplained status.NoSuffixes answer old new
IsExplainedBy (Some rules) request text second answer old new =
    IsExplained request text second rules answer old new

-- what a handle has as the rules of a list, in an order that means nothing
abbrev pub suffixes_of : Suffixes → Option (List Rule)
suffixes_of suffixes = suffixes_in suffixes.handle.held.content

-- the handle has the rules of the list, or memory ran out and it is as before
abbrev pub MakesRules : List ℕ → Status → Option (List Rule) → Option (List Rule) → Type 0
MakesRules list answer old new =
    ((rules : List Rule) × HasSameElements rules (rules_of list) × IsPut rules answer old new)
    ⊎ IsKept status.OutOfMemory answer old new
