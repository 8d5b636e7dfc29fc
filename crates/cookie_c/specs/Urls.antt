-- Where a request to a URL goes, for C: `old` is the buffer at the call and `new` at the return.
use Rattle.std.specs.Prelude.{◌≡◌, ℕ, ◌⊎◌, false, List, string_bytes, Option, None, Some}
use Rattle.cookie_browser.specs.Suffixes.{Rule}
use Rattle.cookie_report.specs.Addresses.{IsAddress, IsAddressOf, IsNoAddress}
use Rattle.cookie_report.specs.declared.address.Address.{Address}
use Rattle.cookie_c.specs.Answers.{IsGiven, IsRefused}
use Rattle.cookie_c.specs.Codes.{code_of}
use Rattle.cookie_c.specs.Decoded.{AreGiven}
use Rattle.cookie_c.specs.Sites.{AtSecond}
use Rattle.cookie_c.specs.Spans.{no_span}
use Rattle.cookie_c.specs.declared.answer.Answer.{Answer}
use Rattle.cookie_c.specs.declared.status.Status.{Status}
use Rattle.cookie_c.specs.declared.status.Status.TheVariants as status
use Rattle.cookie_c.specs.declared.url.UrlReading.{UrlReading}

-- nothing is told but why
abbrev pub refused_url : Status → UrlReading
refused_url why =
    record {
      status = code_of why;
      host = no_span;
      path = no_span;
      is_address = false;
      is_https = false;
      is_local = false;
    }

-- nothing is told but why, and nothing is written
abbrev pub IsRefusedUrl : Status → UrlReading → List ℕ → List ℕ → Type 0
IsRefusedUrl why answer old new = (answer ≡ refused_url why) × (new ≡ old)

-- The host and the path are given, the path right after the host, and what is known of the address is told.
pub record GivesAddress (address : Address) (answer : UrlReading) (old new : List ℕ) : Type 0 where
  pub texts : AreGiven (string_bytes address.host) (string_bytes address.path) answer.status
      answer.host answer.path old new
  pub ip : answer.is_address ≡ address.is_address
  pub https : answer.is_https ≡ address.is_https
  pub local : answer.is_local ≡ address.is_local

-- where a request to this URL goes is given, or there is no such URL, or memory ran out
abbrev pub IsUrlReading : List ℕ → UrlReading → List ℕ → List ℕ → Type 0
IsUrlReading url answer old new =
    ((address : Address) × IsAddressOf url address × GivesAddress address answer old new)
    ⊎ ((IsNoAddress url × IsRefusedUrl status.NoUrl answer old new)
    ⊎ IsRefusedUrl status.OutOfMemory answer old new)

-- A report on a response from this URL is given, or the call is refused. What a report says is only tested.
abbrev pub IsReport : List ℕ → Answer → List ℕ → List ℕ → Type 0
IsReport url answer old new =
    (IsAddress url × (text : List ℕ) × IsGiven text answer old new)
    ⊎ ((why : Status) × IsRefused why answer old new)

-- the same in a second, by the rules that a handle has, which a handle without them refuses first
abbrev pub IsReportBy : Option (List Rule) → List ℕ → ℕ → Answer → List ℕ → List ℕ → Type 0
IsReportBy None url second answer old new = IsRefused status.NoSuffixes answer old new
IsReportBy (Some rules) url second answer old new =
    AtSecond second (λ now. IsReport url answer old new) (λ why. IsRefused why answer old new)
