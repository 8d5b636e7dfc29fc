-- The calls on a jar in a handle: what each answers, and what it leaves. `old` is the jar at the call, and `new` at
-- the return; of a call that gives a text they are the buffer.
use Rattle.std.specs.Prelude.{◌≡◌, ℕ, ◌⊎◌, true, false, List, [], map, IsUtf8, Option, Some, None, option_map}
use Rattle.std.specs.FinMap.{FinMap, get}
use Rattle.jiff.specs.Types.{DateTime}
use Rattle.cookie.specs.AttributeValues.{AllFitFields, FitsField}
use Rattle.cookie.specs.CookieOf.{cookie_of, unless_empty}
use Rattle.cookie.specs.Jar.{Add, JarState, Marked, Remove, after, name_cmp, view}
use Rattle.cookie.specs.Moments.{date_of}
use Rattle.cookie.specs.Record.{Record, plain, without_leading_dot}
use Rattle.cookie.specs.Text.{cookie_text}
use Rattle.cookie.specs.Walk.{Walks}
use Rattle.cookie.specs.declared.ParseError.{ParseError}
use Rattle.cookie_client.specs.Session.{set_cookie_lines}
use Rattle.cookie_c.specs.Answers.{IsGiven, IsRefused}
use Rattle.cookie_c.specs.Codes.{refusal_status}
use Rattle.cookie_c.specs.Decoded.{IsDecodingRefusal}
use Rattle.cookie_c.specs.Handles.{Changes, IsKept, Tells, jar_in}
use Rattle.cookie_c.specs.TextLists.{list_of}
use Rattle.cookie_c.specs.declared.answer.Answer.{Answer}
use Rattle.cookie_c.specs.declared.jar.Jar.{Jar}
use Rattle.cookie_c.specs.declared.status.Status.{Status}
use Rattle.cookie_c.specs.declared.status.Status.TheVariants as status

-- the change was made, or memory was wanting
abbrev pub IsChanged : (JarState → JarState) → Status → JarState → JarState → Type 0
IsChanged change answer old new =
    ((answer ≡ status.Done) × (new ≡ change old)) ⊎ IsKept status.OutOfMemory answer old new

-- the cookie was added, if its path and domain fit a header
pub record IsFitAdded (cookie : Record) (answer : Status) (old new : JarState) : Type 0 where
  pub invalid : ¬ FitsField cookie → IsKept status.InvalidValue answer old new
  pub added : FitsField cookie → IsChanged (after (Add cookie)) answer old new

-- the cookie that the text of a `Set-Cookie` header is, decoded, was added, or the answer tells why the text is refused
pub record IsAdded (text : List ℕ) (answer : Status) (old new : JarState) : Type 0 where
  pub not_utf8 : ¬ (IsUtf8 text) → IsKept status.NotUtf8 answer old new
  pub read : IsUtf8 text
      → ((cookie : Record) × (cookie_of true text ≡ Some cookie)
      × IsFitAdded cookie answer old new)
      ⊎ ((why : ParseError) × IsDecodingRefusal text why
      × IsKept (refusal_status why) answer old new)

-- the cookie of this name, with this path and this domain, of which an empty one says nothing (RFC 6265 5.2.3, 5.2.4)
abbrev pub scoped_record : List ℕ → List ℕ → List ℕ → Record
scoped_record name path domain =
    record (plain name []) {
      path = unless_empty path;
      domain = option_map without_leading_dot (unless_empty domain);
    }

-- The cookie was removed, at the date and time that a text stands for. `AreTexts` says that what the cookie is made of
-- is UTF-8.
pub record IsRemoved (moment : List ℕ) (AreTexts : Type 0) (cookie : Record) (answer : Status)
    (old new : JarState) : Type 0 where
  pub not_utf8 : ¬ (IsUtf8 moment × AreTexts) → IsKept status.NotUtf8 answer old new
  pub invalid : IsUtf8 moment → AreTexts → ¬ FitsField cookie
      → IsKept status.InvalidValue answer old new
  pub no_date : IsUtf8 moment → AreTexts → FitsField cookie → date_of moment ≡ None
      → IsKept status.NoDate answer old new
  pub removed : (now : DateTime) → IsUtf8 moment → AreTexts → FitsField cookie
      → date_of moment ≡ Some now
      → IsChanged (after (Remove cookie now)) answer old new

-- the value is given that the jar shows under the name
pub record IsShown (name : List ℕ) (jar : JarState) (answer : Answer) (old new : List ℕ)
    : Type 0 where
  pub not_utf8 : ¬ (IsUtf8 name) → IsRefused status.NotUtf8 answer old new
  pub not_found : IsUtf8 name → view jar name ≡ None → IsRefused status.NotFound answer old new
  pub given : (cookie : Record) → IsUtf8 name → view jar name ≡ Some cookie
      → IsGiven cookie.value answer old new

-- the text has a line `Set-Cookie: ..` for each cookie of the delta, each once, in any order
pub record HasLines (delta : FinMap name_cmp Marked) (text : List ℕ) : Type 0 where
  pub cookies : List Record
  pub are : Walks (λ name. option_map (λ entry. entry.cookie) (get delta name)) cookies
  pub lines : text ≡ set_cookie_lines (map (cookie_text true false) cookies)

-- such a text is given, or memory was wanting; but a delta with a path or a domain that doesn't fit a header is refused
pub record IsDeltaGiven (jar : JarState) (answer : Answer) (old new : List ℕ) : Type 0 where
  pub invalid : ¬ AllFitFields jar.delta → IsRefused status.InvalidValue answer old new
  pub given : AllFitFields jar.delta
      → ((text : List ℕ) × HasLines jar.delta text × IsGiven text answer old new)
      ⊎ IsRefused status.OutOfMemory answer old new

-- the bytes are the list of the names and values that the jar shows, each once, in any order
pub record HasPairs (jar : JarState) (list : List ℕ) : Type 0 where
  pub cookies : List Record
  pub are : Walks (view jar) cookies
  pub listed : list ≡ list_of (map (λ cookie. (cookie.name, cookie.value)) cookies)

-- such bytes are given, or memory was wanting
abbrev pub ArePairsGiven : JarState → Answer → List ℕ → List ℕ → Type 0
ArePairsGiven jar answer old new =
    ((list : List ℕ) × HasPairs jar list × IsGiven list answer old new)
    ⊎ IsRefused status.OutOfMemory answer old new

-- what a handle has as a jar
abbrev pub jar_of : Jar → Option JarState
jar_of jar = jar_in jar.handle.held.content

-- The handle's jar is as a call makes it, and the number is the number of the call's answer.
abbrev pub AtJar : (Status → JarState → JarState → Type 0) → ℕ → Jar → Jar → Type 0
AtJar Makes number old new =
    Tells (λ answer. Changes status.NoJar Makes answer (jar_of old) (jar_of new)) number
