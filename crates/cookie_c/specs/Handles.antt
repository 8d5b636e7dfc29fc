-- What the handles of C have, and what a call makes of it: `old` is what a handle has at the call and `new` at the
-- return. Of a call that gives a text they are the buffer.
use Rattle.std.specs.Prelude.{◌≡◌, ℕ, ◌⊎◌, List, Option, Some, None}
use Rattle.cookie.specs.Jar.{JarState}
use Rattle.cookie_browser.specs.Storage.{CookieStore}
use Rattle.cookie_browser.specs.Suffixes.{Rule}
use Rattle.cookie_session.specs.Visit.{VisitState}
use Rattle.cookie_session.specs.declared.opened.Opened.{Opened}
use Rattle.cookie_c.specs.Answers.{IsRefused}
use Rattle.cookie_c.specs.Codes.{code_of}
use Rattle.cookie_c.specs.declared.answer.Answer.{Answer}
use Rattle.cookie_c.specs.declared.handle.content.Content.{Content}
use Rattle.cookie_c.specs.declared.handle.content.Content.TheVariants as content
use Rattle.cookie_c.specs.declared.sessions.site.Site.{Site}
use Rattle.cookie_c.specs.declared.status.Status.{Status}
use Rattle.cookie_c.specs.declared.status.Status.TheVariants as status

-- ---- what a handle has of each kind

abbrev pub jar_in : Option Content → Option JarState
jar_in (Some (content.Jar jar)) = Some jar
jar_in _ = None

abbrev pub keys_in : Option Content → Option (List (List ℕ))
keys_in (Some (content.Keys ring)) = Some ring
keys_in _ = None

abbrev pub site_in : Option Content → Option Site
site_in (Some (content.Sessions site)) = Some site
site_in _ = None

abbrev pub opened_in : Option Content → Option (List Opened)
opened_in (Some (content.Opened opened)) = Some opened
opened_in _ = None

abbrev pub session_in : Option Content → Option VisitState
session_in (Some (content.Session visit)) = Some visit
session_in _ = None

abbrev pub suffixes_in : Option Content → Option (List Rule)
suffixes_in (Some (content.Suffixes rules)) = Some rules
suffixes_in _ = None

abbrev pub store_in : Option Content → Option CookieStore
store_in (Some (content.Store store)) = Some store
store_in _ = None

-- ---- what a call makes of it

-- returns `why`, and changes nothing
abbrev pub IsKept : {X : Type 0} → Status → Status → X → X → Type 0
IsKept why answer old new = (answer ≡ why) × (new ≡ old)

-- the handle has this now, or memory ran out and it is as before
abbrev pub IsPut : {X : Type 0} → X → Status → Option X → Option X → Type 0
IsPut made answer old new =
    ((answer ≡ status.Done) × (new ≡ Some made)) ⊎ IsKept status.OutOfMemory answer old new

-- What a handle has is as a call makes it. For a handle that has nothing, `lacks` is the answer, and it stays so.
abbrev pub Changes : {X : Type 0} → Status → (Status → X → X → Type 0) → Status → Option X
    → Option X → Type 0
Changes lacks Makes answer None new = (answer ≡ lacks) × (new ≡ None)
Changes {X} lacks Makes answer (Some old) new =
    (made : X) × (new ≡ Some made) × Makes answer old made

-- the number of an answer for which `Holds` is true
abbrev pub Tells : (Status → Type 0) → ℕ → Type 0
Tells Holds number = (answer : Status) × (number ≡ code_of answer) × Holds answer

-- What a handle has is given. For a handle that has nothing, nothing is given, and `lacks` is the answer.
abbrev pub Reads : {X : Type 0} → Status → (X → Answer → List ℕ → List ℕ → Type 0) → Option X
    → Answer → List ℕ → List ℕ → Type 0
Reads lacks Gives None answer old new = IsRefused lacks answer old new
Reads lacks Gives (Some had) answer old new = Gives had answer old new
