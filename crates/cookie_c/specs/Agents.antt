-- A user agent for C (RFC 6265bis, Storage Model, Retrieval Algorithm): `old` is what its handle has at the call and
-- `new` at the return. Of a call that gives a text `before` and `after` are the buffer.
use Rattle.std.specs.Prelude.{◌≡◌, ◌≢◌, ℕ, ℤ, ◌-ℤ◌, ◌⊎◌, Bool, true, false, List, length, not, filter, map, IsUtf8, Option, Some, None, Ok, slice_get, if◌then◌else◌}
use Rattle.std.specs.List.{list_any}
use Rattle.std.specs.Str.{str_to_ascii_lowercase}
use Rattle.jiff.specs.Types.{DateTime}
use Rattle.jiff.specs.Words.{IsDurationNanos, civil_nanos}
use Rattle.cookie_browser.specs.Request.{RequestView}
use Rattle.cookie_browser.specs.Storage.{CookieStore, KeptView, lasting}
use Rattle.cookie_browser.specs.Suffixes.{Rule}
use Rattle.cookie_browser.specs.declared.refusal.Refusal.{Refusal}
use Rattle.cookie_agent.specs.Limits.{trimmed}
use Rattle.cookie_agent.specs.Scopes.{ScopeView}
use Rattle.cookie_agent.specs.Sent.{IsOrderedHeader, accessed}
use Rattle.cookie_agent.specs.Site.{request_path}
use Rattle.cookie_agent.specs.Store.{AgentView, agent_after_text, agent_verdict, refusal_of}
use Rattle.cookie_agent.specs.Stored.{is_named_in, is_of_domain}
use Rattle.cookie_agent.specs.declared.limits.Limits.{Limits}
use Rattle.cookie_c.specs.Answers.{IsGiven, IsRefused, IsTold}
use Rattle.cookie_c.specs.Codes.{code_of}
use Rattle.cookie_c.specs.Explanations.{Explains, IsUnexplained, refusal_code, request_of}
use Rattle.cookie_c.specs.Handles.{Changes, IsKept, Tells, store_in}
use Rattle.cookie_c.specs.Sites.{AtSecond}
use Rattle.cookie_c.specs.declared.agent.Agent.{Agent as Handle}
use Rattle.cookie_c.specs.declared.agent.read.AgentReading.{AgentReading}
use Rattle.cookie_c.specs.declared.answer.Answer.{Answer}
use Rattle.cookie_c.specs.declared.explanation.Explanation.{Explanation}
use Rattle.cookie_c.specs.declared.explanation.request.Request.{Request}
use Rattle.cookie_c.specs.declared.status.Status.{Status}
use Rattle.cookie_c.specs.declared.status.Status.TheVariants as status

-- the cookies that a handle's agent stores, in the order of their creation
abbrev pub store_of : Handle → Option CookieStore
store_of agent = store_in agent.handle.held.content

-- The cookies of a handle's agent are as a call makes them. A handle without an agent is refused, and stays so.
abbrev pub AtStore : (CookieStore → CookieStore → Type 0) → (Status → Type 0) → Option CookieStore
    → Option CookieStore → Type 0
AtStore Makes Refuses None new = (new ≡ None) × Refuses status.NoAgent
AtStore Makes Refuses (Some old) new =
    (made : CookieStore) × (new ≡ Some made) × Makes old made

-- ---- requests

-- the host and the path are UTF-8
abbrev pub HasTexts : Request → Type 0
HasTexts request = IsUtf8 request.host.now × IsUtf8 request.path.now

-- C's request as an agent sees it: with its host in lower case, and a path that begins with `/`
abbrev pub seen_request : Request → RequestView
seen_request request =
    record (request_of request) {
      host = str_to_ascii_lowercase request.host.now;
      path = request_path request.path.now;
    }

-- why a call for a request fails: its texts aren't UTF-8, or memory ran out
abbrev pub IsUnseen : Request → Status → Type 0
IsUnseen request why =
    ((why ≡ status.NotUtf8) × ¬ HasTexts request) ⊎ (why ≡ status.OutOfMemory)

-- this holds of the request as the agent sees it, or the call fails
abbrev pub IfSeen : Request → (RequestView → Type 0) → (Status → Type 0) → Type 0
IfSeen request Holds Refuses =
    (HasTexts request × Holds (seen_request request))
    ⊎ ((why : Status) × IsUnseen request why × Refuses why)

-- `IfSeen` for a request at a second: a second past the last is refused first
abbrev pub ForRequest : Request → ℕ → (RequestView → DateTime → Type 0) → (Status → Type 0)
    → Type 0
ForRequest request second Holds Refuses =
    AtSecond second (λ time. IfSeen request (λ site. Holds site time) Refuses) Refuses

-- ---- reading a response

-- the number of the step that refuses a cookie, and 0 if none does
abbrev pub refusal_number : Option Refusal → ℕ
refusal_number None = 0
refusal_number (Some why) = refusal_code why

-- the answer to a text that isn't read
abbrev pub unread : Status → AgentReading
unread why = record { status = code_of why; refusal = 0 }

-- the answer to a text that is read
abbrev pub read_as : Option Refusal → AgentReading
read_as refusal = record { status = code_of status.Done; refusal = refusal_number refusal }

-- The text is read: the agent is as after this text, and the answer tells which step refuses it, if one does.
pub record ReadsText (agent : AgentView) (site : RequestView) (now : DateTime) (text : List ℕ)
    (answer : AgentReading) (new : CookieStore) : Type 0 where
  pub told : answer ≡ read_as (refusal_of (agent_verdict agent site now text))
  pub left : new ≡ (agent_after_text site now text agent).cookies

-- the agent of these rules reads the text, which a response to this request has in that second; or nothing is read
abbrev pub ReadsResponse : List Rule → Request → List ℕ → ℕ → AgentReading → CookieStore
    → CookieStore → Type 0
ReadsResponse rules request text second answer old new =
    ForRequest request second
    (λ site now. ReadsText (record { rules = rules; cookies = old }) site now text answer new)
    (λ why. (answer ≡ unread why) × (new ≡ old))

-- `ReadsResponse` for the agent in the handle; `NoAgent` if it has none
abbrev pub ReadsAt : List Rule → Request → List ℕ → ℕ → AgentReading → Option CookieStore
    → Option CookieStore → Type 0
ReadsAt rules request text second answer old new =
    AtStore (λ had made. ReadsResponse rules request text second answer had made)
    (λ why. answer ≡ unread why) old new

-- `ReadsAt` by the rules in a handle: a handle without a list refuses first
abbrev pub ReadsBy : Option (List Rule) → Request → List ℕ → ℕ → AgentReading → Option CookieStore
    → Option CookieStore → Type 0
ReadsBy None request text second answer old new =
    (answer ≡ unread status.NoSuffixes) × (new ≡ old)
ReadsBy (Some rules) request text second answer old new =
    ReadsAt rules request text second answer old new

-- ---- sending a request

-- the cookies after a request; if it is made, the time is the last access of each that it sends
abbrev pub after_request : Bool → RequestView → DateTime → CookieStore → CookieStore
after_request false site now store = store
after_request true site now store = map (accessed site now) store

-- the value of the request's `Cookie` header is given
pub record GivesHeader (is_made : Bool) (site : RequestView) (now : DateTime) (answer : Answer)
    (old new : CookieStore) (before after : List ℕ) : Type 0 where
  pub header : List ℕ
  pub ordered : IsOrderedHeader site now old header
  pub given : IsGiven header answer before after
  pub left : new ≡ after_request is_made site now old

-- `GivesHeader` for the request at that second; or nothing is given
abbrev pub SendsRequest : Bool → Request → ℕ → Answer → List ℕ → List ℕ → CookieStore → CookieStore
    → Type 0
SendsRequest is_made request second answer before after old new =
    ForRequest request second
    (λ site now. GivesHeader is_made site now answer old new before after)
    (λ why. IsRefused why answer before after × (new ≡ old))

-- `SendsRequest` for the agent in the handle; `NoAgent` if it has none
abbrev pub SendsAt : Bool → Request → ℕ → Answer → List ℕ → List ℕ → Option CookieStore
    → Option CookieStore → Type 0
SendsAt is_made request second answer before after old new =
    AtStore (λ had made. SendsRequest is_made request second answer before after had made)
    (λ why. IsRefused why answer before after) old new

-- ---- changes

-- a call that changes the cookies of a handle's agent, and the number of its answer
abbrev pub ChangesStore : (Status → CookieStore → CookieStore → Type 0) → ℕ → Handle → Handle
    → Type 0
ChangesStore Makes number old new =
    Tells (λ answer. Changes status.NoAgent Makes answer (store_of old) (store_of new)) number

-- `ChangesStore` by the rules in a handle: a handle without a list refuses first
abbrev pub ChangesBy : Option (List Rule)
    → (List Rule → Status → CookieStore → CookieStore → Type 0) → ℕ → Handle → Handle → Type 0
ChangesBy None Makes number old new =
    (number ≡ code_of status.NoSuffixes) × (store_of new ≡ store_of old)
ChangesBy (Some rules) Makes number old new = ChangesStore (Makes rules) number old new

-- what is left of the cookies
abbrev pub Leaves : CookieStore → Status → CookieStore → CookieStore → Type 0
Leaves left answer old new = (answer ≡ status.Done) × (new ≡ left)

-- so it is, or memory ran out and all is as before
abbrev pub LeavesInMemory : CookieStore → Status → CookieStore → CookieStore → Type 0
LeavesInMemory left answer old new =
    Leaves left answer old new ⊎ IsKept status.OutOfMemory answer old new

-- what is expired in that second is dropped
abbrev pub Evicts : ℕ → Status → CookieStore → CookieStore → Type 0
Evicts second answer old new =
    AtSecond second (λ now. Leaves (lasting now old) answer old new)
    (λ why. IsKept why answer old new)

-- what is expired in that second is dropped, and then what is above the limits by these rules; or memory ran out
abbrev pub Trims : Limits → ℕ → List Rule → Status → CookieStore → CookieStore → Type 0
Trims limits second rules answer old new =
    AtSecond second (λ now. LeavesInMemory (trimmed rules limits now old) answer old new)
    (λ why. IsKept why answer old new)

-- the cookie of this name and scope is gone; `NotFound` if there was none; or memory ran out
abbrev pub Removes : List ℕ → ScopeView → Status → CookieStore → CookieStore → Type 0
Removes name scope answer old new =
    ((new ≡ filter (λ cookie. not (is_named_in name scope cookie)) old)
    × (answer ≡ (if list_any (is_named_in name scope) old then status.Done else status.NotFound)))
    ⊎ IsKept status.OutOfMemory answer old new

-- the cookies of this domain, and of those below it, are gone
abbrev pub Clears : List ℕ → Status → CookieStore → CookieStore → Type 0
Clears domain answer old new =
    Leaves (filter (λ cookie. not (is_of_domain domain cookie)) old) answer old new

-- ---- the stored cookies

-- how many cookies the handle's agent stores is told; `NoAgent` if it has none
abbrev pub TellsCount : Option CookieStore → Answer → Type 0
TellsCount None answer = IsTold status.NoAgent 0 answer
TellsCount (Some store) answer = IsTold status.Done (length store) answer

-- no duration has the time from now to the expiry
abbrev pub IsTooFar : DateTime → Option ℤ → Type 0
IsTooFar now None = ⊥
IsTooFar now (Some expiry) = ¬ IsDurationNanos (expiry -ℤ civil_nanos now)

-- why a stored cookie isn't told of: its expiry is too far off, or memory ran out
abbrev pub IsUntold : DateTime → KeptView → Status → Type 0
IsUntold now cookie why =
    ((why ≡ status.NoDate) × IsTooFar now cookie.expiry) ⊎ (why ≡ status.OutOfMemory)

-- the stored cookie is told of, as of a cookie that a text made
abbrev pub TellsCookie : DateTime → KeptView → Explanation → List ℕ → List ℕ → Type 0
TellsCookie now cookie answer before after =
    Explains now (Ok cookie) answer before after
    ⊎ ((why : Status) × IsUntold now cookie why × IsUnexplained why answer before after)

-- `TellsCookie` for the cookie; `NotFound` if there is none
abbrev pub TellsFound : DateTime → Option KeptView → Explanation → List ℕ → List ℕ → Type 0
TellsFound now None answer before after = IsUnexplained status.NotFound answer before after
TellsFound now (Some cookie) answer before after = TellsCookie now cookie answer before after

-- the cookie at this index is told of, in that second
abbrev pub TellsIn : ℕ → ℕ → CookieStore → Explanation → List ℕ → List ℕ → Type 0
TellsIn index second store answer before after =
    AtSecond second (λ now. TellsFound now (slice_get store index) answer before after)
    (λ why. IsUnexplained why answer before after)

-- `TellsIn` for the agent in the handle; `NoAgent` if it has none
abbrev pub TellsAt : ℕ → ℕ → Option CookieStore → Explanation → List ℕ → List ℕ → Type 0
TellsAt index second None answer before after = IsUnexplained status.NoAgent answer before after
TellsAt index second (Some store) answer before after =
    TellsIn index second store answer before after

-- ---- refusals

-- no refusal has the number
abbrev pub IsNoRefusal : ℕ → Type 0
IsNoRefusal number = (why : Refusal) → refusal_code why ≢ number

-- a text of the refusal of this number is given, or there is no such refusal
abbrev pub GivesRefusal : (Refusal → List ℕ) → ℕ → Answer → List ℕ → List ℕ → Type 0
GivesRefusal text number answer before after =
    ((why : Refusal) × (refusal_code why ≡ number) × IsGiven (text why) answer before after)
    ⊎ (IsNoRefusal number × IsRefused status.NotFound answer before after)
