-- What happened to a user agent, and the cookies that it then stores.
use Rattle.std.specs.Prelude.{◌≡◌, ◌⊎◌, ℕ, ◌≤ℤ◌, not, List, [], filter, map}
use Rattle.jiff.specs.Types.{DateTime}
use Rattle.jiff.specs.Words.{civil_nanos}
use Rattle.cookie_browser.specs.Request.{RequestView}
use Rattle.cookie_browser.specs.Storage.{CookieStore, kept_after_text, lasting}
use Rattle.cookie_browser.specs.Suffixes.{Rule}
use Rattle.cookie_agent.specs.Limits.{trimmed}
use Rattle.cookie_agent.specs.SavedForms.{read_again}
use Rattle.cookie_agent.specs.Scopes.{ScopeView}
use Rattle.cookie_agent.specs.Sent.{accessed}
use Rattle.cookie_agent.specs.Stored.{is_named_in, is_of_domain, kept_with_each}
use Rattle.cookie_agent.specs.declared.limits.Limits.{Limits}
use Rattle.cookie_agent.specs.declared.saved.form.SavedForm.{SavedForm}

-- the text of a `Set-Cookie` header, the request whose response has it, when it is read, and the rules of the agent then
pub record Response : Type 0 where
  pub rules : List Rule
  pub site : RequestView
  pub now : DateTime
  pub text : List ℕ

-- what was written of stored cookies, in this form at this time, is read by these rules and loaded at another time
pub record Loading : Type 0 where
  pub form : SavedForm
  pub written : DateTime
  pub rules : List Rule
  pub now : DateTime

-- The events of a user agent, the last one first. Each is a call that returned `Ok`.
pub data History : Type 0 where
  -- it stores nothing: `Agent::new`, `Store::new`, `Store::clear`
  Begins : History
  -- a response is read: `read`
  Reads : Response → History → History
  -- a request is made: `retrieve`
  Requests : RequestView → DateTime → History → History
  -- `evict`
  Evicts : DateTime → History → History
  -- `remove`
  Removes : List ℕ → ScopeView → History → History
  -- `clear_domain`
  Clears : List ℕ → History → History
  -- `trim`
  Trims : List Rule → Limits → DateTime → History → History
  -- `load` of what was written of an agent to which the first of these happened
  Loads : Loading → History → History → History

-- the stored cookies after these events
abbrev pub kept_after : History → CookieStore
kept_after Begins = []
kept_after (Reads response before) =
    kept_after_text response.rules response.site response.now response.text (kept_after before)
kept_after (Requests site now before) = map (accessed site now) (kept_after before)
kept_after (Evicts now before) = lasting now (kept_after before)
kept_after (Removes name scope before) =
    filter (λ cookie. not (is_named_in name scope cookie)) (kept_after before)
kept_after (Clears domain before) =
    filter (λ cookie. not (is_of_domain domain cookie)) (kept_after before)
kept_after (Trims rules limits now before) = trimmed rules limits now (kept_after before)
kept_after (Loads loading saved before) =
    kept_with_each (lasting loading.now
    (read_again loading.form loading.rules loading.written loading.now (kept_after saved)))
    (kept_after before)

-- No event is after the time, and none is before the one that it follows.
abbrev pub IsInOrder : History → DateTime → Type 0
IsInOrder Begins time = Unit {0}
IsInOrder (Reads response before) time =
    (civil_nanos response.now ≤ℤ civil_nanos time) × IsInOrder before response.now
IsInOrder (Requests site now before) time =
    (civil_nanos now ≤ℤ civil_nanos time) × IsInOrder before now
IsInOrder (Evicts now before) time =
    (civil_nanos now ≤ℤ civil_nanos time) × IsInOrder before now
IsInOrder (Removes name scope before) time = IsInOrder before time
IsInOrder (Clears domain before) time = IsInOrder before time
IsInOrder (Trims rules limits now before) time =
    (civil_nanos now ≤ℤ civil_nanos time) × IsInOrder before now
IsInOrder (Loads loading saved before) time =
    (civil_nanos loading.now ≤ℤ civil_nanos time)
    × (civil_nanos loading.written ≤ℤ civil_nanos loading.now)
    × IsInOrder saved loading.written × IsInOrder before loading.now

-- The response was read, by this agent or by one whose cookies it loaded.
abbrev pub WasRead : Response → History → Type 0
WasRead response Begins = ⊥
WasRead response (Reads last before) = (response ≡ last) ⊎ WasRead response before
WasRead response (Requests site now before) = WasRead response before
WasRead response (Evicts now before) = WasRead response before
WasRead response (Removes name scope before) = WasRead response before
WasRead response (Clears domain before) = WasRead response before
WasRead response (Trims rules limits now before) = WasRead response before
WasRead response (Loads loading saved before) =
    WasRead response saved ⊎ WasRead response before
