-- Which session a user agent's request opens, whatever other hosts sent to the agent (RFC 6265bis, The "__Host-" Prefix).
use Rattle.std.specs.Prelude.{◌≡◌, ◌↔◌, true, false, ℕ, List, [], Option, Some, Ok}
use Rattle.jiff.specs.Types.{DateTime}
use Rattle.cookie.specs.Originals.{field_cookies}
use Rattle.cookie.specs.Record.{IsCookie, Record}
use Rattle.cookie.specs.Text.{cookie_text}
use Rattle.cookie_agent.specs.Histories.{History, IsInOrder, Response, kept_after}
use Rattle.cookie_agent.specs.HostJars.{IsHostName, IsOwnSet, original_of, own_left}
use Rattle.cookie_agent.specs.Sent.{IsOrderedHeader}
use Rattle.cookie_agent.specs.Store.{AgentView}
use Rattle.cookie_browser.specs.Request.{RequestView}
use Rattle.cookie_browser.specs.Storage.{KeptView, has_host_prefix, is_sent, verdict}
use Rattle.cookie_session.specs.Seconds.{second_of}
use Rattle.cookie_session.specs.Session.{SessionState, seen_at}
use Rattle.cookie_session.specs.Sessions.{CanSave, IsOpen, IsStored, LivesAt, OpensFirst, saved_cookie}
use Rattle.cookie_session.specs.declared.opened.Opened.{Opened}
use Rattle.cookie_session.specs.declared.sessions.Sessions.{Sessions}

-- The request has the agent's header, and the answer is the session of the first of its cookies in which one is open.
pub record IsRequestOpened (sessions : Sessions) (agent : AgentView) (site : RequestView)
    (now : DateTime) (answer : Option Opened)
    : Type 0 where
  pub header : List ℕ
  pub sent : IsOrderedHeader site now agent.cookies header
  pub opened : (place : ℕ) (session : SessionState)
      → (answer ≡ Some (record { session = session; place = place }))
      ↔ OpensFirst sessions (field_cookies header) now place session

-- Whatever happened to the agent, in whatever order of time: if the session's cookie has a name that begins with
-- `__Host-`, in any case, a session opens only from a cookie that one of the site's own secure responses set.
abbrev pub OpensOwnSet : Sessions → AgentView → RequestView → DateTime → Option Opened → Type 0
OpensOwnSet sessions agent site now answer =
    (history : History) → agent.cookies ≡ kept_after history
    → has_host_prefix sessions.cookie.now.fields.name ≡ true
    → (place : ℕ) (session : SessionState)
    → answer ≡ Some (record { session = session; place = place })
    → (cookie : Record) × IsOwnSet site history cookie
    × IsOpen sessions (Some cookie) now place session

-- The agent came to its cookies by these events, in the order of time. The session's cookie has a name that begins with
-- `__Host-`.
pub record IsGuarded (sessions : Sessions) (agent : AgentView) (now : DateTime) (history : History)
    : Type 0 where
  pub order : IsInOrder history now
  pub came : agent.cookies ≡ kept_after history
  pub named : IsHostName sessions.cookie.now.fields.name

-- the session's cookie that a secure response of this site stored last, of those that are left, as a server reads it
abbrev pub own_cookie : Sessions → RequestView → DateTime → History → Option Record
own_cookie sessions site now history =
    original_of site now (own_left site sessions.cookie.now.fields.name history)

-- Then a session opens exactly if it is open in that cookie.
abbrev pub OpensOnlyOwn : Sessions → AgentView → RequestView → DateTime → Option Opened → Type 0
OpensOnlyOwn sessions agent site now answer =
    (history : History) → IsGuarded sessions agent now history
    → (place : ℕ) (session : SessionState)
    → (answer ≡ Some (record { session = session; place = place }))
    ↔ IsOpen sessions (own_cookie sessions site now history) now place session

-- The cookie that is left has the name and the value of one that a browser stores of the text of this response: of the
-- cookie that `Sessions::save` added to a jar for this session.
pub record IsLastSave (sessions : Sessions) (site : RequestView) (history : History)
    (session : SessionState) (save : Response) (kept : KeptView)
    : Type 0 where
  pub left : own_left site sessions.cookie.now.fields.name history ≡ Some kept
  pub set : KeptView
  pub stored : verdict save.rules save.site save.now [] save.text ≡ Ok set
  pub same : (kept.name ≡ set.name) × (kept.value ≡ set.value)
  -- what `save` promises of a cookie that it added
  pub nonce : List ℕ
  pub text : save.text ≡ cookie_text true false (saved_cookie sessions nonce save.now session)
  pub cookie : IsCookie (saved_cookie sessions nonce save.now session)
  pub lives : CanSave sessions save.now session
  pub holds : IsStored sessions (Some (saved_cookie sessions nonce save.now session))
      (seen_at (second_of save.now) session)

-- Then this session opens as long as its cookie is sent and it lives, by the newest key, and no other opens.
abbrev pub KeepsLastSave : Sessions → AgentView → RequestView → DateTime → Option Opened → Type 0
KeepsLastSave sessions agent site now answer =
    (history : History) → IsGuarded sessions agent now history
    → (session : SessionState) (save : Response) (kept : KeptView)
    → IsLastSave sessions site history session save kept
    → (place : ℕ) (found : SessionState)
    → (answer ≡ Some (record { session = found; place = place }))
    ↔ ((found ≡ seen_at (second_of save.now) session) × (place ≡ 0)
    × (is_sent site now kept ≡ true) × LivesAt sessions now found)
