-- A user agent: its rules of public suffixes, and the cookies that it stores (RFC 6265bis, Storage Model).
use Rattle.std.specs.Prelude.{ℕ, List, Option, Some, None, Result, Ok, Err}
use Rattle.jiff.specs.Types.{DateTime}
use Rattle.cookie_browser.specs.Request.{RequestView}
use Rattle.cookie_browser.specs.Storage.{KeptView, CookieStore, kept_after_text, lasting, verdict}
use Rattle.cookie_browser.specs.Suffixes.{Rule}
use Rattle.cookie_browser.specs.declared.refusal.Refusal.{Refusal}

-- the rules, and the stored cookies in the order of their creation
pub record AgentView : Type 0 where
  pub rules : List Rule
  pub cookies : CookieStore

-- what the agent makes of a text: the cookie that it would store, or the refusal
abbrev pub agent_verdict : AgentView → RequestView → DateTime → List ℕ → Result KeptView Refusal
agent_verdict agent site now text =
    verdict agent.rules site now (lasting now agent.cookies) text

-- the refusal, if it is one
abbrev pub refusal_of : Result KeptView Refusal → Option Refusal
refusal_of (Ok cookie) = None
refusal_of (Err refusal) = Some refusal

-- the agent after the text of one `Set-Cookie` header
abbrev pub agent_after_text : RequestView → DateTime → List ℕ → AgentView → AgentView
agent_after_text site now text agent =
    record agent { cookies = kept_after_text agent.rules site now text agent.cookies }
