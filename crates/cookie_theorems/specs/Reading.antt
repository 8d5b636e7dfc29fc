-- A user agent that reads texts, the first one first.
use Rattle.std.specs.Prelude.{ℕ, List, [], ◌∷◌}
use Rattle.jiff.specs.Types.{DateTime}
use Rattle.cookie_browser.specs.Request.{RequestView}
use Rattle.cookie_browser.specs.Storage.{CookieStore, kept_after_text}
use Rattle.cookie_browser.specs.Suffixes.{Rule}
use Rattle.cookie_agent.specs.Store.{AgentView}

-- the stored cookies after the texts of `Set-Cookie` headers
abbrev pub kept_after_texts : List Rule → RequestView → DateTime → List (List ℕ) → CookieStore
    → CookieStore
kept_after_texts rules site now [] store = store
kept_after_texts rules site now (text ∷ texts) store =
    kept_after_texts rules site now texts (kept_after_text rules site now text store)

-- the agent after them
abbrev pub agent_after_texts : RequestView → DateTime → List (List ℕ) → AgentView → AgentView
agent_after_texts site now texts agent =
    record agent { cookies = kept_after_texts agent.rules site now texts agent.cookies }
