-- Removals: a browser drops a cookie exactly if name, domain, host-only flag and path are those of a stored one
-- (RFC 6265bis, Storage Model).
use Rattle.std.specs.Prelude.{◌≡◌, ℕ, true, false, List, All, Ok}
use Rattle.jiff.specs.Types.{DateTime}
use Rattle.cookie.specs.Record.{Record}
use Rattle.cookie.specs.Removal.{removal}
use Rattle.cookie.specs.Text.{cookie_text}
use Rattle.cookie_browser.specs.Printed.{IsReceivable}
use Rattle.cookie_browser.specs.PrintedStored.{IsUncovered}
use Rattle.cookie_browser.specs.Request.{RequestView}
use Rattle.cookie_browser.specs.Storage.{CookieStore, KeptView, is_same_cookie, lasting, lasts, verdict}
use Rattle.cookie_agent.specs.Sent.{seen}
use Rattle.cookie_agent.specs.Store.{AgentView, agent_verdict}

-- If the agent would store an expired cookie, and no stored one is the same cookie, the site sees under each name what
-- it saw.
abbrev pub IsMissed : RequestView → DateTime → List ℕ → AgentView → AgentView → Type 0
IsMissed site now text before after =
    (cookie : KeptView) → agent_verdict before site now text ≡ Ok cookie
    → lasts cookie.expiry now ≡ false
    → All (λ c. is_same_cookie c cookie ≡ false) before.cookies
    → (name : List ℕ) → seen site now after.cookies name ≡ seen site now before.cookies name

-- If a browser with these rules stored the text of a receivable cookie at the site, once and whatever it had stored,
-- and the connection is secure or no secure-only cookie of that name is stored, then after the text of the cookie's
-- removal no such cookie is stored.
abbrev pub IsRemovedAsSet : RequestView → DateTime → List ℕ → AgentView → AgentView → Type 0
IsRemovedAsSet site now text before after =
    (set : Record) (moment : DateTime) → text ≡ cookie_text true false (removal moment set)
    → IsReceivable set
    → (past : DateTime) (store : CookieStore) (kept : KeptView)
    → verdict before.rules site past store (cookie_text true false set) ≡ Ok kept
    → IsUncovered site (lasting now before.cookies) kept.name
    → All (λ c. is_same_cookie c kept ≡ false) after.cookies
