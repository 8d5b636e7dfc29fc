-- That with the standard's choices a user agent with choices does what one without them does.
use Rattle.std.specs.Prelude.{◌≡◌, ℕ, false, All, List, [], option_map}
use Rattle.jiff.specs.Types.{DateTime}
use Rattle.cookie_browser.specs.Request.{RequestView}
use Rattle.cookie_browser.specs.declared.browser_choices.BrowserChoices.{BrowserChoices}
use Rattle.cookie_agent.specs.Beyond.{BrowserAgentView, DatedStore, browser_after_text, browser_refusal_of, browser_verdict, undated, visible_beyond, without_expired}
use Rattle.cookie_agent.specs.Sent.{visible}
use Rattle.cookie_agent.specs.Store.{AgentView, agent_after_text, agent_verdict, refusal_of}
use Rattle.cookie_agent.specs.Stored.{IsApart}
use Rattle.cookie_agent.specs.declared.browser_refusal.BrowserRefusal.TheVariants as refusal

-- none of them
abbrev pub standard_choices : BrowserChoices
standard_choices =
    record {
      refuses_tabs = false;
      refuses_nameless_pairs = false;
      refuses_dot_domains = false;
      reads_internationalized_domains = false;
      asks_written_host_prefix = false;
      renews_changed = false;
      sends_unsafe_for_two_minutes = false;
      partitions = false;
    }

-- no cookie is partitioned
abbrev pub AreUnpartitioned : DatedStore → Type 0
AreUnpartitioned store = All (λ c. c.partition ≡ []) store

-- the agent without choices that stores the same
abbrev pub without_choices : BrowserAgentView → AgentView
without_choices agent = record { rules = agent.rules; cookies = undated agent.cookies }

-- With the standard's choices a text leaves what it leaves of an agent without choices, and is refused by the same step.
pub record IsReadAsStandard (site : RequestView) (top : List ℕ) (now : DateTime) (text : List ℕ)
    (agent : BrowserAgentView) : Type 0 where
  pub after : without_choices (browser_after_text site top now text agent)
      ≡ agent_after_text site now text (without_choices agent)
  pub refusal : browser_refusal_of (browser_verdict (without_expired now agent) site top now text)
      ≡ option_map refusal.Standard (refusal_of (agent_verdict (without_choices agent) site now text))
  pub unpartitioned : AreUnpartitioned (browser_after_text site top now text agent).cookies

abbrev pub ReadsStandard : Type 0
ReadsStandard =
    (site : RequestView) (top : List ℕ) (now : DateTime) (text : List ℕ) (agent : BrowserAgentView)
    → agent.choices ≡ standard_choices → AreUnpartitioned agent.cookies
    → IsApart (undated agent.cookies) → IsReadAsStandard site top now text agent

-- With the standard's choices the cookies are sent that an agent without choices sends.
abbrev pub SendsStandard : Type 0
SendsStandard =
    (site : RequestView) (top : List ℕ) (now : DateTime) (store : DatedStore)
    → AreUnpartitioned store
    → visible_beyond standard_choices site top now store ≡ visible site now (undated store)
