-- A removal whose cookie no stored one is misses, and no cookie of another site goes.
use Rattle.std.proofs.Common.{◌≡◌, true, false, filter, All, Ok, Err, sym, ap, subst, ◌∙◌}
use Rattle.cookie_browser.specs.Storage.{is_same_cookie, kept_after_verdict, kept_with, lasting}
use Rattle.cookie_agent.specs.Limits.{is_of_site}
use Rattle.cookie_agent.specs.Sent.{seen}
use Rattle.cookie_agent.specs.Storable.{is_storable_by}
use Rattle.cookie_agent.specs.Store.{AgentView, agent_after_text, agent_verdict}
use Rattle.cookie_agent.specs.VerdictCode.{verdict_result}
use Rattle.cookie_agent.proofs.ApartLemmas.{read-part}
use Rattle.cookie_agent.proofs.MissLemmas.{missed}
use Rattle.cookie_agent.proofs.RemovalLemmas.{removed}
use Rattle.cookie_agent.proofs.StoringLemmas.{text_storable}
use Rattle.cookie_agent.proofs.agent.Agent.read.Goals as goal

pub returns-in_ok-put-in-Stored-clause-missed : goal.returns-in_ok-put-in-Stored-clause-missed
returns-in_ok-put-in-Stored-clause-missed c x stored expired apart name =
    let site = c.args.site.now in
    let now = c.args.now in
    let before : AgentView = c.args.self.now in
    let cookies : c.self.inside.store ≡ before.cookies = ap (λ (a : AgentView). a.cookies) c.self.view_is in
    let found : agent_verdict before site now c.args.text.now ≡ Ok c.in-Stored.cookie = sym c.in_ok-cookie.ensures ∙ ap verdict_result c.in-Stored.is in
    let after : c.put.new.self ≡ (agent_after_text site now c.args.text.now before).cookies =
    c.in_ok-put-in-Stored.ensures.ok
    ∙ ap (λ s. lasting now (kept_with c.in-Stored.cookie (lasting now s))) cookies
    ∙ sym (ap (λ o. kept_after_verdict now o (lasting now before.cookies)) found) in
    ap (λ s. seen site now s name) after ∙ missed site now c.args.text.now before x stored expired apart name

pub returns-in_ok-put-in-Stored-clause-removed : goal.returns-in_ok-put-in-Stored-clause-removed
returns-in_ok-put-in-Stored-clause-removed c set moment is receivable past store kept stored uncovered =
    let site = c.args.site.now in
    let now = c.args.now in
    let before : AgentView = c.args.self.now in
    let cookies : c.self.inside.store ≡ before.cookies = ap (λ (a : AgentView). a.cookies) c.self.view_is in
    let found : agent_verdict before site now c.args.text.now ≡ Ok c.in-Stored.cookie = sym c.in_ok-cookie.ensures ∙ ap verdict_result c.in-Stored.is in
    let after : c.put.new.self ≡ (agent_after_text site now c.args.text.now before).cookies =
    c.in_ok-put-in-Stored.ensures.ok
    ∙ ap (λ s. lasting now (kept_with c.in-Stored.cookie (lasting now s))) cookies
    ∙ sym (ap (λ o. kept_after_verdict now o (lasting now before.cookies)) found) in
    subst (All (λ c. is_same_cookie c kept ≡ false)) (sym after) (removed site now c.args.text.now before set moment is receivable past store kept stored uncovered)

pub returns-in-Refused-clause-removed : goal.returns-in-Refused-clause-removed
returns-in-Refused-clause-removed c set moment is receivable past store kept stored uncovered =
    let site = c.args.site.now in
    let now = c.args.now in
    let before : AgentView = c.args.self.now in
    let cookies : c.self.inside.store ≡ before.cookies = ap (λ (a : AgentView). a.cookies) c.self.view_is in
    let found : agent_verdict before site now c.args.text.now ≡ Err c.in-Refused.refusal = sym c.in_ok-cookie.ensures ∙ ap verdict_result c.in-Refused.is in
    let after : c.evict.new.self ≡ (agent_after_text site now c.args.text.now before).cookies =
    c.evict.ensures ∙ ap (lasting now) cookies
    ∙ sym (ap (λ o. kept_after_verdict now o (lasting now before.cookies)) found) in
    subst (All (λ c. is_same_cookie c kept ≡ false)) (sym after) (removed site now c.args.text.now before set moment is receivable past store kept stored uncovered)

pub returns-in_ok-put-in-Stored-clause-apart : goal.returns-in_ok-put-in-Stored-clause-apart
returns-in_ok-put-in-Stored-clause-apart c domain outside =
    let site = c.args.site.now in
    let now = c.args.now in
    let before : AgentView = c.args.self.now in
    let cookies : c.self.inside.store ≡ before.cookies = ap (λ (a : AgentView). a.cookies) c.self.view_is in
    let found : agent_verdict before site now c.args.text.now ≡ Ok c.in-Stored.cookie = sym c.in_ok-cookie.ensures ∙ ap verdict_result c.in-Stored.is in
    let after : c.put.new.self ≡ (agent_after_text site now c.args.text.now before).cookies =
    c.in_ok-put-in-Stored.ensures.ok
    ∙ ap (λ s. lasting now (kept_with c.in-Stored.cookie (lasting now s))) cookies
    ∙ sym (ap (λ o. kept_after_verdict now o (lasting now before.cookies)) found) in
    ap (filter (is_of_site before.rules domain)) after ∙ read-part before.rules domain site now c.args.text.now before.cookies outside

pub returns-in-Refused-clause-apart : goal.returns-in-Refused-clause-apart
returns-in-Refused-clause-apart c domain outside =
    let site = c.args.site.now in
    let now = c.args.now in
    let before : AgentView = c.args.self.now in
    let cookies : c.self.inside.store ≡ before.cookies = ap (λ (a : AgentView). a.cookies) c.self.view_is in
    let found : agent_verdict before site now c.args.text.now ≡ Err c.in-Refused.refusal = sym c.in_ok-cookie.ensures ∙ ap verdict_result c.in-Refused.is in
    let after : c.evict.new.self ≡ (agent_after_text site now c.args.text.now before).cookies =
    c.evict.ensures ∙ ap (lasting now) cookies
    ∙ sym (ap (λ o. kept_after_verdict now o (lasting now before.cookies)) found) in
    ap (filter (is_of_site before.rules domain)) after ∙ read-part before.rules domain site now c.args.text.now before.cookies outside

pub returns-in_ok-put-in-Stored-clause-storable : goal.returns-in_ok-put-in-Stored-clause-storable
returns-in_ok-put-in-Stored-clause-storable c url all =
    let site = c.args.site.now in
    let now = c.args.now in
    let before : AgentView = c.args.self.now in
    let cookies : c.self.inside.store ≡ before.cookies = ap (λ (a : AgentView). a.cookies) c.self.view_is in
    let found : agent_verdict before site now c.args.text.now ≡ Ok c.in-Stored.cookie = sym c.in_ok-cookie.ensures ∙ ap verdict_result c.in-Stored.is in
    let after : c.put.new.self ≡ (agent_after_text site now c.args.text.now before).cookies =
    c.in_ok-put-in-Stored.ensures.ok
    ∙ ap (λ s. lasting now (kept_with c.in-Stored.cookie (lasting now s))) cookies
    ∙ sym (ap (λ o. kept_after_verdict now o (lasting now before.cookies)) found) in
    subst (All (λ c. is_storable_by now c ≡ true)) (sym after) (text_storable before.rules site now c.args.text.now before.cookies url all)

pub returns-in-Refused-clause-storable : goal.returns-in-Refused-clause-storable
returns-in-Refused-clause-storable c url all =
    let site = c.args.site.now in
    let now = c.args.now in
    let before : AgentView = c.args.self.now in
    let cookies : c.self.inside.store ≡ before.cookies = ap (λ (a : AgentView). a.cookies) c.self.view_is in
    let found : agent_verdict before site now c.args.text.now ≡ Err c.in-Refused.refusal = sym c.in_ok-cookie.ensures ∙ ap verdict_result c.in-Refused.is in
    let after : c.evict.new.self ≡ (agent_after_text site now c.args.text.now before).cookies =
    c.evict.ensures ∙ ap (lasting now) cookies
    ∙ sym (ap (λ o. kept_after_verdict now o (lasting now before.cookies)) found) in
    subst (All (λ c. is_storable_by now c ≡ true)) (sym after) (text_storable before.rules site now c.args.text.now before.cookies url all)
