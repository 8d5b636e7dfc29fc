-- The visible cookies, in the order of the sort, are written.
use Rattle.std.proofs.Common.{map, ap, ◌∙◌}
use Rattle.std.proofs.lemmas.Result.{IfOk-weaker}
use Rattle.cookie.specs.Header.{joined_texts}
use Rattle.cookie_agent.specs.Beyond.{BrowserAgentView, visible_beyond}
use Rattle.cookie_agent.specs.Sent.{sent_pair}
use Rattle.cookie_agent.specs.SentCode.{targets}
use Rattle.cookie_agent.proofs.BeyondLemmas.{header_of, sends_standard}
use Rattle.cookie_agent.proofs.browser_agent.BrowserAgent.header.Goals as goal

pub returns-clause-value : goal.returns-clause-value
returns-clause-value c =
    IfOk-weaker c.joined_pairs.result _ _ (λ header written.
    header_of (visible_beyond c.args.self.now.choices c.args.site.now c.args.top.now c.args.now c.args.self.now.cookies) header.items
    (targets c.in_ok-sent.sent.items) (targets c.in_ok-sent-2.sent.items)
    (c.in_ok-sent.ensures
    ∙ ap (λ l. visible_beyond c.self.inside.choices c.args.site.now c.args.top.now c.args.now l) c.deref.ensures.value
    ∙ ap (λ (a : BrowserAgentView). visible_beyond a.choices c.args.site.now c.args.top.now c.args.now a.cookies) c.self.view_is)
    c.in_ok-sent-2.ensures
    (written ∙ ap (λ cookies. joined_texts (map sent_pair (targets cookies))) c.deref-2.ensures.value))
    c.joined_pairs.ensures

pub returns-clause-standard : goal.returns-clause-standard
returns-clause-standard c = sends_standard

pub returns-in_err-sent-clause-standard : goal.returns-in_err-sent-clause-standard
returns-in_err-sent-clause-standard c = sends_standard

pub returns-in_err-sent-2-clause-standard : goal.returns-in_err-sent-2-clause-standard
returns-in_err-sent-2-clause-standard c = sends_standard
