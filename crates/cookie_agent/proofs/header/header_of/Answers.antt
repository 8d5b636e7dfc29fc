-- The visible cookies, in the order of the sort, are written.
use Rattle.std.proofs.Common.{map, ap, ◌∙◌}
use Rattle.std.proofs.lemmas.Result.{IfOk-weaker}
use Rattle.cookie.specs.Header.{joined_texts}
use Rattle.cookie_agent.specs.RowsCode.{held}
use Rattle.cookie_agent.specs.Sent.{sent_pair}
use Rattle.cookie_agent.specs.SentCode.{targets}
use Rattle.cookie_agent.proofs.OrderLemmas.{ordered_header}
use Rattle.cookie_agent.proofs.header.header_of.Goals as goal

pub returns : goal.returns
returns c =
    IfOk-weaker c.joined_pairs.result _ _ (λ header written.
    ordered_header c.args.site.now c.args.now (held c.args.slots.now) header.items (targets c.in_ok-sent.sent.items) (targets c.in_ok-sent-2.sent.items)
    c.in_ok-sent.ensures
    c.in_ok-sent-2.ensures
    (written ∙ ap (λ cookies. joined_texts (map sent_pair (targets cookies))) c.deref.ensures.value))
    c.joined_pairs.ensures
