use Rattle.std.proofs.Common.{◌≡◌, true, ap, subst, sym, ◌∙◌}
use Rattle.std.proofs.lemmas.Result.{IfOk-weaker}
use Rattle.cookie_core.specs.CookieOf.{header_cookies}
use Rattle.cookie.specs.Originals.{HasFirst, field_cookies, with_originals}
use Rattle.cookie.proofs.FieldLemmas.{printed_cookies, readable-named}
use Rattle.cookie.proofs.OriginalLemmas.{has_first}
use Rattle.cookie.proofs.jar.CookieJar.with_originals.Goals as goal

pub returns-then-are_named_as_sent-clause-made : goal.returns-then-are_named_as_sent-clause-made
returns-then-are_named_as_sent-clause-made c =
    let header = c.args.header.now in
    let whole = readable-named header c.utf8.header (sym c.are_named_as_sent.ensures ∙ c.if-are_named_as_sent.true) in
    IfOk-weaker c.with_header.result _ _ (λ jar is. is ∙ ap (λ t. with_originals (header_cookies true t) c.args.self) (sym whole)) c.with_header.ensures

pub returns-then-are_named_as_sent-clause-first : goal.returns-then-are_named_as_sent-clause-first
returns-then-are_named_as_sent-clause-first c =
    let cookies = field_cookies c.args.header.now in
    IfOk-weaker c.with_header.result _ _ (λ jar is. subst (HasFirst cookies c.args.self) (sym is) (has_first cookies c.args.self)) (returns-then-are_named_as_sent-clause-made c)

pub returns-then-are_named_as_sent-clause-printed : goal.returns-then-are_named_as_sent-clause-printed
returns-then-are_named_as_sent-clause-printed c cookies named is = printed_cookies c.args.header.now cookies c.utf8.header named is

pub returns-else-are_named_as_sent-clause-first : goal.returns-else-are_named_as_sent-clause-first
returns-else-are_named_as_sent-clause-first c =
    let cookies = field_cookies c.args.header.now in
    IfOk-weaker c.with_pieces.result _ _ (λ jar is.
    let made : jar ≡ with_originals cookies c.args.self = is ∙ ap (λ t. with_originals (field_cookies t) c.args.self) c.as_bytes.ensures.value in
    subst (HasFirst cookies c.args.self) (sym made) (has_first cookies c.args.self)) c.with_pieces.ensures

pub returns-else-are_named_as_sent-clause-printed : goal.returns-else-are_named_as_sent-clause-printed
returns-else-are_named_as_sent-clause-printed c cookies named is = printed_cookies c.args.header.now cookies c.utf8.header named is
