use Rattle.std.proofs.Common.{ap, option_map}
use Rattle.std.specs.String.{string_bytes}
use Rattle.cookie_session.specs.OpenedText.{text_opened_at}
use Rattle.cookie_session.proofs.TokenLemmas.{read_in_memory, read_unopened}
use Rattle.cookie_session.proofs.tokens.Tokens.read.Goals as goal

pub returns-in_default : goal.returns-in_default
returns-in_default c =
    read_unopened c.args.self.now c.args.now c.args.text.now (option_map text_opened_at c.in_ok-opened.field-0) c.in_ok-opened.ensures
    (ap (option_map text_opened_at) c.in_default.is)

pub returns : goal.returns
returns c =
    let opened = c.in-Some.opened in
    read_in_memory c.args.self.now c.args.now c.args.text.now (option_map text_opened_at c.in_ok-opened.field-0) c.in_ok-opened.ensures
    opened.place (string_bytes opened.value) c.second_of.result c.as_str.result.now c.token_at.result c.second_of.ensures.value c.as_str.ensures.value
    (ap (option_map text_opened_at) c.in-Some.is) c.token_at.ensures
