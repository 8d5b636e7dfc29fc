use Rattle.std.proofs.Common.{IsUtf8, ap, sym, subst, ◌∙◌}
use Rattle.cookie_client.specs.Client.{after_text}
use Rattle.cookie_theorems.proofs.ReadLemmas.{read_text, unread_text}
use Rattle.cookie_theorems.proofs.client.read_value.Goals as goal

pub returns-in-Ok-read : goal.returns-in-Ok-read
returns-in-Ok-read c =
    let is = c.as_bytes.ensures.value in
    c.in-Ok-read.ensures.gives.0
    ∙ ap (λ text. after_text c.args.now text c.args.client.now) (c.in-Ok.ensures.cases.0 ∙ is)
    ∙ sym (read_text c.args.now c.args.value.now.bytes c.args.client.now (subst IsUtf8 is c.in-Ok.ensures.cases.1))

pub returns-in-Err : goal.returns-in-Err
returns-in-Err c =
    sym (unread_text c.args.now c.args.value.now.bytes c.args.client.now (λ utf8. c.in-Err.ensures.cases.0 (subst IsUtf8 (sym c.as_bytes.ensures.value) utf8)))
