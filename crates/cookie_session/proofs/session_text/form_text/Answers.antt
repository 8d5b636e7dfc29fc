use Rattle.std.proofs.Common.{◌≡◌, false, rules, sym}
use Rattle.std.specs.List.{list_any}
use Rattle.cookie_session.specs.Form.{is_mark}
use Rattle.cookie_session.proofs.TextLemmas.{form_text-unmarked}
use Rattle.cookie_session.proofs.session_text.form_text.Goals as goal

pub returns-else-has_mark : goal.returns-else-has_mark
returns-else-has_mark c =
    let none : list_any is_mark c.args.text.now ≡ false = search rules in
    sym (form_text-unmarked c.args.text.now c.utf8.text none)
