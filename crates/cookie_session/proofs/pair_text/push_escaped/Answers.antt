use Rattle.std.proofs.Common.{◌≡◌, ◌++◌, List, ℕ, false, rules, string_bytes, subst, sym}
use Rattle.std.specs.List.{list_any}
use Rattle.std.specs.Prelude.{OnOk}
use Rattle.cookie_session.specs.Form.{is_mark}
use Rattle.cookie_session.proofs.MarkLemmas.{escape_marks_unmarked}
use Rattle.cookie_session.proofs.pair_text.push_escaped.Goals as goal

pub returns-else-has_mark : goal.returns-else-has_mark
returns-else-has_mark c =
    let none : list_any is_mark c.args.text.now ≡ false = search rules in
    subst (λ (t : List ℕ). OnOk c.push_str.result (string_bytes c.push_str.new.self ≡ string_bytes c.args.form.now ++ t))
    (sym (escape_marks_unmarked c.args.text.now none)) (search rules)
