use Rattle.std.proofs.Common.{◌≡◌, ◌+◌, ◌-◌, sym, ap, ◌∙◌, arith}
use Rattle.cookie_date.specs.Names.{month_text}
use Rattle.cookie_date.specs.Reader.{read_name, read_tag}
use Rattle.cookie_date.proofs.ReaderLemmas.{name-found, name-missed}
use Rattle.cookie_date.proofs.reader.read_month.Goals as goal

pub returns-in-Some : goal.returns-in-Some
returns-in-Some c =
    let n = c.loop-month.month in
    let name = c.as_bytes.ensures.value ∙ c.month_name.ensures in
    let tagged = c.in-Some.ensures ∙ ap (λ t. read_tag t c.args.text.now) name in
    sym (c.loop-month.invariant ∙ name-found month_text (13 - n) (13 - (n + 1)) n _ _ (omega arith) tagged)

pub loop-month-preserved : goal.loop-month-preserved
loop-month-preserved c =
    let n = c.loop-month.month in
    let name = c.as_bytes.ensures.value ∙ c.month_name.ensures in
    let missing = c.in_default.ensures ∙ ap (λ t. read_tag t c.args.text.now) name in
    c.loop-month.invariant ∙ name-missed month_text (13 - n) (13 - (n + 1)) n _ (omega arith) missing

pub returns : goal.returns
unfolding read_name
returns c =
    let all_tried : 13 - c.loop-month.month ≡ 0 = omega arith in
    sym (c.loop-month.invariant ∙ ap (λ left. read_name month_text left c.loop-month.month c.args.text.now) all_tried)
