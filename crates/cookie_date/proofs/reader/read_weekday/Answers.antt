use Rattle.std.proofs.Common.{◌≡◌, ◌+◌, ◌-◌, sym, ap, ◌∙◌, arith}
use Rattle.cookie_date.specs.Names.{weekday_text}
use Rattle.cookie_date.specs.Reader.{read_name, read_tag}
use Rattle.cookie_date.proofs.ReaderLemmas.{name-found, name-missed}
use Rattle.cookie_date.proofs.reader.read_weekday.Goals as goal

pub returns-in-Some-clause-value : goal.returns-in-Some-clause-value
returns-in-Some-clause-value c =
    let n = c.loop-weekday.weekday in
    let name = c.as_bytes.ensures.value ∙ c.weekday_name.ensures in
    let tagged = c.in-Some.ensures ∙ ap (λ t. read_tag t c.args.text.now) name in
    sym (c.loop-weekday.invariant ∙ name-found weekday_text (7 - n) (7 - (n + 1)) n _ _ (omega arith) tagged)

pub loop-weekday-preserved : goal.loop-weekday-preserved
loop-weekday-preserved c =
    let n = c.loop-weekday.weekday in
    let name = c.as_bytes.ensures.value ∙ c.weekday_name.ensures in
    let missing = c.in_default.ensures ∙ ap (λ t. read_tag t c.args.text.now) name in
    c.loop-weekday.invariant ∙ name-missed weekday_text (7 - n) (7 - (n + 1)) n _ (omega arith) missing

pub returns-clause-value : goal.returns-clause-value
unfolding read_name
returns-clause-value c =
    let all_tried : 7 - c.loop-weekday.weekday ≡ 0 = omega arith in
    sym (c.loop-weekday.invariant ∙ ap (λ left. read_name weekday_text left c.loop-weekday.weekday c.args.text.now) all_tried)
