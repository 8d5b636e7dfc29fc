use Rattle.std.proofs.Common.{◌≡◌, ◌<◌, Err, true, length, pos, option_map, ap, sym, w64, arith}
use Rattle.std.specs.Char.{is_ascii_digit}
use Rattle.std.specs.List.{list_all}
use Rattle.std.proofs.lemmas.Str.Parse.{parse_signed_digits}
use Rattle.cookie_core.proofs.AgeLemmas.{ascii_digits, seconds_of_digits-greatest}
use Rattle.cookie_core.proofs.attributes.seconds_of_digits.Goals as goal

pub returns-in-Err : goal.returns-in-Err
returns-in-Err c =
    let text = c.args.digits.now in
    let all : list_all is_ascii_digit text ≡ true = grind arith in
    let some : 0 < length text = grind arith in
    let past = parse_signed_digits ascii_digits w64 text (Err c.in-Err.field-0) c.in-Err.ensures.value.0 all in
    sym (ap (option_map pos) (seconds_of_digits-greatest text some all past))
