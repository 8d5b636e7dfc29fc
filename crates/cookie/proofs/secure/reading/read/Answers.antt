use Rattle.std.proofs.Common.{ap}
use Rattle.std.specs.Option.{option_map}
use Rattle.std.specs.String.{string_bytes}
use Rattle.cookie.proofs.AnswerLemmas.{answered_read}
use Rattle.cookie.proofs.secure.reading.read.Goals as goal

pub returns-clause-answers : goal.returns-clause-answers
returns-clause-answers g c =
    answered_read (g.R.Reading.StandsFor c.args.reader.now) c.name.result.now c.value.result.now c.args.cookie.fields c.set_value_owned.new.self.fields _
    (string_bytes c.in-Some.value) c.name.ensures c.value.ensures (ap (option_map string_bytes) c.in-Some.is) c.set_value_owned.ensures.fields
    c.in_ok-value.ensures
