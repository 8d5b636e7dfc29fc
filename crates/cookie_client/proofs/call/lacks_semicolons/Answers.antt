use Rattle.std.proofs.Common.{arith}
use Rattle.std.proofs.lemmas.Str.Pattern.{contains_char}
use Rattle.cookie_client.proofs.CallLemmas.{tested}
use Rattle.cookie_client.proofs.call.lacks_semicolons.Goals as goal

pub returns-in-Some : goal.returns-in-Some
returns-in-Some c =
    let found = contains_char 59 c.in-Some.text.now c.contains.result c.contains.ensures.cases (omega arith) in
    rw c.in-Some.is (tested c.in-Some.text.now c.contains.result found.0 found.1)
