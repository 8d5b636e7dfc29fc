use Rattle.std.proofs.Common.{true, ap, ◌∙◌}
use Rattle.cookie_core.specs.CookieOf.{cookie_of}
use Rattle.cookie_core.proofs.CookieOfLemmas.{cookie_of-Reads}
use Rattle.cookie_core.proofs.DecodeLemmas.{AgreesInMemory-reads, LendsDecoded-raw}
use Rattle.cookie_core.proofs.LawLemmas.{agreed-gives}
use Rattle.cookie_core.proofs.NormalFormLemmas.{cookie_of-normal_form, cookie_of-stripped}
use Rattle.cookie_core.proofs.NormalLemmas.{normal_form-second, normal_form-third}
use Rattle.cookie_core.proofs.cookie.Cookie.parse_encoded.Goals as goal

pub returns-clause-value : goal.returns-clause-value
returns-clause-value c = AgreesInMemory-reads true c.args.text.now _ c.read_encoded.ensures.reads

pub returns-clause-raw : goal.returns-clause-raw
returns-clause-raw c = LendsDecoded-raw c.args.text.now _ c.read_encoded.ensures.raw

pub returns-clause-normal : goal.returns-clause-normal
returns-clause-normal c r is can e =
    agreed-gives c.args.text.now _ _ (AgreesInMemory-reads true c.args.text.now _ c.read_encoded.ensures.reads) (ap (cookie_of true) e ∙ cookie_of-normal_form r is can)

pub returns-clause-pair : goal.returns-clause-pair
returns-clause-pair c r is e =
    agreed-gives c.args.text.now _ _ (AgreesInMemory-reads true c.args.text.now _ c.read_encoded.ensures.reads) (ap (cookie_of true) e ∙ cookie_of-stripped r is)

pub returns-clause-settled : goal.returns-clause-settled
returns-clause-settled c = normal_form-third

pub returns-clause-settled_at_once : goal.returns-clause-settled_at_once
returns-clause-settled_at_once c = normal_form-second

pub returns-clause-agrees : goal.returns-clause-agrees
returns-clause-agrees c = cookie_of-Reads true c.args.text.now
