use Rattle.std.proofs.Common.{true, ap, ◌∙◌, string_bytes}
use Rattle.cookie_core.specs.CookieOf.{cookie_of}
use Rattle.cookie_core.proofs.DecodeLemmas.{AgreesInMemory-reads, no_raw_forms-decoded}
use Rattle.cookie_core.proofs.LawLemmas.{agreed-gives}
use Rattle.cookie_core.proofs.NormalFormLemmas.{cookie_of-normal_form, cookie_of-stripped}
use Rattle.cookie_core.proofs.cookie.Cookie.parse_encoded_owned.Goals as goal

pub returns-clause-value : goal.returns-clause-value
returns-clause-value c = AgreesInMemory-reads true (string_bytes c.args.text) _ c.read_encoded.ensures.reads

pub returns-clause-raw : goal.returns-clause-raw
returns-clause-raw c = no_raw_forms-decoded (string_bytes c.args.text) _ c.read_encoded.ensures.raw

pub returns-clause-normal : goal.returns-clause-normal
returns-clause-normal c r is can e =
    agreed-gives (string_bytes c.args.text) _ _ (AgreesInMemory-reads true (string_bytes c.args.text) _ c.read_encoded.ensures.reads) (ap (cookie_of true) e ∙ cookie_of-normal_form r is can)

pub returns-clause-pair : goal.returns-clause-pair
returns-clause-pair c r is e =
    agreed-gives (string_bytes c.args.text) _ _ (AgreesInMemory-reads true (string_bytes c.args.text) _ c.read_encoded.ensures.reads) (ap (cookie_of true) e ∙ cookie_of-stripped r is)
