use Rattle.std.proofs.Common.{true, map, ap, ◌∙◌, string_bytes}
use Rattle.cookie_core.specs.CookieOf.{cookie_of}
use Rattle.cookie_core.proofs.LawLemmas.{joined-read}
use Rattle.cookie_core.proofs.cookie.Cookie.split_parse_encoded_owned.Goals as goal

pub returns-clause-texts : goal.returns-clause-texts
returns-clause-texts c = rw c.shared.ensures.bytes at c.over.ensures.texts

pub returns-clause-value : goal.returns-clause-value
returns-clause-value c = rw (c.shared.ensures.bytes, c.shared.ensures.decoded, c.shared.ensures.owned) at c.over.ensures.value

pub returns-clause-count : goal.returns-clause-count
returns-clause-count c = rw c.shared.ensures.bytes at c.over.ensures.count

pub returns-clause-joined : goal.returns-clause-joined
returns-clause-joined c rs h e =
    ap (λ s. map (cookie_of true) s.texts) (rw c.shared.ensures.bytes at c.over.ensures.value) ∙ joined-read (string_bytes c.args.text) rs h e
