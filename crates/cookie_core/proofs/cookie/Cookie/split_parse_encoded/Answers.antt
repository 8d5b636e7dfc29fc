use Rattle.std.proofs.Common.{true, map, ap, ◌∙◌}
use Rattle.cookie_core.specs.CookieOf.{cookie_of}
use Rattle.cookie_core.proofs.LawLemmas.{joined-read}
use Rattle.cookie_core.proofs.cookie.Cookie.split_parse_encoded.Goals as goal

pub returns-clause-joined : goal.returns-clause-joined
returns-clause-joined c rs h e =
    ap (λ s. map (cookie_of true) s.texts) c.over.ensures.value ∙ joined-read c.args.text.now rs h e
