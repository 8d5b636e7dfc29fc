use Rattle.std.proofs.Common.{◌≡◌, ℕ, List, ap, ◌∙◌, string_bytes}
use Rattle.cookie.specs.Jar.{JarState, view}
use Rattle.cookie.specs.Originals.{field_cookies, jar_for, with_originals}
use Rattle.cookie_client.proofs.RoundLemmas.{shows_held, told}
use Rattle.cookie_client.proofs.client.Client.next_jar.Goals as goal

pub returns-clause-shows : goal.returns-clause-shows
returns-clause-shows c unnamed name =
    let header : List ℕ = string_bytes c.in_ok-header.header in
    let made : c.in_ok-jar.jar ≡ jar_for header =
    c.in_ok-jar.ensures.made ∙ ap (λ h. with_originals (field_cookies h) c.new.result) c.as_str.ensures.value
    ∙ ap (with_originals (field_cookies header)) c.new.ensures.empty in
    ap (λ (j : JarState). view j name) made
    ∙ shows_held c.args.self.now header (told c.args.self.now header unnamed c.in_ok-header.ensures.text c.in_ok-header.ensures.cookies) name
