-- A request that has one `Cookie` field: the client's.
use Rattle.std.proofs.Common.{◌≡◌, codes, [], ◌∷◌, map, None, option_map, refl, ap, ◌∙◌}
use Rattle.std.proofs.lemmas.List.{append-nil}
use Rattle.std.specs.FinMap.{entries, get}
use Rattle.http_header.specs.FieldValue.{FieldValue, plain_value}
use Rattle.http_header.specs.HeaderMap.{Entries}
use Rattle.cookie.specs.Jar.{JarState, Name, empty_jar, view}
use Rattle.cookie.specs.Originals.{field_cookies, jar_for, with_originals}
use Rattle.cookie.specs.Record.{plain}
use Rattle.cookie_client.specs.Client.{Values, header_text}
use Rattle.cookie_client.proofs.RoundLemmas.{shows_held, told}
use Rattle.cookie_http.specs.Fields.{request_jar}

-- its jar is that of the client's header
one_field : (client : Values) → request_jar ((codes "cookie", plain_value (header_text client) ∷ []) ∷ []) ≡ jar_for (header_text client)
one_field client = ap (λ cookies. with_originals cookies empty_jar) (append-nil (field_cookies (header_text client)))

-- the jar of that request shows what the client holds
pub request_shows : (client : Values) (request : Entries FieldValue) → request ≡ (codes "cookie", plain_value (header_text client) ∷ []) ∷ []
    → (get client [] ≡ None → field_cookies (header_text client) ≡ map (λ pair. plain pair.0 pair.1) (entries client))
    → get client [] ≡ None → (name : Name) → view (request_jar request) name ≡ option_map (plain name) (get client name)
request_shows client request is read unnamed name =
    ap (λ (m : Entries FieldValue). view (request_jar m) name) is ∙ ap (λ (j : JarState). view j name) (one_field client)
    ∙ shows_held client (header_text client) (told client (header_text client) unnamed refl read) name
