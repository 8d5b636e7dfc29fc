-- What a jar's changes come to over header maps: the response, and the client's next request.
use Rattle.std.specs.Prelude.{◌≡◌, [], ◌∷◌, codes}
use Rattle.std.specs.FinMap.{FinMap}
use Rattle.jiff.specs.Types.{DateTime}
use Rattle.http_header.specs.FieldValue.{plain_value}
use Rattle.cookie.specs.Jar.{Marked, name_cmp}
use Rattle.cookie_client.specs.Client.{Values, after_texts, header_text}
use Rattle.cookie_http.specs.Fields.{request_jar, set_cookie_texts}
use Rattle.cookie_http.specs.Response.{AddsDelta}
use Rattle.cookie_theorems.specs.declared.carried.Carried.{Carried}

-- The delta goes out in a response, the client reads it, and its next request comes in.
pub record CarriesDelta (now : DateTime) (delta : FinMap name_cmp Marked) (before client : Values)
    (carried : Carried) : Type 0 where
  -- the response has one `Set-Cookie` field for each cookie of the delta, and no other field
  pub response : AddsDelta delta [] carried.response
  -- the client is the one before that read these fields
  pub reads : client ≡ after_texts now (set_cookie_texts carried.response) before
  -- its next request has the one field `Cookie`
  pub request : carried.request ≡ (codes "cookie", plain_value (header_text client) ∷ []) ∷ []
  -- the jar of that request is that of its fields
  pub arrived : carried.next ≡ request_jar carried.request
