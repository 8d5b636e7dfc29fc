use Rattle.std.proofs.Common.{◌≡◌, codes, [], ◌∷◌, Err, ap, sym, ◌∙◌}
use Rattle.http_header.specs.FieldValue.{plain_value}
use Rattle.http_header.specs.HeaderMap.{append}
use Rattle.http_header.specs.declared.map.HeaderMapError.TheVariants as full
use Rattle.cookie.specs.Originals.{field_cookies}
use Rattle.cookie_client.specs.Client.{header_text}
use Rattle.cookie_http.proofs.ResponseLemmas.{empty_takes, gives_memory}
use Rattle.cookie_theorems.proofs.RequestLemmas.{request_shows}
use Rattle.cookie_theorems.proofs.carrying.request_of.Goals as goal

pub returns-clause-request : goal.returns-clause-request
returns-clause-request c =
    c.in_ok-append.ensures.ok ∙ (λ i. append (c.new-request.ensures i) (codes "cookie") (c.in_ok-cookie_of_client.ensures.text i))

pub returns-clause-shows : goal.returns-clause-shows
returns-clause-shows c =
    let sent = c.in_ok-cookie_of_client in
    let client = c.args.client.now in
    let is : c.append.new.self ≡ (codes "cookie", plain_value (header_text client) ∷ []) ∷ [] =
    c.in_ok-append.ensures.ok ∙ (λ i. append (c.new-request.ensures i) (codes "cookie") (sent.ensures.text i)) in
    request_shows client c.append.new.self is
    (λ unnamed. ap (λ value. field_cookies value.bytes) (sym sent.ensures.text) ∙ sent.ensures.cookies unnamed)

pub returns-in_err-append-clause-request : goal.returns-in_err-append-clause-request
returns-in_err-append-clause-request c =
    let taken = λ (refused : c.append.result ≡ Err full.MaxSizeReached). empty_takes c.new-request.result (codes "cookie") c.new-request.ensures (c.append.ensures.full.0 refused) in
    gives_memory c.append.result c.from_residual-in_err-append.result c.in_err-append.field-0.0 _ c.in_err-append.was taken c.from_residual-in_err-append.ensures.1
