use Rattle.std.proofs.Common.{◌≡◌}
use Rattle.std.specs.List.{flat_map}
use Rattle.cookie.specs.Originals.{field_cookies, with_originals}
use Rattle.cookie_http.specs.Fields.{request_cookies}
use Rattle.cookie_http.proofs.request.with_headers.Given as goal

-- the jar so far, with the cookies of the fields that are left, is the whole
abbrev pub invariant-loop-value : goal.invariant-loop-value
invariant-loop-value l =
    with_originals (flat_map (λ v. field_cookies v.bytes) l.value-iterator) l.jar ≡ with_originals (request_cookies l.headers) l.fn.jar
