use Rattle.std.proofs.Common.{◌≡◌, map}
use Rattle.std.specs.List.{filter}
use Rattle.std.specs.Str.{is_utf8}
use Rattle.cookie_client.specs.Client.{after_texts}
use Rattle.cookie_http.specs.Fields.{set_cookie_texts}
use Rattle.cookie_theorems.proofs.client.read_response.Given as goal

-- the client so far, once it has read the fields that are left, has read all
abbrev pub invariant-loop-value : goal.invariant-loop-value
invariant-loop-value l =
    after_texts l.now (filter is_utf8 (map (λ v. v.bytes) l.value-iterator)) l.reading ≡ after_texts l.now (set_cookie_texts l.headers) l.client
