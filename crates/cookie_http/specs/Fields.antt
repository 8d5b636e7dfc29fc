-- The fields of a header map that carry cookies (RFC 6265 3, RFC 9113 8.2.3).
use Rattle.std.specs.Prelude.{ℕ, List, map, filter, codes}
use Rattle.std.specs.List.{flat_map}
use Rattle.std.specs.Str.{is_utf8}
use Rattle.http_header.specs.FieldValue.{FieldValue}
use Rattle.http_header.specs.HeaderMap.{Entries, get_all}
use Rattle.cookie.specs.Jar.{JarState, empty_jar}
use Rattle.cookie.specs.Originals.{field_cookies, with_originals}
use Rattle.cookie.specs.Record.{Record}

-- the cookies of a request's `Cookie` fields, one field after the other (RFC 9113 8.2.3)
abbrev pub request_cookies : Entries FieldValue → List Record
request_cookies m = flat_map (λ v. field_cookies v.bytes) (get_all m (codes "cookie"))

-- a new jar whose originals are these cookies
abbrev pub request_jar : Entries FieldValue → JarState
request_jar m = with_originals (request_cookies m) empty_jar

-- the texts of a response's `Set-Cookie` fields: the values that are UTF-8, in order
abbrev pub set_cookie_texts : Entries FieldValue → List (List ℕ)
set_cookie_texts m = filter is_utf8 (map (λ v. v.bytes) (get_all m (codes "set-cookie")))
