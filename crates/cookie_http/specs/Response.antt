-- The `Set-Cookie` fields that a response gets of a jar's delta (RFC 6265 3, RFC 9110 5.5).
use Rattle.std.specs.Prelude.{◌≡◌, ◌<◌, ◌≤◌, ◌+◌, ◌^◌, ◌⊎◌, ◌++◌, ℕ, true, false, List, map, length, codes}
use Rattle.std.specs.FinMap.{FinMap}
use Rattle.http_header.specs.FieldValue.{FieldValue, plain_value}
use Rattle.http_header.specs.HeaderMap.{Entries, ContainsKey, append_all, value_count}
use Rattle.cookie.specs.DeltaTexts.{WalksDelta}
use Rattle.cookie.specs.Jar.{name_cmp, Marked}
use Rattle.cookie.specs.Record.{Record}
use Rattle.cookie.specs.Text.{cookie_text}
use Rattle.cookie_http.specs.Fields.{set_cookie_texts}

-- the map with a `Set-Cookie` field for each text, in order, after those that it has
abbrev pub with_set_cookies : List (List ℕ) → Entries FieldValue → Entries FieldValue
with_set_cookies texts m = append_all m (map (λ text. (codes "set-cookie", plain_value text)) texts)

-- the second map is the first with one more `Set-Cookie` field for each cookie of the delta
pub record AddsDelta (delta : FinMap name_cmp Marked) (old new : Entries FieldValue) : Type 0 where
  pub cookies : List Record
  pub are : WalksDelta delta cookies
  -- its encoded text
  pub fields : new ≡ with_set_cookies (map (cookie_text true false) cookies) old
  -- which a client reads
  pub read : set_cookie_texts new ≡ set_cookie_texts old ++ map (cookie_text true false) cookies

-- for one field or more the map has 24,576 names, and no `Set-Cookie` field; or it can't count this many more values
abbrev pub LacksRoom : ℕ → Entries FieldValue → Type 0
LacksRoom n m =
    ((0 < n) × ¬ (ContainsKey m (codes "set-cookie")) × (24576 ≤ length m))
    ⊎ (2 ^ 64 ≤ value_count m + n)

-- it has no room for the cookies of the delta
abbrev pub LacksRoomFor : FinMap name_cmp Marked → Entries FieldValue → Type 0
LacksRoomFor delta m =
    (cookies : List Record) × WalksDelta delta cookies × LacksRoom (length cookies) m
