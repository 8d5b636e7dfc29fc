-- A client as one finite map from names to values, and what it makes of a cookie's text (RFC 6265 5.3, 5.4).
use Rattle.std.specs.Prelude.{◌≡◌, ℕ, true, List, [], ◌∷◌, map, Option, Some, None, if◌then◌else◌}
use Rattle.std.specs.FinMap.{FinMap, insert, remove, entries}
use Rattle.jiff.specs.Types.{DateTime}
use Rattle.cookie.specs.Jar.{Name, name_cmp}
use Rattle.cookie.specs.CookieOf.{cookie_of}
use Rattle.cookie.specs.Header.{header_texts, joined_texts}
use Rattle.cookie.specs.Record.{Record, plain}
use Rattle.cookie.specs.Text.{cookie_text}
use Rattle.cookie_client.specs.Live.{is_live}

-- names and their values
abbrev pub Values : Type 0
Values = FinMap name_cmp (List ℕ)

-- the client after a cookie: one that is live sets its name to its value, and another drops its name
abbrev pub after_cookie : DateTime → Option Record → Values → Values
after_cookie now None values = values
after_cookie now (Some cookie) values =
    if is_live cookie now then insert values cookie.name cookie.value else remove values cookie.name

-- the client after a text: one that is no cookie changes nothing
abbrev pub after_text : DateTime → List ℕ → Values → Values
after_text now text values = after_cookie now (cookie_of true text) values

-- the client after texts, the first one first
abbrev pub after_texts : DateTime → List (List ℕ) → Values → Values
after_texts now [] values = values
after_texts now (text ∷ texts) values = after_texts now texts (after_text now text values)

-- a name and a value, as a cookie without attributes is printed, escaped
abbrev pub pair_text : Name × List ℕ → List ℕ
pair_text pair = cookie_text true true (plain pair.0 pair.1)

-- the value of the client's `Cookie` header: its names and values, in byte order of the names
abbrev pub header_text : Values → List ℕ
header_text values = joined_texts (map pair_text (entries values))

-- this header is read as just these names and values, in order, none refused
abbrev pub ReadsBack : Values → Type 0
ReadsBack values =
    map (cookie_of true) (header_texts (header_text values))
    ≡ map (λ pair. Some (plain pair.0 pair.1)) (entries values)
