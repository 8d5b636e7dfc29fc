-- The jar of a request: the cookies of its `Cookie` field, as originals (RFC 6265 5.4).
use Rattle.std.specs.Prelude.{◌≡◌, ℕ, ◌&&◌, Bool, true, is_some, Option, List, [], ◌∷◌, filter, if◌then◌else◌}
use Rattle.std.specs.FinMap.{get}
use Rattle.std.specs.List.{find, join_with_byte}
use Rattle.std.specs.Option.{option_or}
use Rattle.std.specs.Str.{bytes_eq, is_utf8}
use Rattle.cookie_core.specs.CookieOf.{header_cookies}
use Rattle.cookie_core.specs.Pieces.{pieces}
use Rattle.cookie_core.specs.Record.{Record}
use Rattle.cookie_core.specs.SentNames.{is_named_as_sent}
use Rattle.cookie_core.specs.Separators.{semicolon}
use Rattle.cookie.specs.Jar.{AddOriginal, JarState, Name, after, empty_jar}

-- a server reads the piece: it is UTF-8, and is read under the name that was sent
abbrev pub is_readable : List ℕ → Bool
is_readable piece = is_utf8 piece && is_named_as_sent piece

-- a `Cookie` field without its other pieces, between semicolons (RFC 6265 4.2.1)
abbrev pub readable : List ℕ → List ℕ
readable field = join_with_byte semicolon (filter is_readable (pieces field))

-- the cookies of a `Cookie` field, decoded, in order
abbrev pub field_cookies : List ℕ → List Record
field_cookies field = header_cookies true (readable field)

-- the jar with this original, if it has none of that name
abbrev pub with_original : Record → JarState → JarState
with_original cookie jar =
    if is_some (get jar.originals cookie.name) then jar else after (AddOriginal cookie) jar

-- The jar with these originals. Of several with one name the first counts, since a user agent sends the longest path
-- first (RFC 6265 5.4).
abbrev pub with_originals : List Record → JarState → JarState
with_originals [] jar = jar
with_originals (cookie ∷ cookies) jar = with_originals cookies (with_original cookie jar)

-- a new jar whose originals are the cookies of a `Cookie` field
abbrev pub jar_for : List ℕ → JarState
jar_for field = with_originals (field_cookies field) empty_jar

-- the first of the cookies that has the name
abbrev pub first_of_name : Name → List Record → Option Record
first_of_name name cookies = find (λ cookie. bytes_eq name cookie.name) cookies

-- Under each name the jar has the original that it had, or else the first of the cookies that has the name.
pub record HasFirst (cookies : List Record) (old new : JarState) : Type 0 where
  pub originals : (name : Name)
      → get new.originals name ≡ option_or (get old.originals name) (first_of_name name cookies)
  pub delta : new.delta ≡ old.delta
