-- A client that holds the values of originals.
use Rattle.std.specs.Prelude.{ℕ, true, List, [], ◌∷◌, map}
use Rattle.std.specs.FinMap.{empty, insert}
use Rattle.cookie.specs.CookieOf.{header_cookies}
use Rattle.cookie.specs.History.{after_all, originals_of}
use Rattle.cookie.specs.Jar.{AddOriginal, Change, JarState, empty_jar}
use Rattle.cookie.specs.Originals.{field_cookies}
use Rattle.cookie.specs.Record.{Record}
use Rattle.cookie_client.specs.Client.{Values}

-- a client that holds these cookies' values at their names: of several with one name the last counts
abbrev pub holding : List Record → Values → Values
holding [] values = values
holding (cookie ∷ cookies) values = holding cookies (insert values cookie.name cookie.value)

-- what a client holds that was told of the value of each name's last original
abbrev pub holds_originals : List Change → Values
holds_originals changes = holding (originals_of changes) empty

-- a client that holds these cookies' values at their names: of several with one name the first counts
abbrev pub holding_first : List Record → Values
holding_first [] = empty
holding_first (cookie ∷ cookies) = insert (holding_first cookies) cookie.name cookie.value

-- a client that holds the cookies of a `Cookie` field
abbrev pub client_for : List ℕ → Values
client_for field = holding_first (field_cookies field)

-- ---- the program's first line, of which each cookie is added as an original: of several with one name the last counts

-- the jar for the line
abbrev pub jar_of_line : List ℕ → JarState
jar_of_line line = after_all (map AddOriginal (header_cookies true line)) empty_jar

-- the client that holds its cookies
abbrev pub client_of_line : List ℕ → Values
client_of_line line = holding (header_cookies true line) empty
