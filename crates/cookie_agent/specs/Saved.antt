-- Stored cookies in a text of lines: which are saved, and which are loaded.
use Rattle.std.specs.Prelude.{ℕ, ◌+◌, ◌==◌, ◌&&◌, not, Bool, true, false, List, [], ◌∷◌, filter, is_some, map, if◌then◌else◌}
use Rattle.std.specs.List.{list_all, slice_split}
use Rattle.std.specs.Str.Lines.{strip_carriage_return}
use Rattle.jiff.specs.Types.{DateTime}
use Rattle.cookie_browser.specs.Storage.{KeptView, CookieStore, lasts}
use Rattle.cookie_browser.specs.Suffixes.{Rule, is_public_suffix}
use Rattle.cookie_agent.specs.declared.saved.line.Line.{Line}
use Rattle.cookie_agent.specs.declared.saved.line.Line.TheVariants as line

-- a persistent cookie that isn't expired
abbrev pub is_persistent : DateTime → KeptView → Bool
is_persistent now cookie = is_some cookie.expiry && lasts cookie.expiry now

-- the persistent cookies that a form can carry, in their order
abbrev pub saved : DateTime → (KeptView → Bool) → CookieStore → CookieStore
saved now is_carried store =
    filter (λ cookie. is_persistent now cookie && is_carried cookie) store

-- the places, from the given one, of the elements that pass the test
abbrev pub places_of : {X : Type 0} → (X → Bool) → ℕ → List X → List ℕ
places_of test place [] = []
places_of test place (x ∷ xs) =
    if test x then place ∷ places_of test (place + 1) xs else places_of test (place + 1) xs

-- the places, from 0, of the persistent cookies that a form can't carry
abbrev pub left_out : DateTime → (KeptView → Bool) → CookieStore → List ℕ
left_out now is_carried store =
    places_of (λ cookie. is_persistent now cookie && not (is_carried cookie)) 0 store

-- the lines: the texts between line feeds, each without one carriage return at its end
abbrev pub lines_of : List ℕ → List (List ℕ)
lines_of text = map strip_carriage_return (slice_split (λ byte. byte == 10) text)

-- no IPv6 address, which alone of hosts has a `:`
abbrev pub is_name : List ℕ → Bool
is_name domain = list_all (λ byte. not (byte == 58)) domain

-- The cookie is for a public suffix and the hosts below it. No user agent stores such a one: it refuses it, or it stores
-- it for the host alone (RFC 6265bis, Storage Model, the step on public suffixes).
abbrev pub is_for_suffix : List Rule → KeptView → Bool
is_for_suffix rules cookie =
    not cookie.is_host_only && (is_name cookie.domain && is_public_suffix rules cookie.domain)

-- what is taken of a line: a cookie for a public suffix makes it bad
abbrev pub taken : List Rule → Line → Line
taken rules (line.Cookie cookie) =
    if is_for_suffix rules cookie then line.Bad else line.Cookie cookie
taken rules line.Other = line.Other
taken rules line.Bad = line.Bad

-- the cookies of the lines that hold one, in their order
abbrev pub cookies_of : List Line → CookieStore
cookies_of [] = []
cookies_of (line.Cookie cookie ∷ lines) = cookie ∷ cookies_of lines
cookies_of (line.Other ∷ lines) = cookies_of lines
cookies_of (line.Bad ∷ lines) = cookies_of lines

abbrev pub is_bad : Line → Bool
is_bad line.Bad = true
is_bad _ = false

-- the numbers, from 1, of the bad lines
abbrev pub bad_lines_of : List Line → List ℕ
bad_lines_of lines = places_of is_bad 1 lines
