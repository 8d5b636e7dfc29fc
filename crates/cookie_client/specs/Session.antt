-- What the program writes for a moment and the bytes of its input, or its first fault.
--
-- Line 1 of the input is the value of a `Cookie` header: its cookies are the jar's originals, and what the
-- client holds at first. Each later line that isn't empty is a call: `add`, one space and the text of a
-- `Set-Cookie` header; `remove` or `force`, one space and a name; or `reset`.
use Rattle.std.specs.Prelude.{ℕ, ◌+◌, pos, int_lt, true, false, List, [], ◌∷◌, ◌++◌, map, drop, option_and_then, option_map, Option, Some, None, Result, Ok, Err, codes, eqb, if◌then◌else◌}
use Rattle.std.specs.FinMap.{entries}
use Rattle.std.specs.List.{starts_with}
use Rattle.std.specs.Result.{result_map_both}
use Rattle.std.specs.Str.{trim, is_utf8, bytes_eq}
use Rattle.jiff.specs.Types.{DateTime}
use Rattle.cookie.specs.CookieOf.{cookie_of}
use Rattle.cookie.specs.History.{after_all}
use Rattle.cookie.specs.Jar.{JarState, Change, Add, Remove, ForceRemove, ResetDelta}
use Rattle.cookie.specs.Moments.{date_of}
use Rattle.cookie.specs.Record.{plain}
use Rattle.cookie.specs.Text.{cookie_text}
use Rattle.cookie_client.specs.Client.{Values, after_texts, header_text}
use Rattle.cookie_client.specs.Lines.{lines_of}
use Rattle.cookie_client.specs.Originals.{client_of_line, jar_of_line}

-- why a session has no text; lines are counted from 1
pub data Fault : Type 0 where
  BadMoment : Fault
  BadInput : Fault
  BadLine : ℕ → Fault

-- the removal of a name that isn't empty
abbrev pub removal_of : DateTime → List ℕ → Option Change
removal_of now [] = None
removal_of now (c ∷ cs) = Some (Remove (plain (c ∷ cs) []) now)

-- the forced removal of a name that isn't empty
abbrev pub forced_removal_of : List ℕ → Option Change
forced_removal_of [] = None
forced_removal_of (c ∷ cs) = Some (ForceRemove (c ∷ cs))

-- the call that discards cookies without telling the client: `force` of a name, or `reset`
abbrev pub discarding_of : List ℕ → Option Change
discarding_of line =
    if starts_with eqb line (codes "force ") then forced_removal_of (trim (drop 6 line))
    else if bytes_eq line (codes "reset") then Some ResetDelta
    else None

-- the call that a line asks for: `add` of a text that is read as a cookie, `remove` or `force` of a name, or `reset`
abbrev pub call_of : DateTime → List ℕ → Option Change
call_of now line =
    if starts_with eqb line (codes "add ") then option_map Add (cookie_of true (drop 4 line))
    else if starts_with eqb line (codes "remove ") then removal_of now (trim (drop 7 line))
    else discarding_of line

-- the changes that the lines ask for, of which the first line is number n, or the first bad line; an empty line asks
-- for none
abbrev pub changes_in : DateTime → ℕ → List (List ℕ) → Result (List Change) Fault
changes_in now n [] = Ok []
changes_in now n ([] ∷ lines) = changes_in now (n + 1) lines
changes_in now n ((c ∷ cs) ∷ lines) =
    elim (call_of now (c ∷ cs)) as (λ _. Result (List Change) Fault) [
      | None ↦ Err (BadLine n)
      | Some change ↦ result_map_both (λ changes. change ∷ changes) (λ fault. fault)
          (changes_in now (n + 1) lines)
    ]

-- the first line, if there is one
abbrev pub header_line : List (List ℕ) → List ℕ
header_line [] = []
header_line (header ∷ lines) = header

-- the texts of the delta's cookies, in byte order of the names
abbrev pub delta_texts : JarState → List (List ℕ)
delta_texts jar = map (λ e. cookie_text true false e.1.cookie) (entries jar.delta)

-- a line for each text
abbrev pub set_cookie_lines : List (List ℕ) → List ℕ
set_cookie_lines [] = []
set_cookie_lines (text ∷ texts) =
    codes "Set-Cookie: " ++ (text ++ (codes "\n" ++ set_cookie_lines texts))

-- the line of the client's header
abbrev pub cookie_line : Values → List ℕ
cookie_line values = codes "Cookie: " ++ (header_text values ++ codes "\n")

-- what is written of a jar, and of a client that reads its delta at the moment
abbrev pub session_text : DateTime → Values → JarState → List ℕ
session_text now values jar =
    set_cookie_lines (delta_texts jar) ++ cookie_line (after_texts now (delta_texts jar) values)

-- the session of lines: the first is the header, and the others ask for changes of its jar
abbrev pub session_of_lines : DateTime → List (List ℕ) → Result (List ℕ) Fault
session_of_lines now lines =
    result_map_both
    (λ changes. session_text now (client_of_line (header_line lines))
    (after_all changes (jar_of_line (header_line lines))))
    (λ fault. fault)
    (changes_in now 2 (drop 1 lines))

-- the session of bytes at a moment, if they are UTF-8
abbrev pub session_of_bytes : DateTime → List ℕ → Result (List ℕ) Fault
session_of_bytes now bytes =
    if is_utf8 bytes then session_of_lines now (lines_of bytes) else Err BadInput

-- the moment that a text stands for, of the year 100 or later
abbrev pub moment_of : List ℕ → Option DateTime
moment_of text =
    option_and_then (λ moment. if int_lt moment.date.year (pos 100) then None else Some moment)
    (date_of text)

-- the session of a moment's text and the bytes of the input
abbrev pub session : List ℕ → List ℕ → Result (List ℕ) Fault
session moment bytes =
    elim (moment_of moment) as (λ _. Result (List ℕ) Fault) [
      | None ↦ Err BadMoment
      | Some now ↦ session_of_bytes now bytes
    ]
