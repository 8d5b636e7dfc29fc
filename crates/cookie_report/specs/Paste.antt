-- Which lines of a paste count.
use Rattle.std.specs.Prelude.{ℕ, ◌==◌, ◌||◌, not, Bool, true, false, List, [], map, filter, codes, drop, eqb, if◌then◌else◌}
use Rattle.std.specs.List.{list_any, slice_split, starts_with}
use Rattle.std.specs.Io.BufRead.{strip_last}
use Rattle.std.specs.Str.{bytes_eq}
use Rattle.cookie_core.specs.Wsp.{trim_wsp}
use Rattle.cookie_core.specs.SentNames.{begins_in_any_case}
use Rattle.cookie_report.specs.declared.paste.Kind.{Kind}
use Rattle.cookie_report.specs.declared.paste.Kind.TheVariants.{Blank, Field, Url, Get, Now, Text}

-- a line: what it is, and what it says
pub record LineView : Type 0 where
  pub kind : Kind
  pub text : List ℕ

-- a line without one carriage return at its end, and without spaces and tabs at the ends of the rest (RFC 9110 5.5)
abbrev pub bare : List ℕ → List ℕ
bare line = trim_wsp (strip_last 13 line)

-- without the mark that curl sets before a response's header
abbrev pub unmarked : List ℕ → List ℕ
unmarked line = if starts_with eqb line (codes "< ") then drop 2 line else line

-- a `Set-Cookie` field, in any case (RFC 9110 5.1)
unfoldable pub is_field : List ℕ → Bool
is_field line = begins_in_any_case (codes "set-cookie:") (unmarked line)

-- a word, and the address or the date that it names
unfoldable pub is_url : List ℕ → Bool
is_url line =
    starts_with eqb line (codes "URL http://") || starts_with eqb line (codes "URL https://")

unfoldable pub is_get : List ℕ → Bool
is_get line =
    starts_with eqb line (codes "GET http://") || starts_with eqb line (codes "GET https://")

unfoldable pub is_now : List ℕ → Bool
is_now line = starts_with eqb line (codes "NOW ")

-- what a bare line is
unfoldable pub kind_of : List ℕ → Kind
kind_of line =
    if bytes_eq line [] then Blank
    else if is_field line then Field
    else if is_url line then Url
    else if is_get line then Get
    else if is_now line then Now
    else Text

-- what a bare line says: the field's value, what follows the word, or all of it
abbrev pub text_of : Kind → List ℕ → List ℕ
text_of Field line = trim_wsp (drop 11 (unmarked line))
text_of Url line = trim_wsp (drop 4 line)
text_of Get line = trim_wsp (drop 4 line)
text_of Now line = trim_wsp (drop 4 line)
text_of _ line = line

abbrev pub line_of : List ℕ → LineView
line_of line =
    record { kind = kind_of (bare line); text = text_of (kind_of (bare line)) (bare line) }

-- the lines of a paste
abbrev pub all_lines : List ℕ → List LineView
all_lines paste = map line_of (slice_split (λ byte. byte == 10) paste)

abbrev pub is_field_kind : Kind → Bool
is_field_kind Field = true
is_field_kind _ = false

abbrev pub is_field_line : LineView → Bool
is_field_line line = is_field_kind line.kind

-- whether a line counts, in a paste with fields or without
abbrev pub counts_kind : Bool → Kind → Bool
counts_kind has_fields Blank = false
counts_kind has_fields Text = not has_fields
counts_kind has_fields _ = true

abbrev pub counts : Bool → LineView → Bool
counts has_fields line = counts_kind has_fields line.kind

-- the lines that count: fields and the program's own lines; without fields each line that isn't blank
abbrev pub counted_lines : List ℕ → List LineView
counted_lines paste =
    filter (counts (list_any is_field_line (all_lines paste))) (all_lines paste)
