-- Mirrors private code: parts of a saved text, as the code writes and reads them.
use Rattle.std.specs.Prelude.{ℕ, ◌&&◌, not, List, [], map, if◌then◌else◌}
use denote.Ref.{Bor}
use Rattle.std.specs.List.{concat}
use Rattle.std.specs.Str.Lines.{strip_carriage_return}
use Rattle.jiff.specs.Types.{DateTime}
use Rattle.cookie_browser.specs.Storage.{KeptView, CookieStore}
use Rattle.cookie_browser.specs.Suffixes.{Rule}
use Rattle.cookie_agent.specs.Saved.{is_persistent, places_of, saved, taken}
use Rattle.cookie_agent.specs.SavedForms.{carries, line_read, line_text}
use Rattle.cookie_agent.specs.declared.saved.form.SavedForm.{SavedForm}
use Rattle.cookie_agent.specs.declared.saved.line.Line.{Line}

-- what is written of a cookie: its line, if the form can carry it
abbrev pub carried_text : SavedForm → KeptView → List ℕ
carried_text form cookie = if carries form cookie then line_text form cookie else []

-- the lines of the persistent cookies that the form can carry
abbrev pub lines_text : SavedForm → DateTime → CookieStore → List ℕ
lines_text form now store = concat (map (line_text form) (saved now (carries form) store))

-- the places, from the given one, of those that it can't carry
abbrev pub left_out_from : SavedForm → ℕ → DateTime → CookieStore → List ℕ
left_out_from form place now store =
    places_of (λ cookie. is_persistent now cookie && not (carries form cookie)) place store

-- what is taken of the lines
abbrev pub lines_taken_of : SavedForm → List Rule → DateTime → List (Bor (List ℕ)) → List Line
lines_taken_of form rules now lines =
    map (λ l. taken rules (line_read form now (strip_carriage_return l.now))) lines
