-- Mirrors private code: what the small printers write.
use Rattle.std.specs.Prelude.{ℕ, List, [], ◌++◌, Option, Some, None}
use Rattle.cookie_date.specs.Text.{moment_text}
use Rattle.cookie_date.specs.declared.text.DateText.{DateText}

-- what a label and a value print, where the value's text is known
abbrev pub labelled_output : List ℕ → Option (Option (List ℕ)) → Option (List ℕ)
labelled_output label None = Some []
labelled_output label (Some None) = None
labelled_output label (Some (Some text)) = Some (label ++ text)

-- the text of a date-time of an expiry
abbrev pub moment_text_of : DateText → List ℕ
moment_text_of date = moment_text date.0
