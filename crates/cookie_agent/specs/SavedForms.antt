-- The forms in which stored cookies are saved: the text of a store, and the cookies of a text.
use Rattle.std.specs.Prelude.{◌≡◌, ℕ, Bool, false, not, List, [], ◌++◌, filter, map}
use Rattle.std.specs.List.{concat, list_any}
use Rattle.jiff.specs.Types.{DateTime}
use Rattle.cookie_browser.specs.Storage.{KeptView, CookieStore}
use Rattle.cookie_browser.specs.Suffixes.{Rule}
use Rattle.cookie_agent.specs.CookiesTxt as txt
use Rattle.cookie_agent.specs.JsonLines as json
use Rattle.cookie_agent.specs.Saved.{bad_lines_of, cookies_of, is_for_suffix, lines_of, saved, taken}
use Rattle.cookie_agent.specs.declared.saved.form.SavedForm.{SavedForm}
use Rattle.cookie_agent.specs.declared.saved.form.SavedForm.TheVariants as form
use Rattle.cookie_agent.specs.declared.saved.line.Line.{Line}

-- ---- what is written

-- the form can carry the cookie
abbrev pub carries : SavedForm → KeptView → Bool
carries form.CookiesTxt cookie = txt.is_carried cookie
carries form.JsonLines cookie = json.is_json_carried cookie

-- the text before the lines of the cookies
abbrev pub head_text : SavedForm → List ℕ
head_text form.CookiesTxt = txt.head_line
head_text form.JsonLines = []

-- the line of the cookie, with its line feed
abbrev pub line_text : SavedForm → KeptView → List ℕ
line_text form.CookiesTxt cookie = txt.cookie_line cookie
line_text form.JsonLines cookie = json.json_line cookie

-- the text of the persistent cookies that the form can carry
abbrev pub saved_text : SavedForm → DateTime → CookieStore → List ℕ
saved_text form now store =
    head_text form ++ concat (map (line_text form) (saved now (carries form) store))

-- ---- what is read

-- what a line holds
abbrev pub line_read : SavedForm → DateTime → List ℕ → Line
line_read form.CookiesTxt now line = txt.line_read now line
line_read form.JsonLines now line = json.json_line_read now line

-- what is taken of the lines of a text
abbrev pub lines_taken : SavedForm → List Rule → DateTime → List ℕ → List Line
lines_taken form rules now text =
    map (λ line. taken rules (line_read form now line)) (lines_of text)

-- the cookies of the text, and the numbers, from 1, of its bad lines
abbrev pub loaded_cookies : SavedForm → List Rule → DateTime → List ℕ → CookieStore
loaded_cookies form rules now text = cookies_of (lines_taken form rules now text)

abbrev pub bad_lines : SavedForm → List Rule → DateTime → List ℕ → List ℕ
bad_lines form rules now text = bad_lines_of (lines_taken form rules now text)

-- ---- what was written is read again

-- a cookie as the form carries it
abbrev pub as_carried : SavedForm → DateTime → KeptView → KeptView
as_carried form.CookiesTxt now cookie = txt.txt_cookie now cookie
as_carried form.JsonLines now cookie = json.json_cookie now cookie

-- what was written of a store at a moment is read as: its persistent cookies that the form can carry, in their order, but
-- for those that are for a public suffix
abbrev pub read_again : SavedForm → List Rule → DateTime → DateTime → CookieStore → CookieStore
read_again form rules moment now store =
    map (as_carried form now)
    (filter (λ cookie. not (is_for_suffix rules cookie)) (saved moment (carries form) store))

-- The text of a store is read so. Without a cookie for a public suffix no line is bad.
pub record IsReadAgain (form : SavedForm) (rules : List Rule) (moment now : DateTime)
    (store : CookieStore) : Type 0 where
  pub cookies : loaded_cookies form rules now (saved_text form moment store)
      ≡ read_again form rules moment now store
  pub bad_lines : list_any (is_for_suffix rules) (saved moment (carries form) store) ≡ false
      → bad_lines form rules now (saved_text form moment store) ≡ []
