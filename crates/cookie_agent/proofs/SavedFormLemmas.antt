-- What a form wrote is read again, and its lines are those of the text.
use Rattle.std.proofs.Common.{◌≡◌, ◌==◌, ℕ, Bor, true, List, [], ◌∷◌, map, refl, ap, ◌∙◌}
use Rattle.std.specs.List.{list_all, slice_split}
use Rattle.std.specs.Str.Lines.{strip_carriage_return}
use Rattle.jiff.specs.Types.{DateTime}
use Rattle.cookie_browser.specs.Storage.{CookieStore}
use Rattle.cookie_browser.specs.Suffixes.{Rule}
use Rattle.cookie_agent.specs.CookiesTxt.{txt_cookie}
use Rattle.cookie_agent.specs.JsonLines.{has_bytes, json_cookie}
use Rattle.cookie_agent.specs.Saved.{bad_lines_of, cookies_of, lines_of, saved, taken}
use Rattle.cookie_agent.specs.SavedForms.{IsReadAgain, carries, line_read, lines_taken, saved_text}
use Rattle.cookie_agent.specs.SavedFormsCode.{lines_taken_of}
use Rattle.cookie_agent.specs.declared.saved.form.SavedForm.{SavedForm}
use Rattle.cookie_agent.specs.declared.saved.form.SavedForm.TheVariants as form
use Rattle.cookie_agent.specs.declared.saved.line.Line.TheVariants as line
use Rattle.cookie_agent.proofs.CookiesTxtLemmas as txt
use Rattle.cookie_agent.proofs.JsonReadLemmas as json
use Rattle.cookie_agent.proofs.SavedLemmas.{lines_for, none_bad, taken_cookies}

module _ (form : SavedForm) (rules : List Rule) (now : DateTime) where
  -- the lines of the code are those of the text

  taken_of-is : (lines : List (Bor (List ℕ)))
      → lines_taken_of form rules now lines ≡ map (λ l. taken rules (line_read form now l)) (map strip_carriage_return (map (λ l. l.now) lines))
  taken_of-is [] = refl
  taken_of-is (l ∷ ls) = ap (λ xs. taken rules (line_read form now (strip_carriage_return l.now)) ∷ xs) (taken_of-is ls)

  pub lines_of_text : (lines : List (Bor (List ℕ))) (text : List ℕ) → map (λ l. l.now) lines ≡ slice_split (λ b. b == 10) text
      → lines_taken_of form rules now lines ≡ lines_taken form rules now text
  lines_of_text lines text h = taken_of-is lines ∙ ap (λ ts. map (λ l. taken rules (line_read form now l)) (map strip_carriage_return ts)) h

  -- each line is read, and then taken

  taken_each : (lines : List (List ℕ)) → map (λ l. taken rules (line_read form now l)) lines ≡ map (taken rules) (map (line_read form now) lines)
  taken_each [] = refl
  taken_each (l ∷ ls) = ap (λ xs. taken rules (line_read form now l) ∷ xs) (taken_each ls)

  pub taken_lines : (text : List ℕ) → lines_taken form rules now text ≡ map (taken rules) (map (line_read form now) (lines_of text))
  taken_lines text = taken_each (lines_of text)

pub txt_again : (rules : List Rule) (moment now : DateTime) (store : CookieStore) → IsReadAgain form.CookiesTxt rules moment now store
txt_again rules moment now store =
    let kept = saved moment (carries form.CookiesTxt) store in
    let lines : lines_taken form.CookiesTxt rules now (saved_text form.CookiesTxt moment store) ≡ line.Other ∷ map (taken rules) (lines_for (txt_cookie now) kept)
    = taken_lines form.CookiesTxt rules now (saved_text form.CookiesTxt moment store) ∙ ap (map (taken rules)) (txt.read_text moment now store) in
    record {
      cookies = ap cookies_of lines ∙ taken_cookies rules (txt_cookie now) (λ c. refl) kept;
      bad_lines = λ none. ap bad_lines_of lines ∙ none_bad rules (txt_cookie now) (λ c. refl) 2 kept none;
    }

pub json_again : (rules : List Rule) (moment now : DateTime) (store : CookieStore) → list_all has_bytes store ≡ true → IsReadAgain form.JsonLines rules moment now store
json_again rules moment now store bytes =
    let kept = saved moment (carries form.JsonLines) store in
    let lines : lines_taken form.JsonLines rules now (saved_text form.JsonLines moment store) ≡ map (taken rules) (lines_for (json_cookie now) kept)
    = taken_lines form.JsonLines rules now (saved_text form.JsonLines moment store) ∙ ap (map (taken rules)) (json.read_text moment now store bytes) in
    record {
      cookies = ap cookies_of lines ∙ taken_cookies rules (json_cookie now) (λ c. refl) kept;
      bad_lines = λ none. ap bad_lines_of lines ∙ none_bad rules (json_cookie now) (λ c. refl) 1 kept none;
    }
