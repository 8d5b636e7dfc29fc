use Rattle.std.proofs.Common.{ℕ, Bor, List, ap, map, ◌∙◌}
use Rattle.std.proofs.lemmas.Result.{IfOk-weaker}
use Rattle.std.specs.List.{list_all}
use Rattle.cookie_agent.specs.Saved.{bad_lines_of, cookies_of}
use Rattle.cookie_agent.specs.Storable.{is_storable_by}
use Rattle.cookie_agent.proofs.LoadedLemmas.{loaded_are_storable}
use Rattle.cookie_agent.proofs.SavedFormLemmas.{json_again, lines_of_text, txt_again}
use Rattle.cookie_agent.proofs.saved.form.SavedForm.read.Goals as goal

pub returns-clause-cookies : goal.returns-clause-cookies
returns-clause-cookies c =
    IfOk-weaker c.read_all.result _ _
    (λ loaded h. h ∙ ap cookies_of (lines_of_text c.args.self c.args.suffixes.now c.args.now c.deref.result.now c.args.text.now (ap (map (λ (l : Bor (List ℕ)). l.now)) c.deref.ensures.value ∙ c.in_ok-lines.ensures)))
    c.read_all.ensures.cookies

pub returns-clause-bad_lines : goal.returns-clause-bad_lines
returns-clause-bad_lines c =
    IfOk-weaker c.read_all.result _ _
    (λ loaded h. h ∙ ap bad_lines_of (lines_of_text c.args.self c.args.suffixes.now c.args.now c.deref.result.now c.args.text.now (ap (map (λ (l : Bor (List ℕ)). l.now)) c.deref.ensures.value ∙ c.in_ok-lines.ensures)))
    c.read_all.ensures.bad_lines

pub returns-clause-storable : goal.returns-clause-storable
returns-clause-storable c =
    let suffixes = c.args.suffixes.now in
    let now = c.args.now in
    IfOk-weaker c.read_all.result _ _
    (λ loaded h. ap (list_all (is_storable_by now)) (h ∙ ap cookies_of (lines_of_text c.args.self suffixes now c.deref.result.now c.args.text.now (ap (map (λ (l : Bor (List ℕ)). l.now)) c.deref.ensures.value ∙ c.in_ok-lines.ensures)))
    ∙ loaded_are_storable now suffixes c.args.self c.args.text.now)
    c.read_all.ensures.cookies

pub returns-clause-txt_again : goal.returns-clause-txt_again
returns-clause-txt_again c moment store = txt_again c.args.suffixes.now moment c.args.now store

pub returns-clause-json_again : goal.returns-clause-json_again
returns-clause-json_again c moment store = json_again c.args.suffixes.now moment c.args.now store

pub returns-in_err-lines-clause-txt_again : goal.returns-in_err-lines-clause-txt_again
returns-in_err-lines-clause-txt_again c moment store = txt_again c.args.suffixes.now moment c.args.now store

pub returns-in_err-lines-clause-json_again : goal.returns-in_err-lines-clause-json_again
returns-in_err-lines-clause-json_again c moment store = json_again c.args.suffixes.now moment c.args.now store
