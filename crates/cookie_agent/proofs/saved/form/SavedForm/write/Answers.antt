-- One more cookie is written, or left out.
use Rattle.std.proofs.Common.{◌&&◌, not, length, ap, arith}
use Rattle.cookie_browser.specs.Storage.{CookieStore, KeptView}
use Rattle.cookie_agent.specs.Saved.{is_persistent, places_of}
use Rattle.cookie_agent.specs.SavedForms.{carries, line_text}
use Rattle.cookie_agent.specs.SavedFormsCode.{lines_text}
use Rattle.cookie_agent.proofs.SavedLemmas.{places_of_parts, saved_parts, walk_next}
use Rattle.cookie_agent.proofs.saved.form.SavedForm.write.Goals as goal
use Rattle.cookie_agent.proofs.saved.form.SavedForm.write.Goals.{in-Some+in_ok-save, in_default}

pub loop-place-preserved : goal.loop-place-preserved
loop-place-preserved c =
    let form = c.args.self in
    let now = c.args.now in
    let place = c.loop-place.place in
    let cookies : CookieStore = c.loop-place.cookies in
    let so = c.loop-place.invariant in
    let count = so.rest in
    let missed = λ (cookie : KeptView). is_persistent now cookie && not (carries form cookie) in
    elim c.match-next.branch [
      | in-Some+in_ok-save w ↦
          let x : KeptView = w.in-Some.cookie.now in
          let rest : CookieStore = c.next.new.self in
          let steps = w.in-Some.ensures.steps in
          let fewer = ap (λ (s : CookieStore). length s) steps in
          rw w.saved-is (record {
            rest = omega (arith, count, fewer);
            text = walk_next (λ place. lines_text form now) (saved_parts now (carries form) (line_text form)) 0 x cookies rest _ _ _ steps w.in_ok-save.ensures.text so.text;
            left = walk_next (places_of missed) (places_of_parts missed) place x cookies rest _ _ _ steps w.in_ok-save.ensures.left_out so.left;
          })
      | in_default w ↦
          let none = ap (λ (s : CookieStore). length s) w.in_default.ensures.steps.0 in
          absurd (omega (arith, none, count, c.loop-place-test.true, c.len-place-end.ensures.value))
    ]
