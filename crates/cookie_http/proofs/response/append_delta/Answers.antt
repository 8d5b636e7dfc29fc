use Rattle.std.proofs.Common.{◌≡◌, All, IsTrue, false, rules, sym, ap, subst, true≢false, ◌∙◌, length, refl}
use Rattle.std.proofs.lemmas.List.Elements.{All-head, All-tail}
use Rattle.std.specs.Result.{IsErrAnd}
use Rattle.cookie.specs.DeltaTexts.{WalksDelta}
use Rattle.cookie.proofs.AttributeValueLemmas.{AllFitFields-walk}
use Rattle.cookie.specs.AttributeValues.{FitsField}
use Rattle.cookie_http.specs.Response.{LacksRoom}
use Rattle.cookie_http.proofs.ResponseLemmas.{AddsDelta-written, IsWritten, IsWritten-first, IsWritten-next, LacksRoom-append, LacksRoom-refused, clone_same, is_ok, not_full, not_invalid, other_refusal}
use Rattle.cookie_http.proofs.response.append_delta.Goals as goal

pub returns-in_err-made-clause-invalid : goal.returns-in_err-made-clause-invalid
returns-in_err-made-clause-invalid c =
    let yes : IsTrue c.fits_fields.result = search rules in
    (λ invalid fit. not_invalid c.from_residual.result c.from_residual.ensures.1 invalid, λ unfit. absurd (unfit (c.fits_fields.ensures.0 yes)))

pub returns-in_err-made-clause-full : goal.returns-in_err-made-clause-full
returns-in_err-made-clause-full c =
    let no : c.lacks_room.result ≡ false = search rules in
    (λ full. absurd (not_full c.from_residual.result c.from_residual.ensures.1 full), λ lacks. absurd (true≢false (sym (c.lacks_room.ensures.lacks.1 lacks.1) ∙ no)))

pub loop-cookie-init : goal.loop-cookie-init
loop-cookie-init c =
    let delta = c.args.jar.now.delta in
    let cookies = c.into_iter-cookie-iterator.result in
    let walks : WalksDelta delta cookies = subst (WalksDelta delta) (sym c.into_iter-cookie-iterator.ensures.into_iter_gives) c.delta-cookie-items.ensures.walks in
    let yes : IsTrue c.fits_fields.result = search rules in
    let no : c.lacks_room.result ≡ false = search rules in
    let same = clone_same c.args.headers.now c.in_ok-made.made c.in_ok-made.ensures.cases in
    record {
      fit = (AllFitFields-walk delta cookies walks).1 (c.fits_fields.ensures.0 yes);
      room = λ lacks. true≢false (sym (c.lacks_room.ensures.lacks.1 (cookies, walks, subst (LacksRoom (length cookies)) same lacks)) ∙ no);
      written = IsWritten-first delta c.args.headers.now c.in_ok-made.made cookies walks same;
    }

pub append_cookie-requires-clause-fits : goal.append_cookie-requires-clause-fits
append_cookie-requires-clause-fits c =
    All-head FitsField c.in-Some.cookie.now.fields c.next.new.self (subst (All FitsField) c.in-Some.ensures.steps c.loop-cookie.invariant.fit)

pub append_cookie-requires-clause-room : goal.append_cookie-requires-clause-room
append_cookie-requires-clause-room c refuses =
    c.loop-cookie.invariant.room
    (subst (λ n. LacksRoom n c.loop-cookie.made) (sym (ap length c.in-Some.ensures.steps)) (LacksRoom-refused (length c.next.new.self) c.loop-cookie.made refuses))

pub loop-cookie-preserved : goal.loop-cookie-preserved
loop-cookie-preserved c =
    let delta = c.args.jar.now.delta in
    let cookie = c.in-Some.cookie.now.fields in
    let left = c.next.new.self in
    record {
      fit = All-tail FitsField cookie left (subst (All FitsField) c.in-Some.ensures.steps c.loop-cookie.invariant.fit);
      room = λ lacks. c.loop-cookie.invariant.room
          (subst (λ n. LacksRoom n c.loop-cookie.made) (sym (ap length c.in-Some.ensures.steps))
          (LacksRoom-append (length left) c.loop-cookie.made _ (subst (LacksRoom (length left)) c.in_ok-append_cookie.ensures.gives lacks)));
      written = IsWritten-next delta c.args.headers.now c.loop-cookie.made c.append_cookie.new.headers cookie left
          (subst (IsWritten delta c.args.headers.now c.loop-cookie.made) c.in-Some.ensures.steps c.loop-cookie.invariant.written)
          c.append_cookie.ensures.text c.in_ok-append_cookie.ensures.gives;
    }

pub returns-clause-ok : goal.returns-clause-ok
returns-clause-ok c =
    let delta = c.args.jar.now.delta in
    AddsDelta-written delta c.args.headers.now c.loop-cookie.made
    (subst (IsWritten delta c.args.headers.now c.loop-cookie.made) c.in-None.ensures.steps.0 c.loop-cookie.invariant.written)

pub returns-clause-invalid : goal.returns-clause-invalid
returns-clause-invalid c =
    let yes : IsTrue c.fits_fields.result = search rules in
    (λ invalid fit. absurd (true≢false (ap is_ok invalid)), λ unfit. absurd (unfit (c.fits_fields.ensures.0 yes)))

pub returns-clause-full : goal.returns-clause-full
returns-clause-full c =
    let no : c.lacks_room.result ≡ false = search rules in
    (λ full. absurd (true≢false (ap is_ok full)), λ lacks. absurd (true≢false (sym (c.lacks_room.ensures.lacks.1 lacks.1) ∙ no)))

pub returns-then-lacks_room-clause-invalid : goal.returns-then-lacks_room-clause-invalid
returns-then-lacks_room-clause-invalid c =
    let yes : IsTrue c.fits_fields.result = search rules in
    (λ invalid fit. other_refusal _ refl invalid, λ unfit. absurd (unfit (c.fits_fields.ensures.0 yes)))

pub returns-then-lacks_room-clause-full : goal.returns-then-lacks_room-clause-full
returns-then-lacks_room-clause-full c =
    let yes : IsTrue c.fits_fields.result = search rules in
    let lacking : IsTrue c.lacks_room.result = search rules in
    (λ full. (c.fits_fields.ensures.0 yes, c.lacks_room.ensures.lacks.0 lacking), λ both. refl)

pub returns-in_err-append_cookie-clause-invalid : goal.returns-in_err-append_cookie-clause-invalid
returns-in_err-append_cookie-clause-invalid c =
    let yes : IsTrue c.fits_fields.result = search rules in (
      λ invalid fit. not_invalid c.from_residual-in_err-append_cookie.result
          (subst (λ x. IsErrAnd c.from_residual-in_err-append_cookie.result (λ e. e ≡ x)) c.in_err-append_cookie.ensures.gives c.from_residual-in_err-append_cookie.ensures.1) invalid,
      λ unfit. absurd (unfit (c.fits_fields.ensures.0 yes)),
    )
