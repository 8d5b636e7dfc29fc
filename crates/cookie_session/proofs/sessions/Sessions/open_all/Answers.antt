use Rattle.std.proofs.Common.{◌≡◌, ◌<◌, ◌≤◌, ◌+◌, ℕ, Bool, true, false, Decides, List, get_or, length, map, take, ap, refl, subst, sym, ◌∙◌, arith}
use Rattle.std.proofs.lemmas.Bool.Decides.{Decides-eqb}
use Rattle.std.proofs.lemmas.List.{get_or-map, length-map, take_all}
use Rattle.std.proofs.lemmas.Slice.Eq.{bytes_eq-Decides, slice_eq-Decides}
use Rattle.std.specs.Str.{bytes_eq}
use Rattle.cookie.specs.Record.{CookieView, Record}
use Rattle.cookie_session.specs.Sessions.{AreFound, EachHoldsOne, IsFound, site_cookies}
use Rattle.cookie_session.proofs.FirstLemmas.{holds_more, none_more, other_more, so_far, some_more}
use Rattle.cookie_session.proofs.sessions.Sessions.open_all.Goals as goal
use Rattle.cookie_session.proofs.sessions.Sessions.open_all.Goals.{then-eq+in_ok-opened+in-Some+in_ok-push, then-eq+in_ok-opened+in_default, else-eq}

abbrev fields : CookieView → Record
fields cookie = cookie.fields

-- a cookie of the list, as a record
in_records : (cookies : List CookieView) (i : ℕ) (cookie : CookieView) → i < length cookies → cookie ≡ get_or cookies i cookie
    → (i < length (map fields cookies)) × (cookie.fields ≡ get_or (map fields cookies) i cookie.fields)
in_records cookies i cookie below is = (
  omega (arith, length-map cookies fields),
  ap fields is ∙ sym (get_or-map fields cookies i cookie cookie.fields below),
)

-- whether it has the site's name
is_named : (name site_name given wanted : List ℕ) (same : Bool) → Decides same (given ≡ wanted) → given ≡ name → wanted ≡ site_name → bytes_eq site_name name ≡ same
is_named name site_name given wanted true decides is site_is = (bytes_eq-Decides site_name name).1 (sym site_is ∙ sym (decides.0 refl) ∙ is)
is_named name site_name given wanted false decides is site_is = by (bytes_eq site_name name) refl
  where
    by : (b : Bool) → bytes_eq site_name name ≡ b → b ≡ false
    by false e = refl
    by true e =
        let same = (bytes_eq-Decides site_name name).0 e in
        sym (decides.1 (is ∙ sym same ∙ sym site_is))

pub loop-cookie-preserved : goal.loop-cookie-preserved
loop-cookie-preserved c =
    let site = c.args.self.now in
    let now = c.args.now in
    let i = c.loop-cookie.cookie-index in
    let cookies = map fields c.args.cookies.now in
    let cookie = c.cookie-item.result in
    let at = in_records c.args.cookies.now i cookie c.loop-cookie-test.true c.cookie-item.is in
    let decides = slice_eq-Decides Decides-eqb c.name.result.now c.name-in-loop-cookie.result.now c.eq.result c.eq.ensures in
    let named = is_named cookie.fields.name site.cookie.now.fields.name _ _ c.eq.result decides c.name.ensures c.name-in-loop-cookie.ensures in
    elim c.if-eq.branch [
      | then-eq+in_ok-opened+in-Some+in_ok-push w ↦
          let same = named ∙ w.if-eq.true in
          let finds = subst (IsFound site now cookie.fields) w.in-Some.is w.in_ok-opened.ensures.answers in
          let all = some_more site now cookies i cookie.fields at.0 at.1 same c.loop-cookie.found.items w.in-Some.opened c.loop-cookie.invariant.0 finds in (
            subst (AreFound site now (so_far site now cookies i cookie.fields at.0 at.1 (i + 1))) (sym w.in_ok-push.ensures.items ∙ ap (λ v. v.items) (sym w.found-is)) all,
            holds_more site now cookies i cookie.fields at.0 at.1 same c.loop-cookie.invariant.1 w.in_ok-opened.ensures.once,
          )
      | then-eq+in_ok-opened+in_default w ↦
          let same = named ∙ w.if-eq.true in
          let finds = subst (IsFound site now cookie.fields) w.in_default.is w.in_ok-opened.ensures.answers in
          let all = none_more site now cookies i cookie.fields at.0 at.1 same c.loop-cookie.found.items c.loop-cookie.invariant.0 finds in (
            subst (AreFound site now (so_far site now cookies i cookie.fields at.0 at.1 (i + 1))) (ap (λ v. v.items) (sym w.found-is)) all,
            holds_more site now cookies i cookie.fields at.0 at.1 same c.loop-cookie.invariant.1 w.in_ok-opened.ensures.once,
          )
      | else-eq w ↦
          let same = other_more site now cookies i cookie.fields at.0 at.1 (named ∙ w.if-eq.false) in (
            subst (λ cs. AreFound site now cs c.if-eq.found.items) (sym same) (subst (AreFound site now (site_cookies site (take i cookies))) (ap (λ v. v.items) (sym w.found-is)) c.loop-cookie.invariant.0),
            subst (EachHoldsOne site) (sym same) c.loop-cookie.invariant.1,
          )
    ]

pub returns-clause-once : goal.returns-clause-once
returns-clause-once c =
    let site = c.args.self.now in
    let cookies = map fields c.args.cookies.now in
    let past : length cookies ≤ c.loop-cookie.cookie-index = omega (arith, length-map c.args.cookies.now fields) in
    subst (λ cs. EachHoldsOne site (site_cookies site cs)) (take_all c.loop-cookie.cookie-index cookies past) c.loop-cookie.invariant.1
