use Rattle.std.proofs.Common.{◌≡◌, true, false, inl, List, ℕ, codes, sym, ap, subst, ◌∙◌}
use Rattle.std.proofs.lemmas.Option.{none-some}
use Rattle.std.specs.FinMap.{get, get-empty, insert}
use Rattle.cookie.specs.Jar.{name_cmp, view}
use Rattle.cookie.proofs.NameLemmas.{get_inserted}
use Rattle.cookie_session.specs.Sessions.{IsStored, started_at}
use Rattle.jiff.specs.Types.{DateTime}
use Rattle.cookie_session.specs.Seconds.{second_of}
use Rattle.cookie_session.specs.Session.{SessionState, seen_at}
use Rattle.cookie_session.specs.Visit.{MustSave, VisitState}
use Rattle.cookie_session.specs.declared.sessions.Sessions.{Sessions}
use Rattle.cookie_examples.proofs.handler.handle.Goals as goal

-- a visit that was renewed, and whose session has a user then, is saved
renewed_saves : (site : Sessions) (now : DateTime) (renewed set : VisitState) (user : List ℕ) → renewed.shows_revoked ≡ false
    → set ≡ record renewed {
      session = record renewed.session { texts = insert renewed.session.texts (codes "user") user };
      is_changed = true;
    }
    → MustSave site now set
renewed_saves site now renewed set user named is = record {
  some = λ _ _ none.
      none-some user (sym (get-empty name_cmp (codes "user")) ∙ sym (ap (λ m. get m (codes "user")) (sym (ap (λ (v : VisitState). v.session.texts) is) ∙ none))
      ∙ get_inserted renewed.session.texts (codes "user") user (codes "user"));
  unrevoked = ap (λ (v : VisitState). v.shows_revoked) is ∙ named;
  needed = inl (ap (λ (v : VisitState). v.is_changed) is);
}

pub returns-clause-logs_in : goal.returns-clause-logs_in
returns-clause-logs_in g c =
    let renewed : VisitState = c.renew.new.self in
    let set : VisitState = c.set.new.self in
    let named = ap (λ (v : VisitState). v.shows_revoked) c.in_ok-renew.ensures.renewed in
    let saves = renewed_saves c.args.sessions.now c.args.now renewed set c.args.user.now named c.in_ok-set.ensures.ok in (
      seen_at (second_of c.args.now) set.session,
      ap (λ (v : VisitState). v.session.started) c.in_ok-set.ensures.ok ∙ ap (λ (v : VisitState). v.session.started) c.in_ok-renew.ensures.renewed,
      ap (λ (v : VisitState). get v.session.texts (codes "user")) c.in_ok-set.ensures.ok ∙ get_inserted renewed.session.texts (codes "user") c.args.user.now (codes "user"),
      c.in_ok-save_if_needed.ensures.opens saves,
    )

-- what holds of the session that was renewed and set holds of it with its parts written out
stored_parts : (F : SessionState → Type 0) (site : Sessions) (now : DateTime) (name text : List ℕ) (set renewed before session : SessionState)
    → set ≡ record renewed { texts = insert renewed.texts name text }
    → renewed ≡ started_at site now renewed.id before.texts
    → before.texts ≡ session.texts → F (seen_at (second_of now) set)
    → F (started_at site now renewed.id (insert session.texts name text))
stored_parts F site now name text set renewed before session is_set is_renewed same stored =
    let added = λ (s : SessionState). record s { texts = insert s.texts name text } in
    let is : seen_at (second_of now) set ≡ started_at site now renewed.id (insert session.texts name text) =
    ap (seen_at (second_of now)) (is_set ∙ ap added is_renewed) ∙ ap (λ texts. started_at site now renewed.id (insert texts name text)) same in
    subst F is stored

pub returns-clause-keeps : goal.returns-clause-keeps
returns-clause-keeps g c kept place session opens =
    let renewed : VisitState = c.renew.new.self in
    let set : VisitState = c.set.new.self in
    let site = c.args.sessions.now in
    let named = ap (λ (v : VisitState). v.shows_revoked) c.in_ok-renew.ensures.renewed in
    let saves = renewed_saves site c.args.now renewed set c.args.user.now named c.in_ok-set.ensures.ok in
    let found = (c.in_ok-visit.ensures.answers (c.save_if_needed.ensures.kept kept) place session).1 opens in (
      renewed.session.id,
      stored_parts (IsStored site (view c.save_if_needed.new.jar site.cookie.now.fields.name)) site c.args.now (codes "user") c.args.user.now
          set.session renewed.session c.in_ok-visit.visit.session session
          (ap (λ (v : VisitState). v.session) c.in_ok-set.ensures.ok) (ap (λ (v : VisitState). v.session) c.in_ok-renew.ensures.renewed)
          (ap (λ (v : VisitState). v.session.texts) found) (c.in_ok-save_if_needed.ensures.opens saves),
    )
