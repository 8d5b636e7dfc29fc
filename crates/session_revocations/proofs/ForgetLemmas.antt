-- The deletion of what has passed.
use Rattle.std.proofs.Common.{◌≡◌, inl, inr, ℕ, ℤ, pos, ◌+ℤ◌, List, [], ◌∷◌, IsTrue, Option, None, Ok, Err, Result, OnErr, OnOk, refl, sym, ap, subst, ◌∙◌, append-nil}
use Rattle.sqlite.proofs.Callers.{IsPlain, command_of, one_step, runs_as, statement_of}
use Rattle.sqlite.specs.Command.{Command}
use Rattle.sqlite.specs.Command.TheVariants.{Delete}
use Rattle.sqlite.specs.Does.{Does, Tally}
use Rattle.sqlite.specs.Edit.{edit_of}
use Rattle.sqlite.specs.Effect.{Database}
use Rattle.sqlite.specs.Listing.{understood}
use Rattle.sqlite.specs.Order.{Row}
use Rattle.sqlite.specs.Rowids.TheVariants.{Given}
use Rattle.sqlite.specs.Rows.{Written}
use Rattle.sqlite.specs.State.{State, CommitsBy, Executes, HasCleanDisk, MayCommit, mode_of, text_of}
use Rattle.sqlite.specs.Term.{col}
use Rattle.sqlite.specs.Tree.{Trees}
use Rattle.sqlite.specs.declared.error.Error.{Error}
use Rattle.sqlite.specs.declared.run.Mode.{Mode}
use Rattle.sqlite.specs.declared.types.Value.TheVariants.{Int, Null}
use Rattle.sqlite_rules.specs.Calls.{ids_of}
use Rattle.session_revocations.specs.Held.{IsStill, Keeps, rows_of}
use Rattle.session_revocations.specs.Revoked.{IsPruned}
use Rattle.session_revocations.specs.Rowids.{HasRowids}
use Rattle.session_revocations.specs.Table.{revoked, revoked_schema}
use Rattle.session_revocations.proofs.AnswerLemmas.{query_of, shows}
use Rattle.session_revocations.proofs.PruneLemmas.{pruned}
use Rattle.session_revocations.proofs.StateLemmas.{executed_open, keeps_undone, rows_undone, same_value, undone, went}
use Rattle.session_revocations.proofs.TextLemmas.{delete_is, delete_plain, delete_text, past}

abbrev pub deleting : Command
deleting = Delete 0 (record { lets = []; body = query_of past (col 1 0 ∷ []) [] })

-- what a deletion that ends in these rows has done
abbrev pub Prunes : ℤ → List Row → List Row → Type 0
Prunes now rows after = HasRowids rows → IsPruned rows (now +ℤ pos 1) after

-- what it makes of a database
pub does_delete : (limit : Option ℕ) (mode : Mode) (db : Database) (text : List ℕ) (now : ℤ) (tally : Tally) (after : Database) → db.schema ≡ revoked_schema
    → Does limit mode (Int now ∷ []) db text None deleting (Ok (tally, after)) → (after.schema ≡ revoked_schema) × Prunes now (db.trees 0) (after.trees 0)
does_delete limit mode db text now tally after has does =
    let trees = db.trees in
    let done = went (subst (λ s. Does limit mode (Int now ∷ []) (record db { schema = s }) text None deleting (Ok (tally, after))) has does) in
    let is = ap (λ (p : Tally × Database). p.1) (same_value (went (went done.2).2).2) in
    let given = went done.1 in
    let written = went given.2 in
    let same : done.0.trees ≡ written.0 = ap (λ (it : Written). it.trees) (same_value written.2) in
    let step = one_step revoked_schema mode.keys trees written.0 (edit_of trees revoked (ids_of given.0) Given 0 []) refl written.1 in
    let found = shows past (col 1 0 ∷ []) [] (Int now ∷ []) trees given.0 (given.1.answer Null) in (
      ap (λ (d : Database). d.schema) is,
      λ rowids. subst (IsPruned (trees 0) (now +ℤ pos 1)) (sym (ap (λ (d : Database). d.trees 0) is ∙ ap (λ (t : Trees). t 0) same ∙ step.rows)) (pruned now (trees 0) given.0 rowids found),
    )

-- what it makes of a connection to the table
pub deletes : (old new : State) (now : ℤ) (n : ℕ) → Keeps old → Executes delete_text (Int now ∷ []) old new (Ok n) → Keeps new × Prunes now (rows_of old) (rows_of new)
deletes old new now n k h =
    let w = runs_as delete_text (Int now ∷ []) old new revoked_schema k.schema deleting delete_is delete_plain n h in
    let did = does_delete old.step_limit (mode_of old) old.now (statement_of delete_text (understood revoked_schema delete_text)) now w.tally new.now k.schema w.changed in
    let committed : new.committed ≡ new.now = rw k.autocommit at w.shown.committed_is in
    (record { schema = did.0; settled = committed; autocommit = w.shown.mode ∙ k.autocommit }, did.1)

may_commit : (old : State) (now : ℤ) (db : Trees) → Keeps old → (text : List ℕ) → MayCommit old None deleting text (Int now ∷ []) db → Prunes now (rows_of old) (db 0)
may_commit old now db k text (inl h) = absurd (elim h.0 [ inl e ↦ cc | inr e ↦ let f = e.2 in cc ])
may_commit old now db k text (inr h) =
    subst (λ (t : Trees). Prunes now (rows_of old) (t 0)) (sym h.5) (does_delete old.step_limit (mode_of old) old.now text now h.1 h.2 k.schema h.3).1

-- what a crash within it may leave
pub crash_deletes : (old : State) (now : ℤ) (db : Trees) → Keeps old → CommitsBy delete_text (Int now ∷ []) old db → Prunes now (rows_of old) (db 0)
unfolding CommitsBy
crash_deletes old now db k h =
    let params : List _ = Int now ∷ [] in
    let known : understood revoked_schema delete_text ≡ Ok h.0 = sym (ap (λ s. understood s delete_text) k.schema) ∙ h.1.is in
    let bare = subst IsPlain known delete_plain in
    let is : h.0.command ≡ deleting = sym (ap command_of known) ∙ delete_is in
    may_commit old now db k (text_of delete_text h.0) (rw (bare.0, is, bare.1, append-nil params) at h.2)

pub deleted : (old new : State) (now : ℤ) (r : Result ℕ Error) → (IsTrue old.is_open → Keeps old) → Executes delete_text (Int now ∷ []) old new r
    → OnOk r (IsTrue new.is_open → Prunes now (rows_of old) (rows_of new))
deleted old new now (Ok n) keeps h = λ live. (deletes old new now n (keeps (executed_open delete_text _ old new n h live)) h).1
deleted old new now (Err e) keeps h = tt

pub delete_kept : (old new : State) (now : ℤ) (r : Result ℕ Error) → (IsTrue old.is_open → Keeps old) → Executes delete_text (Int now ∷ []) old new r
    → IsTrue new.is_open → Keeps new
delete_kept old new now (Ok n) keeps h live = (deletes old new now n (keeps (executed_open delete_text _ old new n h live)) h).0
delete_kept old new now (Err e) keeps h live = keeps_undone old new (undone delete_text _ old new e h) keeps live

-- a deletion that failed leaves the rows
pub delete_still : (old new : State) (now : ℤ) (r : Result ℕ Error) → (HasCleanDisk new → IsTrue old.is_open → Keeps old) → (HasCleanDisk new → Executes delete_text (Int now ∷ []) old new r)
    → OnErr r (IsStill old new)
delete_still old new now (Ok n) keeps h = tt
delete_still old new now (Err e) keeps h = λ clean. rows_undone old new (undone delete_text _ old new e (h clean)) (keeps clean)
