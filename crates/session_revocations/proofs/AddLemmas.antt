-- The insertion adds one row.
use Rattle.std.proofs.Common.{◌≡◌, inl, inr, ℕ, ℤ, List, [], ◌∷◌, Bool, true, false, not, ◌&&◌, cond, IsTrue, Option, None, Ok, Err, Result, OnErr, OnOk, refl, sym, ap, subst, ◌∙◌, append-nil}
use Rattle.sqlite.proofs.Callers.{IsPlain, command_of, one_step, runs_as, statement_of}
use Rattle.sqlite.specs.Cast.{cast}
use Rattle.sqlite.specs.Command.{Command}
use Rattle.sqlite.specs.Command.TheVariants.{Insert}
use Rattle.sqlite.specs.Does.{Does, Tally}
use Rattle.sqlite.specs.Edit.{are_fresh, edit_of, edited, is_taken, next_rowid}
use Rattle.sqlite.specs.Effect.{Database}
use Rattle.sqlite.specs.Kind.TheVariants.{Integer}
use Rattle.sqlite.specs.Listing.{understood}
use Rattle.sqlite.specs.Ops.{unary}
use Rattle.sqlite.specs.Order.{Row}
use Rattle.sqlite.specs.Rowids.TheVariants.{Chosen}
use Rattle.sqlite.specs.Rows.{Written}
use Rattle.sqlite.specs.Source.TheVariants.{Values}
use Rattle.sqlite.specs.State.{State, CommitsBy, Executes, HasCleanDisk, MayCommit, mode_of, text_of}
use Rattle.sqlite.specs.Tree.{Trees, put_row}
use Rattle.sqlite.specs.declared.error.Error.{Error}
use Rattle.sqlite.specs.declared.run.Mode.{Mode}
use Rattle.sqlite.specs.declared.types.Value.{Value}
use Rattle.sqlite.specs.declared.types.Value.TheVariants.{Blob, Int, Null}
use Rattle.session_revocations.specs.Held.{IsStill, Keeps, rows_of}
use Rattle.session_revocations.specs.Revoked.{IsAdded, entry}
use Rattle.session_revocations.specs.Table.{revoked, revoked_schema}
use Rattle.session_revocations.proofs.StateLemmas.{executed_open, keeps_undone, rows_undone, same_value, undone, went}
use Rattle.session_revocations.proofs.TextLemmas.{insert_is, insert_plain, insert_text, terms}

either : (b : Bool) (x : Value) → cond b x x ≡ x
either true x = refl
either false x = refl

cast_null : cast Integer Null ≡ Null
unfolding unary
cast_null = either _ Null

cast_int : (n : ℤ) → cast Integer (Int n) ≡ Int n
unfolding unary
cast_int n = either _ (Int n)

not_true : (b : Bool) → not b ≡ true → b ≡ false
not_true true h = absurd cc
not_true false h = refl

and_first : (a b : Bool) → (a && b) ≡ true → a ≡ true
and_first true b h = refl
and_first false b h = h

abbrev pub adding : Command
adding = Insert 0 (Values terms 3)

-- what it makes of a database
pub does_add : (limit : Option ℕ) (mode : Mode) (db : Database) (text : List ℕ) (id : List ℕ) (until : ℤ) (tally : Tally) (after : Database) → db.schema ≡ revoked_schema
    → Does limit mode (Blob id ∷ Int until ∷ []) db text None adding (Ok (tally, after)) → (after.schema ≡ revoked_schema) × IsAdded (db.trees 0) id until (after.trees 0)
does_add limit mode db text id until tally after has does =
    let params = Blob id ∷ Int until ∷ [] in
    let trees = db.trees in
    let done = went (subst (λ s. Does limit mode params (record db { schema = s }) text None adding (Ok (tally, after))) has does) in
    let now = ap (λ (p : Tally × Database). p.1) (same_value (went (went done.2).2).2) in
    let given = went done.1 in
    let written = went (went given.2).2 in
    let counted = went written.2 in
    let is : done.0.trees ≡ written.0 = ap (λ (it : Written). it.trees) (same_value counted.2) ∙ same_value counted.1 in
    let step = one_step revoked_schema _ trees written.0 (edit_of trees revoked [] Chosen 0 given.0) refl written.1 in
    let edit = ap (λ all. edited trees (edit_of trees revoked [] Chosen 0 all)) given.1.1 in
    let n = next_rowid (trees 0) in
    let rows : edited trees (edit_of trees revoked [] Chosen 0 given.0) ≡ put_row (entry n id until) (trees 0) = edit ∙ rw (cast_null, cast_int until) in
    let news : (edit_of trees revoked [] Chosen 0 given.0).news ≡ entry n id until ∷ [] = ap (λ all. (edit_of trees revoked [] Chosen 0 all).news) given.1.1 ∙ rw (cast_null, cast_int until) in
    let free : is_taken (trees 0) (entry n id until) ≡ false = not_true _ (and_first _ _ (subst (λ all. are_fresh (trees 0) all ≡ true) news step.fresh)) in (
      ap (λ (d : Database). d.schema) now,
      (n, free, ap (λ (d : Database). d.trees 0) now ∙ ap (λ (t : Trees). t 0) is ∙ step.rows ∙ rows),
    )

-- what it makes of a connection to the table
pub adds : (old new : State) (id : List ℕ) (until : ℤ) (n : ℕ) → Keeps old → Executes insert_text (Blob id ∷ Int until ∷ []) old new (Ok n) → Keeps new × IsAdded (rows_of old) id until (rows_of new)
adds old new id until n k h =
    let w = runs_as insert_text (Blob id ∷ Int until ∷ []) old new revoked_schema k.schema adding insert_is insert_plain n h in
    let did = does_add old.step_limit (mode_of old) old.now (statement_of insert_text (understood revoked_schema insert_text)) id until w.tally new.now k.schema w.changed in
    let committed : new.committed ≡ new.now = rw k.autocommit at w.shown.committed_is in
    (record { schema = did.0; settled = committed; autocommit = w.shown.mode ∙ k.autocommit }, did.1)

may_commit : (old : State) (id : List ℕ) (until : ℤ) (db : Trees) → Keeps old → (text : List ℕ) → MayCommit old None adding text (Blob id ∷ Int until ∷ []) db → IsAdded (rows_of old) id until (db 0)
may_commit old id until db k text (inl h) = absurd (elim h.0 [ inl e ↦ cc | inr e ↦ let f = e.2 in cc ])
may_commit old id until db k text (inr h) =
    subst (λ (t : Trees). IsAdded (rows_of old) id until (t 0)) (sym h.5) (does_add old.step_limit (mode_of old) old.now text id until h.1 h.2 k.schema h.3).1

-- what a crash within it may leave
pub crash_adds : (old : State) (id : List ℕ) (until : ℤ) (db : Trees) → Keeps old → CommitsBy insert_text (Blob id ∷ Int until ∷ []) old db → IsAdded (rows_of old) id until (db 0)
unfolding CommitsBy
crash_adds old id until db k h =
    let params : Row = Blob id ∷ Int until ∷ [] in
    let known : understood revoked_schema insert_text ≡ Ok h.0 = sym (ap (λ s. understood s insert_text) k.schema) ∙ h.1.is in
    let bare = subst IsPlain known insert_plain in
    let is : h.0.command ≡ adding = sym (ap command_of known) ∙ insert_is in
    may_commit old id until db k (text_of insert_text h.0) (rw (bare.0, is, bare.1, append-nil params) at h.2)

pub added : (old new : State) (id : List ℕ) (until : ℤ) (r : Result ℕ Error) → (IsTrue old.is_open → Keeps old) → Executes insert_text (Blob id ∷ Int until ∷ []) old new r
    → OnOk r (IsTrue new.is_open → IsAdded (rows_of old) id until (rows_of new))
added old new id until (Ok n) keeps h = λ live. (adds old new id until n (keeps (executed_open insert_text _ old new n h live)) h).1
added old new id until (Err e) keeps h = tt

pub kept : (old new : State) (id : List ℕ) (until : ℤ) (r : Result ℕ Error) → (IsTrue old.is_open → Keeps old) → Executes insert_text (Blob id ∷ Int until ∷ []) old new r
    → IsTrue new.is_open → Keeps new
kept old new id until (Ok n) keeps h live = (adds old new id until n (keeps (executed_open insert_text _ old new n h live)) h).0
kept old new id until (Err e) keeps h live = keeps_undone old new (undone insert_text _ old new e h) keeps live

-- an insertion that failed leaves the rows
pub still : (old new : State) (id : List ℕ) (until : ℤ) (r : Result ℕ Error) → (HasCleanDisk new → IsTrue old.is_open → Keeps old) → (HasCleanDisk new → Executes insert_text (Blob id ∷ Int until ∷ []) old new r)
    → OnErr r (IsStill old new)
still old new id until (Ok n) keeps h = tt
still old new id until (Err e) keeps h = λ clean. rows_undone old new (undone insert_text _ old new e (h clean)) (keeps clean)
