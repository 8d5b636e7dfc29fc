-- The statement that makes the table.
use Rattle.std.proofs.Common.{◌≡◌, ℕ, List, [], ◌∷◌, ◌++◌, codes, false, IsTrue, None, Ok, Err, Result, OnOk, lit<, sym, ap, subst, ◌∙◌}
use Rattle.std.proofs.lemmas.Fmt.{decimal_digit}
use Rattle.sqlite.proofs.Callers.{runs_as}
use Rattle.sqlite.specs.Change.{created, next_tree}
use Rattle.sqlite.specs.Command.TheVariants.{CreateTable}
use Rattle.sqlite.specs.Does.{Tally, lacks_sequence}
use Rattle.sqlite.specs.Effect.{Database}
use Rattle.sqlite.specs.Schema.{Schema}
use Rattle.sqlite.specs.State.{State, Executes, Writes}
use Rattle.sqlite.specs.declared.error.Error.{Error}
use Rattle.session_revocations.specs.Held.{Keeps, Starts, rows_of}
use Rattle.session_revocations.specs.Table.{no_schema, revoked, revoked_key, revoked_schema}
use Rattle.session_revocations.proofs.StateLemmas.{executed_open, same_value, went}
use Rattle.session_revocations.proofs.TextLemmas.{create_is, create_plain, create_text}

-- with its key's index
pub created_is : created no_schema revoked ≡ revoked_schema
created_is = ap named (decimal_digit 1 (lit< tt))
  where
    named : List ℕ → Schema
    named digits = record revoked_schema { indexes = record revoked_key { name = codes "sqlite_autoindex_revoked_" ++ digits } ∷ [] }

pub creates : (old new : State) (n : ℕ) → Starts old → old.now.schema ≡ no_schema → Executes create_text [] old new (Ok n) → Keeps new × (rows_of new ≡ [])
creates old new n starts has h =
    let w = subst (λ t. Writes old new None CreateTable t [] n) create_is.1 (runs_as create_text [] old new no_schema has CreateTable create_is.0 create_plain n h) in
    let all = went w.changed in
    let first = went all.1 in
    let made = first.1 in
    let both : Ok made.table ≡ Ok revoked = sym made.defined ∙ create_is.2 in
    let same : made.table ≡ revoked = cc in
    let schema : first.0.schema ≡ revoked_schema = made.is ∙ ap (λ s. created s made.table) has ∙ ap (created no_schema) same ∙ created_is in
    let plain : lacks_sequence first.0.schema ≡ false = ap lacks_sequence schema in
    let now : new.now ≡ first.0 = ap (λ (p : Tally × Database). p.1) (same_value all.2) ∙ same_value (rw plain at first.2) in
    let committed : new.committed ≡ new.now = rw starts.autocommit at w.shown.committed_is in (
      record { schema = ap (λ (d : Database). d.schema) now ∙ schema; settled = committed; autocommit = w.shown.mode ∙ starts.autocommit },
      ap (λ (d : Database). d.trees 0) now ∙ subst (λ s. first.0.trees (next_tree s) ≡ []) has made.empty,
    )

pub makes : (old new : State) (r : Result ℕ Error) → (IsTrue old.is_open → Starts old × (old.now.schema ≡ no_schema)) → Executes create_text [] old new r
    → OnOk r (IsTrue new.is_open → Keeps new × (rows_of new ≡ []))
makes old new (Ok n) starts h = λ live. let it = starts (executed_open create_text [] old new n h live) in creates old new n it.0 it.1 h
makes old new (Err e) starts h = tt
