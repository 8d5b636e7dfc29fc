-- What a statement leaves of a connection to the table.
use Rattle.std.proofs.Common.{◌≡◌, ◌⊎◌, inl, inr, ℕ, List, false, IsTrue, None, Some, Ok, Err, Option, Result, sym, ap, ◌∙◌}
use Rattle.std.proofs.lemmas.Bool.{cases_Bool}
use Rattle.sqlite.specs.Clock.{timed}
use Rattle.sqlite.specs.Command.{Command}
use Rattle.sqlite.specs.Command.TheVariants as command
use Rattle.sqlite.specs.Effect.{Database}
use Rattle.sqlite.specs.Order.{Row}
use Rattle.sqlite.specs.State.{State, Executes, ExecutesIn, FailsToQuery, FailsToShow, IsNotRun, IsRolledBack, IsUnchanged, Runs, RunsCommand, shows_rows}
use Rattle.sqlite.specs.declared.error.Error.{Error}
use Rattle.sqlite_resolve.specs.declared.compiled.Compiled.{Compiled}
use Rattle.sqlite_schema.specs.declared.command.Returning.{Returning}
use Rattle.session_revocations.specs.Held.{Keeps, rows_of}

-- it has changed nothing, or the transaction was rolled back
abbrev pub IsUndone : State → State → Type 0
IsUndone old new = IsUnchanged old new ⊎ IsRolledBack old new

pub not_run : (sql : List ℕ) (params : Row) (old new : State) (e : Error) → IsNotRun old new sql params e → IsUndone old new
unfolding IsNotRun
not_run sql params old new e (inl h) = inl h.1
not_run sql params old new e (inr h) = inr h.3

pub command_undone : (old new : State) (sql : List ℕ) (c : Compiled) (params : Row) (e : Error) → RunsCommand old new sql c params (Err e) → IsUndone old new
command_undone old new sql c params e (inl same) = inl same.1
command_undone old new sql c params e (inr fails) = inr fails.3

-- so it is of a statement that failed
pub undone : (sql : List ℕ) (params : Row) (old new : State) (e : Error) → Executes sql params old new (Err e) → IsUndone old new
unfolding ExecutesIn
undone sql params old new e (inl h) = not_run sql params old new e h
undone sql params old new e (inr h) = elim (cases_Bool (shows_rows false h.0)) [
  | inl shows ↦ inl (rw shows at h.2).1
  | inr runs ↦ let it = rw runs at h.2 in command_undone old new sql h.0 (timed params h.0.formats h.1.now) e it
]

-- and of a query that failed
pub query_undone : (sql : List ℕ) (params : Row) (old new : State) (e : Error) → FailsToQuery sql params old new e → IsUndone old new
unfolding FailsToQuery
query_undone sql params old new e (inl h) = not_run sql params old new e h
query_undone sql params old new e (inr h) = shown h.0.returning h.2
  where
    shown : (o : Option Returning) → FailsToShow old new sql h.0 (timed params h.0.formats h.1.now) e o → IsUndone old new
    shown None s = inl s.3
    shown (Some what) s = command_undone old new sql h.0 _ e s

pub keeps_undone : (old new : State) → IsUndone old new → (IsTrue old.is_open → Keeps old) → IsTrue new.is_open → Keeps new
keeps_undone old new (inl same) keeps live =
    let k = keeps same.0.was_open in
    record { schema = ap (λ (d : Database). d.schema) same.0.now_is ∙ k.schema; settled = same.0.committed_is ∙ k.settled ∙ sym same.0.now_is; autocommit = same.0.mode ∙ k.autocommit }
keeps_undone old new (inr back) keeps live =
    let k = keeps (back.was_open live) in
    let it = back.undone live in
    record { schema = ap (λ (d : Database). d.schema) (it.0 ∙ k.settled) ∙ k.schema; settled = it.1 ∙ sym it.0; autocommit = back.autocommit }

-- the rows are as they were
pub rows_undone : (old new : State) → IsUndone old new → (IsTrue old.is_open → Keeps old) → IsTrue new.is_open → rows_of new ≡ rows_of old
rows_undone old new (inl same) keeps live = ap (λ (d : Database). d.trees 0) same.0.now_is
rows_undone old new (inr back) keeps live =
    ap (λ (d : Database). d.trees 0) ((back.undone live).0 ∙ (keeps (back.was_open live)).settled)

pub keeps_unchanged : (old new : State) → IsUnchanged old new → Keeps old → Keeps new
keeps_unchanged old new same keeps = keeps_undone old new (inl same) (λ live. keeps) same.0.is_open

pub rows_unchanged : (old new : State) → IsUnchanged old new → rows_of new ≡ rows_of old
rows_unchanged old new same = ap (λ (d : Database). d.trees 0) same.0.now_is

-- the connection was open before a statement that ran, if it is open after it
ran_open : (old new : State) (o : Option Returning) (k : Command) (t : List ℕ) (p : Row) (n : ℕ) → Runs old new o k t p n → IsTrue new.is_open → IsTrue old.is_open
ran_open old new o (command.Select q names) t p n h live = absurd h
ran_open old new o (command.Insert at from) t p n h live = h.shown.was_open
ran_open old new o (command.InsertOr at how from clauses) t p n h live = h.shown.was_open
ran_open old new o (command.Update at q) t p n h live = h.shown.was_open
ran_open old new o (command.Delete at q) t p n h live = h.shown.was_open
ran_open old new o command.CreateTable t p n h live = h.shown.was_open
ran_open old new o (command.CreateIndex at) t p n h live = h.shown.was_open
ran_open old new o (command.DropTable at) t p n h live = h.shown.was_open
ran_open old new o (command.DropIndex at) t p n h live = h.shown.was_open
ran_open old new o command.Begin t p n h live = h.1.was_open
ran_open old new o command.Commit t p n h live = h.1.was_open
ran_open old new o command.Rollback t p n h live = h.1.was_open live
ran_open old new o (command.Savepoint name) t p n h live = h.0.0.was_open
ran_open old new o (command.Release name) t p n h live = elim h.2 [ inl begun ↦ begun.1.0.was_open | inr within ↦ within.1.0.was_open ]
ran_open old new o (command.RollbackTo name) t p n h live = h.2.2.was_open
ran_open old new o (command.Rows values width names) t p n h live = h.0.0.was_open
ran_open old new o command.Nothing t p n h live = h.0.0.was_open
ran_open old new o command.CreateView t p n h live = h.shown.was_open
ran_open old new o (command.DropView at) t p n h live = h.shown.was_open

pub executed_open : (sql : List ℕ) (params : Row) (old new : State) (n : ℕ) → Executes sql params old new (Ok n) → IsTrue new.is_open → IsTrue old.is_open
unfolding ExecutesIn
executed_open sql params old new n h live = elim (cases_Bool (shows_rows false h.0)) [
  | inl shows ↦ absurd (let e = (rw shows at h.2).0 in cc)
  | inr runs ↦ let it = rw runs at h.2 in ran_open old new _ _ _ _ n it live
]

-- so it was before one that failed, and before any
pub undone_open : (old new : State) → IsUndone old new → IsTrue new.is_open → IsTrue old.is_open
undone_open old new (inl same) live = same.0.was_open
undone_open old new (inr back) live = back.was_open live

pub executes_open : (sql : List ℕ) (params : Row) (old new : State) (r : Result ℕ Error) → Executes sql params old new r → IsTrue new.is_open → IsTrue old.is_open
executes_open sql params old new (Ok n) h live = executed_open sql params old new n h live
executes_open sql params old new (Err e) h live = undone_open old new (undone sql params old new e h) live

-- a part of a statement went on
pub went : {B E R : Type 0} {b : B} {Stops : E → Type 0} → ((stop : E) × Stops stop × (Ok b ≡ Err stop)) ⊎ R → R
went (inl stopped) = absurd (let e = stopped.2 in cc)
went (inr on) = on

pub same_value : {B E : Type 0} {a b : B} → ◌≡◌ {A = Result B E} (Ok a) (Ok b) → a ≡ b
same_value e = cc
