-- A query on the ids shows a row just if some row of the table passes.
use Rattle.std.proofs.Common.{◌≡◌, inl, inr, ℕ, List, [], ◌∷◌, length, Bool, true, false, not, if◌then◌else◌, IsTrue, Option, Some, None, refl, sym, ap, subst, ◌∙◌}
use Rattle.std.specs.Bool.{◌==◌}
use Rattle.std.specs.List.{list_any, list_all, flat_map}
use Rattle.std.proofs.lemmas.List.Sorted.{length_permutation}
use Rattle.std.proofs.lemmas.List.{length-map}
use Rattle.std.proofs.lemmas.Bool.{cases_Bool}
use Rattle.std.proofs.Math.Dec.{eqb-suc-zero}
use Rattle.sqlite.proofs.Callers.{IsPlain, never_commits, reads_as}
use Rattle.sqlite.specs.Clock.{timed}
use Rattle.sqlite.specs.Listing.{understood}
use Rattle.sqlite.specs.Order.{Row}
use Rattle.sqlite.specs.Program.{overlay}
use Rattle.sqlite.specs.Query.{IsAnswer, Output, matches, output}
use Rattle.sqlite.specs.State.{State, CommitsShowing, IsUnchanged, Shown, ShowsRows}
use Rattle.sqlite.specs.Term.{Env, Term, holds}
use Rattle.sqlite.specs.Tree.{Trees}
use Rattle.sqlite.specs.declared.types.Value.TheVariants.{Null}
use Rattle.sqlite_schema.specs.declared.command.Returning.{Returning}
use Rattle.session_revocations.specs.Held.{rows_of}
use Rattle.session_revocations.specs.Table.{revoked_schema}
use Rattle.session_revocations.proofs.TextLemmas.{Finds, query_by}

-- the parameters and the row, if the row passes the filter
abbrev kept_by : List Term → Row → Row → List Env
kept_by filter params r = if list_all (holds (params ∷ r ∷ [])) filter then (params ∷ r ∷ []) ∷ [] else []

none_left : (filter : List Term) (params : Row) (p : Row → Bool) → ((r : Row) → list_all (holds (params ∷ r ∷ [])) filter ≡ p r) → (rows : List Row)
    → (length (flat_map (kept_by filter params) rows) == 0) ≡ not (list_any p rows)
none_left filter params p is [] = refl
none_left filter params p is (r ∷ rs) = elim (cases_Bool (p r)) [
  | inl t ↦ rw (is r, t) (eqb-suc-zero _)
  | inr f ↦ rw (is r, f) (none_left filter params p is rs)
]

-- what shows rows changes nothing
pub query_same : (text : List ℕ) (params : Row) (old new : State) → IsPlain (understood revoked_schema text) → old.now.schema ≡ revoked_schema → (rows : List Row)
    → Shown text params old new rows → IsUnchanged old new
unfolding Shown
query_same text params old new plain has rows h = keeps h.0.returning (subst IsPlain (sym (ap (λ s. understood s text) has) ∙ h.1.is) plain).0 h.2
  where
    keeps : (o : Option Returning) → o ≡ None → ShowsRows old new text h.0 (timed params h.0.formats h.1.now) rows o → IsUnchanged old new
    keeps None none s = s.3
    keeps (Some what) none s = absurd cc

-- and commits nothing
pub query_commits : (text : List ℕ) (params : Row) (old : State) → IsPlain (understood revoked_schema text) → old.now.schema ≡ revoked_schema → (db : Trees) → CommitsShowing text params old db → ⊥
query_commits text params old plain has db = never_commits text params old db (subst (λ k. IsPlain (understood k text)) (sym has) plain)

module _ (text : List ℕ) (filter : List Term) (params : Row) (old new : State) (means : Finds text filter) (plain : IsPlain (understood revoked_schema text)) (has : old.now.schema ≡ revoked_schema) where
  pub finds : (p : Row → Bool) → ((r : Row) → list_all (holds (params ∷ r ∷ [])) filter ≡ p r) → (rows : List Row) → Shown text params old new rows
      → not (length rows == 0) ≡ list_any p (rows_of old)
  finds p is rows h =
      let got = reads_as text params old new revoked_schema has _ means.0 plain means.1 rows h in
      let a : IsAnswer (query_by filter) (overlay old.now.trees []) params rows = got.answer Null in
      let many : length rows ≡ length a.ordered = ap length a.shown ∙ length-map a.ordered (λ (o : Output). o.1) in
      let kept : length a.ordered ≡ length a.kept = length_permutation a.kept a.ordered a.same in
      let staged : length a.kept ≡ length a.staged = ap length a.distinct ∙ length-map a.staged (output (query_by filter)) in
      let all : length a.staged ≡ length (matches (overlay old.now.trees []) filter (query_by filter).from (params ∷ [])) = ap length a.grouped in
      let n : length rows ≡ length (matches (overlay old.now.trees []) filter (query_by filter).from (params ∷ [])) = many ∙ kept ∙ staged ∙ all in
      ap (λ n. not (n == 0)) n ∙ ap not (none_left filter params p is (rows_of old)) ∙ twice (list_any p (rows_of old))
    where
      twice : (b : Bool) → not (not b) ≡ b
      twice true = refl
      twice false = refl

  pub find_same : (rows : List Row) → Shown text params old new rows → IsUnchanged old new
  find_same rows h = query_same text params old new plain has rows h

  pub find_commits : (db : Trees) → CommitsShowing text params old db → ⊥
  find_commits db = query_commits text params old plain has db

-- what showed rows found the connection open
pub was_open : (text : List ℕ) (params : Row) (old new : State) (rows : List Row) → Shown text params old new rows → IsTrue old.is_open
unfolding Shown
was_open text params old new rows h = opens h.0.returning h.2
  where
    opens : (o : Option Returning) → ShowsRows old new text h.0 (timed params h.0.formats h.1.now) rows o → IsTrue old.is_open
    opens None s = s.3.0.was_open
    opens (Some what) s = s.1.shown.was_open
