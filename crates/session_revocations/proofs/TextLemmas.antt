-- What the texts of the statements mean.
use Rattle.std.proofs.Common.{◌≡◌, ℕ, pos, negsuc, List, [], ◌∷◌, codes, false, None, Ok, refl}
use Rattle.sqlite.proofs.Callers.{IsPlain, command_of, statement_of}
use Rattle.sqlite.specs.Collation.TheVariants.{Binary}
use Rattle.sqlite.specs.Command.TheVariants.{CreateTable, Delete, Insert, Select}
use Rattle.sqlite.specs.Compile.{table_defined_by}
use Rattle.sqlite.specs.Listing.{reads_listing, understood}
use Rattle.sqlite.specs.Query.{Query, end, inner}
use Rattle.sqlite.specs.Source.TheVariants.{Values}
use Rattle.sqlite.specs.Term.{Term, col, lit, op2}
use Rattle.sqlite.specs.declared.types.Value.TheVariants.{Int, Null}
use Rattle.sqlite_sql.specs.declared.ops.BinaryOp.TheVariants.{Compare}
use Rattle.sqlite_sql.specs.declared.ops.CompareOp.TheVariants.{Eq, Ge, Le}
use Rattle.sqlite_tied.specs.Compute.{everything}
use Rattle.sqlite_value.specs.Keys.{ascending}
use Rattle.session_revocations.specs.Table.{no_schema, revoked, revoked_schema}
use Rattle.session_revocations.proofs.AnswerLemmas.{query_of}

abbrev pub create_text : List ℕ
create_text = codes "CREATE TABLE revoked (id BLOB NOT NULL, until INTEGER NOT NULL, PRIMARY KEY (id, until)) STRICT"

abbrev pub insert_text : List ℕ
insert_text = codes "INSERT INTO revoked (id, until) VALUES (?1, ?2)"

abbrev pub find_text : List ℕ
find_text = codes "SELECT until FROM revoked WHERE id = ?1"

abbrev pub until_text : List ℕ
until_text = codes "SELECT until FROM revoked WHERE id = ?1 AND until >= ?2"

-- what an insertion reads: no rowid, and the two parameters
abbrev pub terms : List Term
terms = lit Null ∷ col 0 0 ∷ col 0 1 ∷ []

-- the column `until` of the rows of the table that pass a filter
abbrev pub query_by : List Term → Query
query_by filter = record {
  from = inner 0 end;
  filter = filter;
  group = None;
  project = col 1 2 ∷ [];
  distinct = false;
  collations = [];
  order = [];
  limit = lit (Int (negsuc 0));
  offset = lit (Int (pos 0));
}

abbrev pub id_is : Term
id_is = op2 (Compare Eq Binary) (col 1 1) (col 0 0)

abbrev pub until_since : Term
until_since = op2 (Compare Ge Binary) (col 1 2) (col 0 1)

pub create_is : (command_of (understood no_schema create_text) ≡ CreateTable) × (statement_of create_text (understood no_schema create_text) ≡ create_text) × (table_defined_by create_text ≡ Ok revoked)
unfolding understood everything
create_is = (refl, refl, refl)

pub create_plain : IsPlain (understood no_schema create_text)
unfolding understood everything
create_plain = (refl, refl)

pub insert_is : command_of (understood revoked_schema insert_text) ≡ Insert 0 (Values terms 3)
unfolding understood everything
insert_is = refl

pub insert_plain : IsPlain (understood revoked_schema insert_text)
unfolding understood everything
insert_plain = (refl, refl)

abbrev pub Finds : List ℕ → List Term → Type 0
Finds text filter = (command_of (understood revoked_schema text) ≡ Select (record { lets = []; body = query_by filter }) (codes "until" ∷ [])) × (reads_listing revoked_schema text ≡ false)

pub find_is : Finds find_text (id_is ∷ [])
unfolding understood everything
find_is = (refl, refl)

pub find_plain : IsPlain (understood revoked_schema find_text)
unfolding understood everything
find_plain = (refl, refl)

pub until_is : Finds until_text (id_is ∷ until_since ∷ [])
unfolding understood everything
until_is = (refl, refl)

pub until_plain : IsPlain (understood revoked_schema until_text)
unfolding understood everything
until_plain = (refl, refl)

abbrev pub keyed_text : List ℕ
keyed_text = codes "SELECT rowid, until FROM revoked ORDER BY rowid"

abbrev pub delete_text : List ℕ
delete_text = codes "DELETE FROM revoked WHERE until <= ?1"

-- the rowid and the second
abbrev pub keyed : List Term
keyed = col 1 0 ∷ col 1 2 ∷ []

abbrev pub past : List Term
past = op2 (Compare Le Binary) (col 1 2) (col 0 0) ∷ []

pub keyed_is : (command_of (understood revoked_schema keyed_text) ≡ Select (record { lets = []; body = query_of [] keyed ((col 1 0, ascending Binary) ∷ []) }) (codes "rowid" ∷ codes "until" ∷ []))
    × (reads_listing revoked_schema keyed_text ≡ false)
unfolding understood everything
keyed_is = (refl, refl)

pub keyed_plain : IsPlain (understood revoked_schema keyed_text)
unfolding understood everything
keyed_plain = (refl, refl)

pub delete_is : command_of (understood revoked_schema delete_text) ≡ Delete 0 (record { lets = []; body = query_of past (col 1 0 ∷ []) [] })
unfolding understood everything
delete_is = refl

pub delete_plain : IsPlain (understood revoked_schema delete_text)
unfolding understood everything
delete_plain = (refl, refl)
