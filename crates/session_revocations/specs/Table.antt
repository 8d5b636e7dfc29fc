-- The table in the database: an id, and the second until which it is revoked. Its key is both of them.
use Rattle.std.specs.Prelude.{ℕ, List, [], ◌∷◌, None, codes, true, false}
use Rattle.sqlite.specs.Collation.TheVariants.{Binary}
use Rattle.sqlite.specs.Kind.TheVariants.{Integer, Blob}
use Rattle.sqlite.specs.Schema.{Schema}
use Rattle.sqlite.specs.Table.{Table}
use Rattle.sqlite.specs.declared.types.Value.TheVariants.{Null}
use Rattle.sqlite_schema.specs.declared.schema.Column.{Column}
use Rattle.sqlite_schema.specs.declared.schema.Index.{Index}
use Rattle.sqlite_schema.specs.declared.schema.Kind.{Kind}
use Rattle.sqlite_value.specs.Keys.{plain}

-- a column NOT NULL of a STRICT table
abbrev pub column_of : List ℕ → Kind → Column
column_of name kind =
    record { name = name; kind = kind; is_strict = true; not_null = true; default = Null; collation = Binary }

-- CREATE TABLE revoked (id BLOB NOT NULL, until INTEGER NOT NULL, PRIMARY KEY (id, until)) STRICT
abbrev pub revoked : Table
revoked = record {
  name = codes "revoked";
  tree = 0;
  columns = column_of (codes "id") Blob ∷ column_of (codes "until") Integer ∷ [];
  key = None;
  primary = 1 ∷ 2 ∷ [];
  uniques = (1 ∷ 2 ∷ []) ∷ [];
  orders = plain ∷ [];
  checks = [];
  references = [];
  computed = [];
  stamps = record { places = []; terms = []; formats = [] };
  is_counted = false;
}

-- the index that SQLite makes for the key
abbrev pub revoked_key : Index
revoked_key = record {
  name = codes "sqlite_autoindex_revoked_1";
  tree = 1;
  table = 0;
  columns = 1 ∷ 2 ∷ [];
  order = plain;
  is_unique = true;
}

-- a database that has this table and nothing else
abbrev pub revoked_schema : Schema
revoked_schema = record { tables = revoked ∷ []; indexes = revoked_key ∷ []; views = [] }

-- a database that has nothing
abbrev pub no_schema : Schema
no_schema = record { tables = []; indexes = []; views = [] }
