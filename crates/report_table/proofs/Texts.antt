-- The meaning of the four texts.
use Rattle.std.proofs.Common.{◌≡◌, ℕ, pos, negsuc, List, [], ◌∷◌, codes, true, false, None, Ok, refl}
use Rattle.sqlite.specs.Collation.TheVariants.{Binary}
use Rattle.sqlite.specs.declared.types.Value.TheVariants.{Null, Int}
use Rattle.sqlite.specs.Command.TheVariants.{Insert, Select, CreateTable}
use Rattle.sqlite.specs.Source.TheVariants.{Query as Queried}
use Rattle.sqlite.specs.Query.{Query, inner, end}
use Rattle.sqlite.specs.Term.{Term, lit, col, op2}
use Rattle.sqlite.specs.Compile.{table_defined_by}
use Rattle.sqlite_tied.specs.Compute.{everything}
use Rattle.sqlite.specs.Listing.{understood, reads_listing}
use Rattle.sqlite.proofs.Callers.{IsPlain, command_of, statement_of}
use Rattle.sqlite_schema.specs.declared.program.Program.{Program}
use Rattle.sqlite_sql.specs.declared.ops.BinaryOp.TheVariants.{Compare}
use Rattle.sqlite_sql.specs.declared.ops.CompareOp.TheVariants.{Eq}
use Rattle.report_table.specs.Rows.{filed, filed_schema, no_schema}
use Rattle.report_table.specs.Statements.{make_text, insert_text, latest_text, revision_text}

abbrev pub is : Term → Term → Term
is a b = op2 (Compare Eq Binary) a b

-- the parameters, as one row
abbrev pub insert_query : Query
insert_query = record {
  from = end;
  filter = [];
  group = None;
  project = lit Null ∷ col 0 0 ∷ col 0 1 ∷ col 0 2 ∷ col 0 3 ∷ col 0 4 ∷ col 0 5 ∷ col 0 6 ∷ [];
  distinct = false;
  collations = Binary ∷ Binary ∷ Binary ∷ Binary ∷ Binary ∷ Binary ∷ Binary ∷ Binary ∷ [];
  order = [];
  limit = lit (Int (negsuc 0));
  offset = lit (Int (pos 0));
}

abbrev pub shown_terms : List Term
shown_terms = col 1 3 ∷ col 1 4 ∷ col 1 5 ∷ col 1 6 ∷ col 1 7 ∷ []

abbrev pub latest_query : Query
latest_query = record {
  from = inner 0 end;
  filter = is (col 1 1) (col 0 0) ∷ is (col 1 2) (col 0 1) ∷ [];
  group = None;
  project = shown_terms;
  distinct = false;
  collations = [];
  order = (col 1 3, record { collation = Binary; descending = true }) ∷ [];
  limit = lit (Int (pos 1));
  offset = lit (Int (pos 0));
}

abbrev pub revision_query : Query
revision_query = record {
  from = inner 0 end;
  filter = is (col 1 1) (col 0 0) ∷ is (col 1 2) (col 0 1) ∷ is (col 1 3) (col 0 2) ∷ [];
  group = None;
  project = shown_terms;
  distinct = false;
  collations = [];
  order = [];
  limit = lit (Int (negsuc 0));
  offset = lit (Int (pos 0));
}

abbrev pub alone : Query → Program
alone query = record { lets = []; body = query }

abbrev pub names : List (List ℕ)
names = codes "revision" ∷ codes "day" ∷ codes "months" ∷ codes "delays" ∷ codes "stops" ∷ []

-- the create statement makes the table
pub make_is : (command_of (understood no_schema make_text) ≡ CreateTable) × (statement_of make_text (understood no_schema make_text) ≡ make_text) × (table_defined_by make_text ≡ Ok filed)
unfolding understood everything
make_is = (refl, refl, refl)

pub make_plain : IsPlain (understood no_schema make_text)
unfolding understood everything
make_plain = (refl, refl)

-- the insert statement adds one row
pub insert_is : command_of (understood filed_schema insert_text) ≡ Insert 0 (Queried (alone insert_query))
unfolding understood everything
insert_is = refl

pub insert_plain : IsPlain (understood filed_schema insert_text)
unfolding understood everything
insert_plain = (refl, refl)

-- the first select lists the last row of a unit's half
pub latest_is : (command_of (understood filed_schema latest_text) ≡ Select (alone latest_query) names) × (reads_listing filed_schema latest_text ≡ false)
unfolding understood everything
latest_is = (refl, refl)

pub latest_plain : IsPlain (understood filed_schema latest_text)
unfolding understood everything
latest_plain = (refl, refl)

-- the second select lists the row of a revision
pub revision_is : (command_of (understood filed_schema revision_text) ≡ Select (alone revision_query) names) × (reads_listing filed_schema revision_text ≡ false)
unfolding understood everything
revision_is = (refl, refl)

pub revision_plain : IsPlain (understood filed_schema revision_text)
unfolding understood everything
revision_plain = (refl, refl)
