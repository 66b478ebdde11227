-- The rows of a text of process units, from its document.
use Rattle.std.proofs.Common.{◌≡◌, ℕ, List, Some, None, Err, refl, inl, inr}
use Rattle.std.proofs.lemmas.Bool.{cases_Bool}
use Rattle.std.proofs.lemmas.Str.{IsUtf8-from_is_utf8, is_utf8-from_IsUtf8}
use Rattle.std.specs.Str.{IsUtf8, is_utf8}
use Rattle.toml.specs.Data.{Members}
use Rattle.toml.specs.Parse.{parse_document}
use Rattle.register_import.specs.Units.{elements_of, rows_of_elements, unit_rows}

-- a text that is not a document is bad row 0
pub no_document : (text : List ℕ) → (IsUtf8 text → parse_document text ≡ None) → unit_rows text ≡ Err 0
unfolding unit_rows
no_document text refused =
    elim (cases_Bool (is_utf8 text)) [
      | inl is ↦ rw (is, refused (IsUtf8-from_is_utf8 text is)) refl
      | inr not ↦ rw not refl
    ]

-- the rows of a document are those of its elements
pub of_document : (text : List ℕ) (table : Members) → IsUtf8 text → parse_document text ≡ Some table
    → unit_rows text ≡ rows_of_elements (elements_of table)
unfolding unit_rows
of_document text table is parsed = rw (is_utf8-from_IsUtf8 text is, parsed) refl
