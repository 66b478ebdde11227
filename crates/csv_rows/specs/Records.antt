-- The records of a text, as the crate `csv` reads it with its default settings and without a header.
use Rattle.std.specs.Prelude.{◌≡◌, ℕ, List, [], Option, Some, None}
use Rattle.std.specs.Borrow.{Bor}
use Rattle.csv.specs.Reading.{Ready, default_config, reader_config, reader_state, reader_trim, records, records_from, source_of, strip_bom}
use Rattle.csv.specs.declared.reader.Reader.{Reader}
use Rattle.csv.specs.declared.reader.Trim.TheVariants as trim

-- all records of a text, after the byte order mark if there is one
unfoldable pub records_of : List ℕ → List (List (List ℕ))
records_of text = records default_config (strip_bom text)

-- a reader of a text
abbrev pub TextReader : Type 0
TextReader = Reader (Bor (List ℕ))

-- the reader's unread bytes, if they are known
abbrev pub left_of : TextReader → Option (List ℕ)
left_of reader = source_of (λ text. Some text.now) reader

-- the bytes, or none if they are unknown
abbrev pub or_none : Option (List ℕ) → List ℕ
or_none None = []
or_none (Some bytes) = bytes

-- the reader's unread bytes
abbrev pub bytes_left : TextReader → List ℕ
bytes_left reader = or_none (left_of reader)

-- the reader is not at its end and has the default settings
pub record IsReading (reader : TextReader) : Type 0 where
  pub trim : reader_trim reader ≡ trim.None
  pub ready : Ready reader
  pub config : reader_config reader ≡ default_config
  pub source : left_of reader ≡ Some (bytes_left reader)

-- at most n of the reader's unread records
abbrev pub records_left : ℕ → TextReader → List (List (List ℕ))
records_left most reader = records_from default_config most (reader_state reader) (bytes_left reader)
