-- The records that a reader has not read yet.
use Rattle.std.proofs.Common.{◌≡◌, ℕ, zero, suc, Bool, true, false, List, [], ◌∷◌, length, Option, Some, None, refl, sym, ap, ◌∙◌, inr, Bor}
use Rattle.csv.specs.Reading.{Reached, ReadRecord, ReadsOn, default_config, names_headers, reader_config}
use Rattle.csv.specs.Reading.{reader_headers, reader_state, reader_trim, records_from, records_next, strip_bom}
use Rattle.csv.specs.declared.parser.State.{State}
use Rattle.csv.specs.declared.parser.State.TheVariants as st
use Rattle.csv.specs.declared.reader.Trim.TheVariants as trim
use Rattle.csv.proofs.ReadFacts.{rows-end, rows-more}
use Rattle.csv_rows.proofs.EnoughLemmas.{enough}
use Rattle.csv_rows.specs.Records.{IsReading, TextReader, bytes_left, left_of, or_none, records_left, records_of}

-- the bytes of a slice are known
abbrev known : Bor (List ℕ) → Option (List ℕ)
known text = Some text.now

-- reading no record leaves a text as it is
none_yet : (s : State) (bytes : List ℕ) → Reached default_config s bytes [] s bytes
unfolding Reached
none_yet s bytes = (refl, refl)

-- reading one record leaves the bytes after it
one_record : (s t : State) (bytes rest : List ℕ) (fields : List (List ℕ)) (n : ℕ) → Reached default_config s bytes (fields ∷ []) t rest
    → records_from default_config (suc n) s bytes ≡ fields ∷ records_from default_config n t rest
unfolding Reached records_from
one_record s t bytes rest fields n reached =
    let (read, next, is, there) = reached in
    rw (next, is, ← there.0, ← there.1) refl

-- a record that was read is the first of the unread ones, and the others are still unread
pub next_is : (old new : TextReader) (fields : List (List ℕ)) → IsReading old → ReadRecord known old new true fields → ReadsOn old new
    → IsReading new × ((n : ℕ) → records_left (suc n) old ≡ fields ∷ records_left n new)
next_is old new fields reading read on =
    let bytes = bytes_left old in
    let s = reader_state old in
    let (rest, source, reached) = rows-more known old new fields default_config s bytes bytes [] reading.config reading.source (none_yet s bytes) read in
    let left : bytes_left new ≡ rest = ap or_none source in (
      record {
        trim = on.1 ∙ reading.trim;
        ready = (on.4 reading.ready).0;
        config = on.0 ∙ reading.config;
        source = source ∙ ap Some (sym left);
      },
      (λ n. rw left (one_record s (reader_state new) bytes rest fields n reached)),
    )

-- the same, if the call returned that a record was read
pub found_is : (old new : TextReader) (fields : List (List ℕ)) (found : Bool) → found ≡ true → IsReading old → ReadRecord known old new found fields
    → (found ≡ true → ReadsOn old new)
    → IsReading new × ((n : ℕ) → records_left (suc n) old ≡ fields ∷ records_left n new)
found_is old new fields true is reading read on = next_is old new fields reading read (on refl)
found_is old new fields false is reading read on = absurd cc

-- if no record was read, none is left
pub none_left : (old new : TextReader) (fields : List (List ℕ)) (n : ℕ) → IsReading old → ReadRecord known old new false fields → records_left n old ≡ []
unfolding records_from
none_left old new fields zero reading read = refl
none_left old new fields (suc n) reading read =
    ap (records_next (records_from default_config n)) (rows-end known old new fields default_config (bytes_left old) reading.config reading.source read)

-- all records of the text are unread by a new reader
pub all_left : (reader : TextReader) (text : List ℕ) → reader_trim reader ≡ trim.None → names_headers reader ≡ false → reader_headers reader ≡ None
    → reader_config reader ≡ default_config → reader_state reader ≡ st.StartRecord → left_of reader ≡ Some (strip_bom text)
    → IsReading reader × (records_of text ≡ records_left (suc (length text)) reader)
unfolding records_of
all_left reader text plain unnamed headless config start source =
    let bytes : bytes_left reader ≡ strip_bom text = ap or_none source in (
      record { trim = plain; ready = inr (inr (unnamed, headless)); config = config; source = source ∙ ap Some (sym bytes) },
      rw (start, bytes) (enough text),
    )

-- the same, if the call returned that no record was read
pub none_found : (old new : TextReader) (fields : List (List ℕ)) (found : Bool) → found ≡ false → (n : ℕ) → IsReading old
    → ReadRecord known old new found fields → records_left n old ≡ []
none_found old new fields true is n reading read = absurd cc
none_found old new fields false is n reading read = none_left old new fields n reading read

-- a limit of 0 records gives none
pub none_more : (n : ℕ) (reader : TextReader) → n ≡ 0 → records_left n reader ≡ []
unfolding records_from
none_more n reader no_more = rw no_more refl
