use Rattle.std.proofs.Common.{◌≡◌, true, false, ap, ◌∙◌}
use Rattle.csv.specs.Reading.{builder_config, builder_names_headers, builder_trim, with_flexible, with_names_headers}
use Rattle.csv.specs.declared.reader.ReaderBuilder.{ReaderBuilder}
use Rattle.csv_rows.proofs.RecordLemmas.{all_left}
use Rattle.csv_rows.proofs.records.reader_of.Goals as goal

pub returns-clause-value : goal.returns-clause-value
returns-clause-value c =
    let made : c.flexible.result.now ≡ with_flexible (with_names_headers c.new.result false) true =
    c.flexible.ensures ∙ ap (λ (b : ReaderBuilder). with_flexible b true) c.has_headers.ensures in
    (
    all_left
    c.from_reader.result
    c.args.text.now
    (c.from_reader.ensures.trim ∙ ap builder_trim made ∙ c.new.ensures.trim)
    (c.from_reader.ensures.has_headers ∙ ap builder_names_headers made)
    c.from_reader.ensures.headers
    (c.from_reader.ensures.config ∙ ap builder_config made ∙ c.new.ensures.config)
    c.from_reader.ensures.state
    c.from_reader.ensures.source
    ).1
