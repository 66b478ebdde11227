use Rattle.std.proofs.Common.{◌≡◌, true, false}
use Rattle.csv.specs.Records.{fields_of}
use Rattle.csv_rows.proofs.RecordLemmas.{found_is, none_found}
use Rattle.csv_rows.proofs.records.next_record.Goals as goal

pub returns-clause-found : goal.returns-clause-found
returns-clause-found c found =
    let is : c.in-Ok.found ≡ true = cc in
    found_is c.args.reader.now c.read_byte_record.new.self (fields_of c.read_byte_record.new.row) c.in-Ok.found is c.requires.reading
    (c.in-Ok.ensures.reads c.requires.reading.trim c.requires.reading.ready) c.in-Ok.ensures.reads_on

pub returns-clause-none : goal.returns-clause-none
returns-clause-none c none n =
    let is : c.in-Ok.found ≡ false = cc in
    none_found c.args.reader.now c.read_byte_record.new.self (fields_of c.read_byte_record.new.row) c.in-Ok.found is n c.requires.reading
    (c.in-Ok.ensures.reads c.requires.reading.trim c.requires.reading.ready)
