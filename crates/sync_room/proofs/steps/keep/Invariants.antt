use Rattle.office_book.specs.Safe.{moment_of}
use Rattle.sync_room.proofs.steps.keep.Given as goal

abbrev pub ghosts-keep_as : goal.ghosts-keep_as
ghosts-keep_as g a = record { request = a._request.now; reply = a._reply.now; after = moment_of g.D.Disk.clock g.D.Disk.faults a._book.now }
