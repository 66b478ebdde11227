use Rattle.std.proofs.Common.{length}
use Rattle.touched_readings.proofs.search.+touch_between.Given as goal

abbrev pub decreases-touch_between : goal.decreases-touch_between
decreases-touch_between g l = length l.places.now
