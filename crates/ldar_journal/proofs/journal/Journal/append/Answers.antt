use Rattle.std.proofs.Common.{◌≡◌, ◌+◌, List, [], ◌∷◌, ◌++◌, length, sym, ◌∙◌, ap, arith}
use Rattle.ldar_journal.proofs.ShelfLemmas.{IsCounted-fits, behind_gate-fits, ready, IsShelved-shut, put_moments, put_leaves_frames, IsShelved-torn}
use Rattle.ldar_journal.proofs.ShelfLemmas.{doubt_at_end}
use Rattle.ldar_journal.proofs.ShelfLemmas.{IsShelved-appended, append_moments, IsShelved-as, IsShelved-opens, from_ok}
use Rattle.ldar_journal.proofs.journal.Journal.append.Goals as goal

pub put_behind-requires : goal.put_behind-requires
put_behind-requires g c = let fits = IsCounted-fits c.self.inside.end c.self.inside.frames c.self.invariant.counted in omega arith

pub overflow_add-self : goal.overflow_add-self
overflow_add-self g c =
    let fits = IsCounted-fits c.self.inside.end c.self.inside.frames c.self.invariant.counted in
    let frame = behind_gate-fits c.args.frame.now c.bytes-bytes.ensures.is_frame in
    omega (arith, ap length c.bytes-bytes.ensures.value)

-- the frame could not be written after the gate

pub invariant_of-self : goal.invariant_of-self
invariant_of-self g c =
    let j = c.self.inside in
    let d = g.D.Disk in
    let put = c.put_behind in
    let is_ready = ready d.content d.images j.disk j.end j.frames j.doubt c.args.frame.now j.torn c.args.self.now c.self.view_is c.self.invariant
    c.requires.settled
    c.bytes-bytes.ensures.is_frame c.requires.kept in
    IsShelved-shut d.clock d.left d.images d.content j.disk j.end j.frames j.doubt c.args.frame.now j.torn is_ready
    put.new.disk (length c.bytes-bytes.result.now) put.ensures.front put.ensures.crash put.ensures.any_moment

pub returns-then-is_err-clause-opens : goal.returns-then-is_err-clause-opens
returns-then-is_err-clause-opens g c =
    let j = c.self.inside in
    IsShelved-opens (g.D.Disk.content c.put_behind.new.disk) (g.D.Disk.images c.put_behind.new.disk) j.end j.frames j.doubt j.torn (invariant_of-self g c)

pub returns-then-is_err-clause-images : goal.returns-then-is_err-clause-images
returns-then-is_err-clause-images g c =
    let j = c.self.inside in
    IsShelved-as (g.D.Disk.content c.put_behind.new.disk) (g.D.Disk.images c.put_behind.new.disk) j.end j.frames j.doubt j.torn (invariant_of-self g c)

pub returns-then-is_err-clause-any_moment : goal.returns-then-is_err-clause-any_moment
returns-then-is_err-clause-any_moment g c =
    let j = c.self.inside in
    let d = g.D.Disk in
    let put = c.put_behind in
    let is_ready = ready d.content d.images j.disk j.end j.frames j.doubt c.args.frame.now j.torn c.args.self.now c.self.view_is c.self.invariant
    c.requires.settled
    c.bytes-bytes.ensures.is_frame c.requires.kept in
    rw (← c.self.view_is) (put_moments d.clock d.left d.images d.content j.disk j.end j.frames j.doubt c.args.frame.now j.torn is_ready
    put.new.disk (length c.bytes-bytes.result.now) put.ensures.front put.ensures.crash put.ensures.any_moment)

pub returns-then-is_err-clause-any_moment_shut : goal.returns-then-is_err-clause-any_moment_shut
returns-then-is_err-clause-any_moment_shut g c = λ shut.
    let j = c.self.inside in
    let d = g.D.Disk in
    let put = c.put_behind in
    let is_ready = ready d.content d.images j.disk j.end j.frames j.doubt c.args.frame.now j.torn c.args.self.now c.self.view_is c.self.invariant
    c.requires.settled
    c.bytes-bytes.ensures.is_frame c.requires.kept in
    rw (← c.self.view_is) (put_leaves_frames d.clock d.left d.images d.content j.disk j.end j.frames j.doubt c.args.frame.now j.torn is_ready
    put.new.disk (length c.bytes-bytes.result.now) put.ensures.front put.ensures.crash put.ensures.any_moment)

-- the gate could not be opened

pub invariant_of-self-then-is_err-2 : goal.invariant_of-self-then-is_err-2
invariant_of-self-then-is_err-2 g c =
    let j = c.self.inside in
    let d = g.D.Disk in
    let put = c.put_behind in
    let is_ready = ready d.content d.images j.disk j.end j.frames j.doubt c.args.frame.now j.torn c.args.self.now c.self.view_is c.self.invariant
    c.requires.settled
    c.bytes-bytes.ensures.is_frame c.requires.kept in
    let was_put = sym c.is_err.ensures.value ∙ c.if-is_err.false in
    let holds = from_ok put.result was_put put.ensures.put in
    let stable = from_ok put.result was_put put.ensures.durable in
    rw (c.note-self-inside.ensures.value, c.bytes-bytes.ensures.value) (
    IsShelved-torn d.clock d.left d.images d.content j.disk j.end j.frames j.doubt c.args.frame.now j.torn is_ready
    put.new.disk (length c.bytes-bytes.result.now) put.ensures.front put.ensures.crash put.ensures.any_moment
    c.open_gate.new.disk (rw c.bytes-bytes.ensures.value at holds) stable c.open_gate.ensures.others c.open_gate.ensures.crash)

pub returns-then-is_err-2-clause-opens : goal.returns-then-is_err-2-clause-opens
returns-then-is_err-2-clause-opens g c =
    let j = c.self.inside in
    IsShelved-opens (g.D.Disk.content c.open_gate.new.disk) (g.D.Disk.images c.open_gate.new.disk) j.end j.frames c.note-self-inside.result
    (length c.bytes-bytes.result.now)
    (invariant_of-self-then-is_err-2 g c)

pub returns-then-is_err-2-clause-images : goal.returns-then-is_err-2-clause-images
returns-then-is_err-2-clause-images g c =
    let j = c.self.inside in
    IsShelved-as (g.D.Disk.content c.open_gate.new.disk) (g.D.Disk.images c.open_gate.new.disk) j.end j.frames c.note-self-inside.result
    (length c.bytes-bytes.result.now)
    (invariant_of-self-then-is_err-2 g c)

pub returns-then-is_err-2-clause-behind : goal.returns-then-is_err-2-clause-behind
returns-then-is_err-2-clause-behind g c = λ torn.
    let j = c.self.inside in
    let d = g.D.Disk in
    let put = c.put_behind in
    let is_ready = ready d.content d.images j.disk j.end j.frames j.doubt c.args.frame.now j.torn c.args.self.now c.self.view_is c.self.invariant
    c.requires.settled
    c.bytes-bytes.ensures.is_frame c.requires.kept in
    let was_put = sym c.is_err.ensures.value ∙ c.if-is_err.false in
    let holds = from_ok put.result was_put put.ensures.put in
    let stable = from_ok put.result was_put put.ensures.durable in
    doubt_at_end d.clock d.left d.images d.content j.disk j.end j.frames j.doubt c.args.frame.now j.torn is_ready
    put.new.disk (length c.bytes-bytes.result.now) put.ensures.front put.ensures.crash put.ensures.any_moment
    c.open_gate.new.disk (rw c.bytes-bytes.ensures.value at holds) stable c.open_gate.ensures.others c.open_gate.ensures.crash

pub returns-then-is_err-2-clause-any_moment : goal.returns-then-is_err-2-clause-any_moment
returns-then-is_err-2-clause-any_moment g c =
    let j = c.self.inside in
    let d = g.D.Disk in
    let put = c.put_behind in
    let is_ready = ready d.content d.images j.disk j.end j.frames j.doubt c.args.frame.now j.torn c.args.self.now c.self.view_is c.self.invariant
    c.requires.settled
    c.bytes-bytes.ensures.is_frame c.requires.kept in
    let was_put = sym c.is_err.ensures.value ∙ c.if-is_err.false in
    let holds = from_ok put.result was_put put.ensures.put in
    let stable = from_ok put.result was_put put.ensures.durable in
    rw (← c.self.view_is) (append_moments d.clock d.left d.images d.content j.disk j.end j.frames j.doubt c.args.frame.now j.torn is_ready
    put.new.disk (length c.bytes-bytes.result.now) put.ensures.front put.ensures.crash put.ensures.any_moment
    c.open_gate.new.disk (rw c.bytes-bytes.ensures.value at holds) stable c.open_gate.ensures.others c.open_gate.ensures.crash
    put.ensures.keeps.time c.open_gate.ensures.any_moment)

-- the frame is kept

pub invariant_of-self-2 : goal.invariant_of-self-2
invariant_of-self-2 g c =
    let j = c.self.inside in
    let d = g.D.Disk in
    let put = c.put_behind in
    let is_ready = ready d.content d.images j.disk j.end j.frames j.doubt c.args.frame.now j.torn c.args.self.now c.self.view_is c.self.invariant
    c.requires.settled
    c.bytes-bytes.ensures.is_frame c.requires.kept in
    let was_put = sym c.is_err.ensures.value ∙ c.if-is_err.false in
    let holds = from_ok put.result was_put put.ensures.put in
    let stable = from_ok put.result was_put put.ensures.durable in
    let was_opened = sym c.is_err-2.ensures.value ∙ c.if-is_err-2.false in
    rw (c.add_to.ensures.value, c.bytes-bytes.ensures.value) (
    IsShelved-appended d.clock d.left d.images d.content j.disk j.end j.frames j.doubt c.args.frame.now j.torn is_ready
    put.new.disk (length c.bytes-bytes.result.now) put.ensures.front put.ensures.crash put.ensures.any_moment
    c.open_gate.new.disk (rw c.bytes-bytes.ensures.value at holds) stable c.open_gate.ensures.others c.open_gate.ensures.crash
    (from_ok c.open_gate.result was_opened c.open_gate.ensures.opened) (from_ok c.open_gate.result was_opened c.open_gate.ensures.durable))

pub returns-clause-opens : goal.returns-clause-opens
returns-clause-opens g c =
    let j = c.self.inside in
    IsShelved-opens (g.D.Disk.content c.open_gate.new.disk) (g.D.Disk.images c.open_gate.new.disk) (j.end + length c.bytes-bytes.result.now)
    c.add_to.new.frames j.doubt j.torn
    (invariant_of-self-2 g c)

pub returns-clause-images : goal.returns-clause-images
returns-clause-images g c =
    let j = c.self.inside in
    IsShelved-as (g.D.Disk.content c.open_gate.new.disk) (g.D.Disk.images c.open_gate.new.disk) (j.end + length c.bytes-bytes.result.now) c.add_to.new.frames
    j.doubt j.torn
    (invariant_of-self-2 g c)

pub returns-clause-any_moment : goal.returns-clause-any_moment
returns-clause-any_moment g c =
    let j = c.self.inside in
    let d = g.D.Disk in
    let put = c.put_behind in
    let is_ready = ready d.content d.images j.disk j.end j.frames j.doubt c.args.frame.now j.torn c.args.self.now c.self.view_is c.self.invariant
    c.requires.settled
    c.bytes-bytes.ensures.is_frame c.requires.kept in
    let was_put = sym c.is_err.ensures.value ∙ c.if-is_err.false in
    let holds = from_ok put.result was_put put.ensures.put in
    let stable = from_ok put.result was_put put.ensures.durable in
    rw (← c.self.view_is) (append_moments d.clock d.left d.images d.content j.disk j.end j.frames j.doubt c.args.frame.now j.torn is_ready
    put.new.disk (length c.bytes-bytes.result.now) put.ensures.front put.ensures.crash put.ensures.any_moment
    c.open_gate.new.disk (rw c.bytes-bytes.ensures.value at holds) stable c.open_gate.ensures.others c.open_gate.ensures.crash
    put.ensures.keeps.time c.open_gate.ensures.any_moment)
