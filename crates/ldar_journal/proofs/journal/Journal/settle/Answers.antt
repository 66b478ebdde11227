use Rattle.std.proofs.Common.{◌≡◌, ◌≢◌, ◌+◌, [], ◌∷◌, length, sym, ◌∙◌, ap, subst, arith}
use Rattle.ldar_journal.proofs.ShelfLemmas.{IsCounted-fits, behind_gate-fits, IsDoubt-is, IsShelved-fewer, IsShelved-stands, IsShelved-as}
use Rattle.ldar_journal.proofs.journal.Journal.settle.Goals as goal

pub overflow_add-self : goal.overflow_add-self
overflow_add-self g c =
    let j = c.self.inside in
    let some : j.doubt ≢ [] = λ none. c.requires.settling (ap (λ shelf. shelf.doubt) (sym c.self.view_is) ∙ none) in
    let fits = IsCounted-fits j.end j.frames c.self.invariant.counted in
    let torn = IsDoubt-is j.frames j.doubt j.torn c.self.invariant.in_doubt some in
    let frame = behind_gate-fits j.doubt torn.is in
    omega (arith, torn.long)

pub returns-in_err-stands-clause-images : goal.returns-in_err-stands-clause-images
returns-in_err-stands-clause-images g c =
    let j = c.self.inside in
    let d = g.D.Disk in
    let read = c.is_open_for_good in
    IsShelved-as (d.content read.new.disk) (d.images read.new.disk) j.end j.frames j.doubt j.torn
    (IsShelved-fewer (d.content j.disk) (d.content read.new.disk) (d.images j.disk) (d.images read.new.disk) j.end j.frames j.doubt j.torn
    c.self.invariant
    read.ensures.unchanged read.ensures.crash)

-- reading the gate changes neither the bytes nor the frame in doubt

pub invariant_of-self-2 : goal.invariant_of-self-2
invariant_of-self-2 g c =
    let j = c.self.inside in
    let d = g.D.Disk in
    let read = c.is_open_for_good in
    let some : j.doubt ≢ [] = λ none. c.requires.settling (ap (λ shelf. shelf.doubt) (sym c.self.view_is) ∙ none) in
    let fewer = IsShelved-fewer (d.content j.disk) (d.content read.new.disk) (d.images j.disk) (d.images read.new.disk) j.end j.frames j.doubt j.torn
    c.self.invariant
    read.ensures.unchanged read.ensures.crash in
    let none : c.none-self-inside-2.result ≡ [] = cc in
    let is_open = rw c.if-not-stands.false at c.in_ok-stands.ensures.value in
    rw (c.push_noted.ensures.value, none) (
    IsShelved-stands (d.content read.new.disk) (d.images read.new.disk) j.end j.frames j.doubt j.torn fewer some c.in_ok-stands.ensures.durable is_open)

pub returns-clause-images : goal.returns-clause-images
returns-clause-images g c =
    let j = c.self.inside in
    let d = g.D.Disk in
    let read = c.is_open_for_good in
    IsShelved-as (d.content read.new.disk) (d.images read.new.disk) (j.end + j.torn) c.push_noted.new.self c.none-self-inside-2.result 0 (invariant_of-self-2 g c)
