use Rattle.std.proofs.Common.{◌≡◌, [], ◌∷◌, ◌++◌, length, take, arith, length-append}
use Rattle.std.proofs.lemmas.Bool.Decides.{nat_tests}
use Rattle.ldar_facts.specs.Grammar.{HasNoBatch}
use Rattle.ldar_journal.specs.Image.{IsBatch}
use Rattle.ldar_journal.proofs.FrameLemmas.{AllByRecursion-push, Spells-is, too_many, no_batch, one_more, nothing_left}
use Rattle.ldar_journal.proofs.frame.read_batches.Goals as goal

pub returns-then-len-eq-FRAME_BATCHES : goal.returns-then-len-eq-FRAME_BATCHES
returns-then-len-eq-FRAME_BATCHES c =
    too_many c.args.bytes.now c.loop-rest.rest.now c.loop-rest.batches.items c.loop-rest.invariant.whole c.loop-rest.invariant.each
    (omega (arith, c.loop-rest.batches.ok.0)) (grind (arith, nat_tests))

pub loop-rest-preserved : goal.loop-rest-preserved
loop-rest-preserved c =
    let rest = c.loop-rest.rest.now in
    let spells = Spells-is (take c.in-Whole.used rest) c.in-Whole.batch (rw c.in-Whole.is at c.in_ok-batch.ensures.whole).1 in
    let items = c.loop-rest.batches.items in
    let pushed : c.push.new.self.items ≡ items ++ c.in-Whole.batch ∷ [] = c.in_ok-push-in-Whole.ensures.items in
    rw pushed (record {
      whole = one_more c.args.bytes.now rest c.split_at.result.1.now items c.in-Whole.batch c.in-Whole.used c.loop-rest.invariant.whole spells.1
          c.split_at.ensures.back;
      each = AllByRecursion-push IsBatch items c.in-Whole.batch c.loop-rest.invariant.each spells.0;
      fits = omega (arith, length-append items (c.in-Whole.batch ∷ []), c.loop-rest.batches.ok.0);
    })

pub returns-in-Short : goal.returns-in-Short
returns-in-Short c =
    let none : HasNoBatch c.loop-rest.rest.now = (rw c.in-Short.is at c.in_ok-batch.ensures.short).1 in
    no_batch c.args.bytes.now c.loop-rest.rest.now c.loop-rest.batches.items c.loop-rest.invariant.whole c.loop-rest.invariant.each none
    (grind (arith, nat_tests))

pub returns-in-Bad : goal.returns-in-Bad
returns-in-Bad c =
    let none : HasNoBatch c.loop-rest.rest.now = (rw c.in-Bad.is at c.in_ok-batch.ensures.bad).1 in
    no_batch c.args.bytes.now c.loop-rest.rest.now c.loop-rest.batches.items c.loop-rest.invariant.whole c.loop-rest.invariant.each none
    (grind (arith, nat_tests))

pub returns-then-is_empty : goal.returns-then-is_empty
returns-then-is_empty c =
    let none : length c.loop-rest.rest.now ≡ 0 = grind (arith, nat_tests) in
    let read : length c.loop-rest.batches.items ≡ 0 = grind (arith, nat_tests, c.loop-rest.batches.ok.0) in
    nothing_left c.args.bytes.now c.loop-rest.rest.now c.loop-rest.batches.items c.loop-rest.invariant.whole none read
