use Rattle.std.proofs.Common.{◌≡◌, ◌+◌, ◌-◌, ◌<◌, ◌++◌, [], ◌∷◌, List, length, take, replicate, refl, sym, ◌∙◌, ap, arith}
use Rattle.std.proofs.lemmas.List.{append-nil, take_all, take_more_set}
use Rattle.ldar_law.specs.declared.reply.Reply.{Reply}
use Rattle.ldar_law.specs.declared.reply.Reply.TheVariants as replied
use Rattle.office_book.proofs.GroupLemmas.{faults_more, faults_none, length_set}
use Rattle.office_book.proofs.group.put_faults.Goals as goal

pub loop-place-init : goal.loop-place-init
loop-place-init c = record {
  faults = faults_none (take c.args.from c.args.replies.now) (c.args.from - c.args.from) (omega arith);
  begins = omega arith;
  long = refl;
}

pub loop-place-preserved : goal.loop-place-preserved
loop-place-preserved c =
    let was = c.loop-place.invariant in
    let i = c.loop-place.place in
    let within : i < length c.loop-place.replies = omega (arith, c.loop-place-test.true, was.long) in
    record {
      faults = take_more_set c.loop-place.replies i replied.Fault within ∙ ap (λ (l : List Reply). l ++ replied.Fault ∷ []) was.faults
          ∙ faults_more (take c.args.from c.args.replies.now) (i - c.args.from) (i + 1 - c.args.from) (omega (arith, was.begins));
      begins = omega (arith, was.begins);
      long = length_set c.loop-place.replies i replied.Fault ∙ was.long;
    }

pub returns : goal.returns
returns c =
    let was = c.loop-place.invariant in
    let i = c.loop-place.place in
    let whole = take_all i c.loop-place.replies (omega (arith, c.loop-place-test.false, was.long)) in
    let n : i - c.args.from ≡ length c.args.replies.now - c.args.from = omega (arith, c.loop-place-test.false, was.long, was.begins, c.requires.within) in
    record {
      items = sym whole ∙ was.faults ∙ ap (λ n. take c.args.from c.args.replies.now ++ replicate n replied.Fault) n;
    }
