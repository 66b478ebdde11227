use Rattle.std.proofs.Common.{◌≡◌, ◌+◌, Some, None, refl, sym, ap, ◌∙◌, arith}
use Rattle.fact_kinds.specs.Facts.{key_of}
use Rattle.batch_rules.specs.declared.share.Share.{Share}
use Rattle.batch_rules.specs.Known.{batch_of, register_by}
use Rattle.batch_rules.specs.Seen.{seen_in, seen_with, share_seen}
use Rattle.batch_rules.specs.Shares.{added, changed, share_in}
use Rattle.batch_rules.proofs.SeenLemmas.{added_seen, seen_now, touched_same, touched_more}
use Rattle.batch_rules.proofs.ShareSteps.{share_same, share_changes}
use Rattle.batch_rules.proofs.valves.share_after.Goals as goal

pub returns-in_default-clause-value : goal.returns-in_default-clause-value
returns-in_default-clause-value c =
    let fact = c.index-known-index.result in
    let is : changed c.fact.inside.body ≡ changed fact.body = ap (λ s. changed s.body) (c.fact.view_is ∙ sym c.index-known-index.is) in
    let none : changed fact.body ≡ None = sym is ∙ sym c.changed.ensures.value ∙ c.in_default.is in
    c.requires.so_far ∙ sym (share_same c.args.unit c.args.day c.args.known.now c.args.index fact c.requires.within c.index-known-index.is none)

pub returns-in_default-clause-touched : goal.returns-in_default-clause-touched
returns-in_default-clause-touched c =
    let fact = c.index-known-index.result in
    let is : changed c.fact.inside.body ≡ changed fact.body = ap (λ s. changed s.body) (c.fact.view_is ∙ sym c.index-known-index.is) in
    let none : changed fact.body ≡ None = sym is ∙ sym c.changed.ensures.value ∙ c.in_default.is in
    touched_same c.args.known.now c.args.day c.args.index fact c.requires.within c.index-known-index.is c.args.touched.now c.requires.touched none

pub corrected-requires-clause-valves : goal.corrected-requires-clause-valves
corrected-requires-clause-valves c =
    let a = c.args in
    let fact = c.index-known-index.result in
    let n = c.in-Some.component in
    let is : changed c.fact.inside.body ≡ changed fact.body = ap (λ s. changed s.body) (c.fact.view_is ∙ sym c.index-known-index.is) in
    let some : changed fact.body ≡ Some n = sym is ∙ sym c.changed.ensures.value ∙ c.in-Some.is in
    let after : c.after-now.result ≡ seen_in (register_by a.known.now (a.index + 1)) n a.day =
    c.after-now.ensures.value ∙ ap (λ f. seen_with n a.day (c.key_at-key.result, f) c.seen_before-before.result) (sym c.index-known-index.is)
    ∙ ap (λ k. seen_with n a.day (k, fact) c.seen_before-before.result) c.key_at-key.ensures.value
    ∙ ap (λ f. seen_with n a.day (key_of (batch_of a.known.now) a.index f, fact) c.seen_before-before.result) (sym c.index-known-index.is)
    ∙ ap (seen_with n a.day (key_of (batch_of a.known.now) a.index fact, fact)) c.seen_before-before.ensures.value
    ∙ sym (seen_now a.known.now a.day a.index fact c.requires.within c.index-known-index.is n) in
    let changes = share_changes a.unit a.day a.known.now a.index fact c.requires.within c.index-known-index.is n some in
    let before : c.share.result ≡ added a.unit a.day (register_by a.known.now a.index) n =
    c.share.ensures.value ∙ ap (share_seen a.unit a.day) c.seen_before-before.ensures.value ∙ sym (added_seen a.unit a.day n (register_by a.known.now a.index)) in
    let now : c.share-2.result ≡ added a.unit a.day (register_by a.known.now (a.index + 1)) n =
    c.share-2.ensures.value ∙ ap (share_seen a.unit a.day) after ∙ sym (added_seen a.unit a.day n (register_by a.known.now (a.index + 1))) in
    let old = c.requires.so_far in
    omega (arith, changes.0, ap (λ (s : Share). s.valves) before, ap (λ (s : Share). s.valves) now, ap (λ (s : Share). s.valves) old)

pub corrected-requires-clause-difficult : goal.corrected-requires-clause-difficult
corrected-requires-clause-difficult c =
    let a = c.args in
    let fact = c.index-known-index.result in
    let n = c.in-Some.component in
    let is : changed c.fact.inside.body ≡ changed fact.body = ap (λ s. changed s.body) (c.fact.view_is ∙ sym c.index-known-index.is) in
    let some : changed fact.body ≡ Some n = sym is ∙ sym c.changed.ensures.value ∙ c.in-Some.is in
    let after : c.after-now.result ≡ seen_in (register_by a.known.now (a.index + 1)) n a.day =
    c.after-now.ensures.value ∙ ap (λ f. seen_with n a.day (c.key_at-key.result, f) c.seen_before-before.result) (sym c.index-known-index.is)
    ∙ ap (λ k. seen_with n a.day (k, fact) c.seen_before-before.result) c.key_at-key.ensures.value
    ∙ ap (λ f. seen_with n a.day (key_of (batch_of a.known.now) a.index f, fact) c.seen_before-before.result) (sym c.index-known-index.is)
    ∙ ap (seen_with n a.day (key_of (batch_of a.known.now) a.index fact, fact)) c.seen_before-before.ensures.value
    ∙ sym (seen_now a.known.now a.day a.index fact c.requires.within c.index-known-index.is n) in
    let changes = share_changes a.unit a.day a.known.now a.index fact c.requires.within c.index-known-index.is n some in
    let before : c.share.result ≡ added a.unit a.day (register_by a.known.now a.index) n =
    c.share.ensures.value ∙ ap (share_seen a.unit a.day) c.seen_before-before.ensures.value ∙ sym (added_seen a.unit a.day n (register_by a.known.now a.index)) in
    let now : c.share-2.result ≡ added a.unit a.day (register_by a.known.now (a.index + 1)) n =
    c.share-2.ensures.value ∙ ap (share_seen a.unit a.day) after ∙ sym (added_seen a.unit a.day n (register_by a.known.now (a.index + 1))) in
    let old = c.requires.so_far in
    omega (arith, changes.1, ap (λ (s : Share). s.difficult) before, ap (λ (s : Share). s.difficult) now, ap (λ (s : Share). s.difficult) old)

pub returns-clause-value : goal.returns-clause-value
returns-clause-value c =
    let a = c.args in
    let fact = c.index-known-index.result in
    let n = c.in-Some.component in
    let is : changed c.fact.inside.body ≡ changed fact.body = ap (λ s. changed s.body) (c.fact.view_is ∙ sym c.index-known-index.is) in
    let some : changed fact.body ≡ Some n = sym is ∙ sym c.changed.ensures.value ∙ c.in-Some.is in
    let after : c.after-now.result ≡ seen_in (register_by a.known.now (a.index + 1)) n a.day =
    c.after-now.ensures.value ∙ ap (λ f. seen_with n a.day (c.key_at-key.result, f) c.seen_before-before.result) (sym c.index-known-index.is)
    ∙ ap (λ k. seen_with n a.day (k, fact) c.seen_before-before.result) c.key_at-key.ensures.value
    ∙ ap (λ f. seen_with n a.day (key_of (batch_of a.known.now) a.index f, fact) c.seen_before-before.result) (sym c.index-known-index.is)
    ∙ ap (seen_with n a.day (key_of (batch_of a.known.now) a.index fact, fact)) c.seen_before-before.ensures.value
    ∙ sym (seen_now a.known.now a.day a.index fact c.requires.within c.index-known-index.is n) in
    let changes = share_changes a.unit a.day a.known.now a.index fact c.requires.within c.index-known-index.is n some in
    let before : c.share.result ≡ added a.unit a.day (register_by a.known.now a.index) n =
    c.share.ensures.value ∙ ap (share_seen a.unit a.day) c.seen_before-before.ensures.value ∙ sym (added_seen a.unit a.day n (register_by a.known.now a.index)) in
    let now : c.share-2.result ≡ added a.unit a.day (register_by a.known.now (a.index + 1)) n =
    c.share-2.ensures.value ∙ ap (share_seen a.unit a.day) after ∙ sym (added_seen a.unit a.day n (register_by a.known.now (a.index + 1))) in
    let old = c.requires.so_far in
    let new = share_in a.unit a.day (register_by a.known.now (a.index + 1)) in
    let valves : new.valves ≡ c.corrected.result.valves =
    omega (
      arith,
      changes.0,
      ap (λ (s : Share). s.valves) before,
      ap (λ (s : Share). s.valves) now,
      ap (λ (s : Share). s.valves) old,
      c.corrected.ensures.valves,
    ) in
    let difficult : new.difficult ≡ c.corrected.result.difficult =
    omega (
      arith,
      changes.1,
      ap (λ (s : Share). s.difficult) before,
      ap (λ (s : Share). s.difficult) now,
      ap (λ (s : Share). s.difficult) old,
      c.corrected.ensures.difficult,
    ) in
    rw (valves, difficult) refl

pub returns-clause-touched : goal.returns-clause-touched
returns-clause-touched c =
    let a = c.args in
    let fact = c.index-known-index.result in
    let n = c.in-Some.component in
    let is : changed c.fact.inside.body ≡ changed fact.body = ap (λ s. changed s.body) (c.fact.view_is ∙ sym c.index-known-index.is) in
    let some : changed fact.body ≡ Some n = sym is ∙ sym c.changed.ensures.value ∙ c.in-Some.is in
    let after : c.after-now.result ≡ seen_in (register_by a.known.now (a.index + 1)) n a.day =
    c.after-now.ensures.value ∙ ap (λ f. seen_with n a.day (c.key_at-key.result, f) c.seen_before-before.result) (sym c.index-known-index.is)
    ∙ ap (λ k. seen_with n a.day (k, fact) c.seen_before-before.result) c.key_at-key.ensures.value
    ∙ ap (λ f. seen_with n a.day (key_of (batch_of a.known.now) a.index f, fact) c.seen_before-before.result) (sym c.index-known-index.is)
    ∙ ap (seen_with n a.day (key_of (batch_of a.known.now) a.index fact, fact)) c.seen_before-before.ensures.value
    ∙ sym (seen_now a.known.now a.day a.index fact c.requires.within c.index-known-index.is n) in
    touched_more a.known.now a.day a.index fact c.requires.within c.index-known-index.is a.touched.now c.requires.touched n c.note.new.self c.after-now.result some
    after c.note.ensures.up_to c.note.ensures.value
