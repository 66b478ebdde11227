use Rattle.std.proofs.Common.{◌≡◌, [], ap, Ok, ◌∙◌}
use Rattle.batch_positions.specs.Positions.{PositionsState}
use Rattle.ldar_journal.specs.Window.{WindowState}
use Rattle.ldar_journal.proofs.ReadingLemmas.{shows_header, no_header_told, behind_header, durable_same}
use Rattle.ldar_journal.proofs.reader.started.Goals as goal

pub returns-then-not-begins_with_header-clause-not_a_journal : goal.returns-then-not-begins_with_header-clause-not_a_journal
returns-then-not-begins_with_header-clause-not_a_journal g c =
    let fill = c.in_ok-fill.ensures in
    let empty : c.in_ok-window.window.bytes ≡ [] = ap (λ (w : WindowState). w.bytes) c.in_ok-window.ensures.value in
    let shows = shows_header (g.D.Disk.content c.make_stable.new.disk) (g.D.Disk.content c.fill.new.disk) c.fill.new.window.bytes c.in_ok-fill.field-0
    (rw empty at fill.ahead)
    (λ full. fill.enough (ap Ok full)) (λ short. rw empty at (fill.all (ap Ok short))) in
    no_header_told (g.D.Disk.content c.args.disk.now) (g.D.Disk.content c.make_stable.new.disk) (g.D.Disk.content c.fill.new.disk) c.fill.new.window.bytes
    c.in_ok-make_stable.ensures.same shows
    (rw c.bytes.ensures.value at c.if-not-begins_with_header.ensures)

pub returns-clause-started : goal.returns-clause-started
returns-clause-started g c =
    let fill = c.in_ok-fill.ensures in
    let empty : c.in_ok-window.window.bytes ≡ [] = ap (λ (w : WindowState). w.bytes) c.in_ok-window.ensures.value in
    let shows = shows_header (g.D.Disk.content c.make_stable.new.disk) (g.D.Disk.content c.fill.new.disk) c.fill.new.window.bytes c.in_ok-fill.field-0
    (rw empty at fill.ahead)
    (λ full. fill.enough (ap Ok full)) (λ short. rw empty at (fill.all (ap Ok short))) in
    let is_header = rw c.bytes.ensures.value at c.if-not-begins_with_header.ensures in
    rw (c.window-2.view_is ∙ c.drop_front.ensures.value) (record {
      behind = behind_header (g.D.Disk.content c.make_stable.new.disk) (g.D.Disk.content c.fill.new.disk) c.fill.new.window.bytes shows fill.reads.content
          is_header;
      durable = durable_same (g.D.Disk.content c.make_stable.new.disk) (g.D.Disk.content c.fill.new.disk) (g.D.Disk.images c.make_stable.new.disk)
          (g.D.Disk.images c.fill.new.disk) c.in_ok-make_stable.ensures.durable
          fill.reads.content fill.reads.images;
      size = ap (λ (w : WindowState). w.size) fill.more.1 ∙ ap (λ (w : WindowState). w.size) c.in_ok-window.ensures.value;
      none = ap (λ (p : PositionsState). p.identities) c.in_ok-new.ensures.value;
    })
