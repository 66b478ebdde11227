use Rattle.std.proofs.Common.{◌∷◌, ap, sym, ◌∙◌, Some}
use Rattle.atomic_table.specs.Table.{rest}
use Rattle.sync_room.proofs.CallLemmas.{call_made}
use Rattle.sync_room.proofs.turns.work.Goals as goal

pub exchange-requires : goal.exchange-requires
exchange-requires g c =
    let has = c.requires.book in
    (c.requires.own, (Some has.0, has.1 ∙ ap (λ r. (0, Some has.0) ∷ r) (sym (ap rest has.1))))

pub advance-requires-clause-keeps : goal.advance-requires-clause-keeps
advance-requires-clause-keeps g c =
    let kept = c.keep.ensures.keeps in
    let empty = ap (λ m. rest m.1) kept.new_is ∙ (ap (λ m. rest m.1) c.exchange.ensures.3 ∙ ap rest c.requires.book.1) in (
      kept.call,
      c.ask_once-reply.new.book,
      ap (λ m. m.0.stage) c.exchange-2.ensures.3 ∙ ap (λ m. m.0.stage) kept.new_is,
      ap (λ m. m.1) c.exchange-2.ensures.3 ∙ ap (λ r. (0, Some c.ask_once-reply.new.book) ∷ r) empty,
      sym kept.is.end,
      c.stands.ensures.law,
    )

-- the call that was kept is the last of the history
pub returns-clause-call : goal.returns-clause-call
returns-clause-call g c =
    call_made _ _ _ _ c.args.seat.now.me c.exchange.new.seat.me c.keep.new.seat.me c.exchange-2.new.seat.me c.advance.new.seat.me
    (ap (λ m. m.0) c.exchange.ensures.3) c.keep.ensures.keeps (ap (λ m. m.0) c.exchange-2.ensures.3) c.advance.ensures.advances
