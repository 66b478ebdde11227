use Rattle.std.proofs.Common.{◌<◌, [], ◌∷◌, ◌++◌, false, length, map, take, sym, ap, subst, ◌∙◌, append_assoc, arith}
use Rattle.std.specs.List.{AllByRecursion}
use Rattle.std.proofs.lemmas.List.{map-append, take_all, take_more}
use Rattle.list_words.proofs.Members.{all_append}
use Rattle.ldar_law.specs.Machine.{Call, Turn, not_asked}
use Rattle.office_interface.specs.Asking.{HasRule}
use Rattle.office_tests.proofs.connections.NotebookOffice.ask_group.Goals as goal

-- one more turn
pub loop-request-preserved : goal.loop-request-preserved
loop-request-preserved c =
    let so_far = c.loop-request.invariant in
    let requests = c.args.requests.now in
    let i = c.loop-request.request-index in
    let request = c.request-item.result in
    let reply = c.reply_to.result in
    let turn : Turn = record { request = request; reply = reply; found = not_asked; in_doubt = false; before = 0; after = 0; clock = 0 } in
    let within : i < length requests = omega (arith, c.loop-request-test.true) in
    let next = take_more requests i request within ∙ ap (λ x. take i requests ++ x ∷ []) (sym c.request-item.is) in
    let replies = map-append (λ (t : Turn). t.reply) so_far.0 (turn ∷ []) in (
      so_far.0 ++ turn ∷ [],
      map-append (λ (t : Turn). t.request) so_far.0 (turn ∷ []) ∙ ap (λ l. l ++ request ∷ []) so_far.1 ∙ sym next,
      c.in-Ok.ensures.items ∙ ap (λ l. l ++ reply ∷ []) so_far.2
          ∙ append_assoc c.args.replies.now.items (map (λ (t : Turn). t.reply) so_far.0) (reply ∷ []) ∙ ap (λ l. c.args.replies.now.items ++ l) (sym replies),
      subst (AllByRecursion HasRule) (sym replies)
          (all_append HasRule (map (λ (t : Turn). t.reply) so_far.0) (reply ∷ []) so_far.3 (c.reply_to.ensures, tt)),
    )

-- the turns of all requests are those of one call
pub returns-clause-value : goal.returns-clause-value
returns-clause-value c =
    let so_far = c.loop-request.invariant in
    let all = take_all c.loop-request.request-index c.args.requests.now c.loop-request-test.false in
    let call : Call = record { turns = so_far.0; end = record { state = record { history = []; doubt = [] }; faults = 0; clock = 0 } } in (
      call,
      tt,
      so_far.1 ∙ all,
      so_far.2,
      so_far.3,
      omega arith,
    )
