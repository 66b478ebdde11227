-- Items at the front of some bytes, what was served of them, and their groups.
use Rattle.std.proofs.Common.{◌≡◌, ℕ, ◌+◌, ◌<◌, ◌≤◌, ◌⊎◌, Bool, true, false, List, [], ◌∷◌, ◌++◌, length, map, take, drop, Some, inl, inr}
use Rattle.std.proofs.Common.{refl, sym, ap, subst, ◌∙◌, append_assoc, arith}
use Rattle.std.specs.List.{flat_map, AllByRecursion}
use Rattle.std.proofs.lemmas.List.{append-nil, take-append-drop, drop-drop, length-drop, length-map}
use Rattle.std.proofs.lemmas.Grind.{flat_map-append}
use Rattle.ldar_law.specs.declared.reply.Reply.{Reply}
use Rattle.ldar_law.specs.declared.request.Request.{Request}
use Rattle.ldar_law.specs.Machine.{Call, Turn}
use Rattle.office_interface.specs.Asking.{IsFromHandheld, requests_of}
use Rattle.ldar_session.specs.declared.item.Question.{Question}
use Rattle.ldar_session.specs.Served.{Served, items_of, texts_of, turns_of}
use Rattle.ldar_session.specs.Speech.{Speech, AreAnswered, AreInFront, AsksEach, HasAnswer, IsAnswered, IsGroup, IsQuestion, NoneJoins}
use Rattle.ldar_session.specs.Speech.{answers_text, closes_before}

-- the bytes of what was served are those of its items
pub items_of-map : (served : List Served) (items : List (List ℕ)) → map (λ (s : Served). s.item) served ≡ items
    → items_of served ≡ flat_map (λ item. item) items
items_of-map [] [] same = refl
items_of-map [] (item ∷ items) same = absurd cc
items_of-map (s ∷ served) [] same = absurd cc
items_of-map (s ∷ served) (item ∷ items) same = let head : s.item ≡ item = cc in let tail : map (λ (s : Served). s.item) served ≡ items = cc in
    rw (head, items_of-map served items tail) refl

-- ---- the item after which a connection closes

-- it closes or not after lists of the same length alike
closes_alike : {X Y : Type 0} (closing : Bool) (xs : List X) (ys : List Y) → length xs ≡ length ys → closes_before closing xs ≡ closes_before closing ys
closes_alike closing [] [] same = refl
closes_alike closing [] (y ∷ ys) same = absurd (omega (arith, same))
closes_alike closing (x ∷ xs) [] same = absurd (omega (arith, same))
closes_alike closing (x ∷ xs) (y ∷ ys) same = refl

-- it does not close before more items
open_before : {X : Type 0} (closing : Bool) (xs more : List X) → 0 < length more → closes_before false xs ≡ closes_before closing (xs ++ more)
open_before closing [] [] some = absurd (omega (arith, some))
open_before closing [] (x ∷ more) some = refl
open_before closing (x ∷ xs) more some = refl

module _ (p : Speech) where
  -- ---- items that were passed on

  -- the items with their turns and answers
  pub served_in : Bool → List (List ℕ) → List Turn → List Served
  served_in closing [] turns = []
  served_in closing (item ∷ items) [] = []
  served_in closing (item ∷ items) (turn ∷ turns) =
      record { item = item; turn = Some turn; text = p.says (closes_before closing turns) turn.reply } ∷ served_in closing items turns

  -- these turns have the requests of these items, one each
  abbrev pub AskedEach : Bool → List (List ℕ) → List Turn → Type 0
  AskedEach closing items turns = AsksEach p closing items (map (λ (turn : Turn). turn.request) turns)

  -- there are as many items as requests
  pub length-asked : (closing : Bool) (items : List (List ℕ)) (requests : List Request) → AsksEach p closing items requests → length items ≡ length requests
  length-asked closing [] [] asked = refl
  length-asked closing [] (request ∷ requests) asked = absurd asked
  length-asked closing (item ∷ items) [] asked = absurd asked
  length-asked closing (item ∷ items) (request ∷ requests) asked = omega (arith, length-asked closing items requests asked.1)

  -- there are as many items as turns
  length-turns : (closing : Bool) (items : List (List ℕ)) (turns : List Turn) → AskedEach closing items turns → length items ≡ length turns
  length-turns closing items turns asked =
      length-asked closing items (map (λ (turn : Turn). turn.request) turns) asked ∙ length-map turns (λ (turn : Turn). turn.request)

  -- the items that were served are those that were passed on
  pub map-item-served_in : (closing : Bool) (items : List (List ℕ)) (turns : List Turn) → AskedEach closing items turns
      → map (λ (s : Served). s.item) (served_in closing items turns) ≡ items
  unfolding served_in
  map-item-served_in closing [] turns asked = refl
  map-item-served_in closing (item ∷ items) [] asked = absurd asked
  map-item-served_in closing (item ∷ items) (turn ∷ turns) asked = ap (λ l. item ∷ l) (map-item-served_in closing items turns asked.1)

  -- the turns that were served are those of the items
  pub turns_of-served_in : (closing : Bool) (items : List (List ℕ)) (turns : List Turn) → AskedEach closing items turns
      → turns_of (served_in closing items turns) ≡ turns
  unfolding served_in
  turns_of-served_in closing [] [] asked = refl
  turns_of-served_in closing [] (turn ∷ turns) asked = absurd asked
  turns_of-served_in closing (item ∷ items) [] asked = absurd asked
  turns_of-served_in closing (item ∷ items) (turn ∷ turns) asked = ap (λ l. turn ∷ l) (turns_of-served_in closing items turns asked.1)

  -- as many items were served as were passed on
  length-served_in : (closing : Bool) (items : List (List ℕ)) (turns : List Turn) → AskedEach closing items turns
      → length (served_in closing items turns) ≡ length turns
  length-served_in closing items turns asked =
      sym (length-map (served_in closing items turns) (λ (s : Served). s.item)) ∙ ap length (map-item-served_in closing items turns asked)
      ∙ length-turns closing items turns asked

  -- an item that was passed on in a turn has its answer
  answered_in : (asks last says : Bool) (item : List ℕ) (turn : Turn) → p.asks asks item turn.request → asks ≡ says → last ≡ says
      → IsAnswered p last (record { item = item; turn = Some turn; text = p.says says turn.reply })
  answered_in asks last says item turn is same same' = (
    subst (λ (c : Bool). p.asks c item turn.request) (same ∙ sym same') is,
    ap (λ (c : Bool). p.says c turn.reply) (sym same'),
  )

  -- each item has its answer, and the connection closes after the last one or not
  pub are_answered : (closing : Bool) (items : List (List ℕ)) (turns : List Turn) → AskedEach closing items turns
      → AreAnswered p closing (served_in closing items turns)
  unfolding served_in
  are_answered closing [] turns asked = tt
  are_answered closing (item ∷ items) [] asked = absurd asked
  are_answered closing (item ∷ items) (turn ∷ turns) asked =
      let one = closes_alike closing items turns (length-turns closing items turns asked.1) in
      let served = served_in closing items turns in
      let two = closes_alike closing served turns (length-served_in closing items turns asked.1) in (
        answered_in (closes_before closing items) (closes_before closing served) (closes_before closing turns) item turn asked.0 one two,
        are_answered closing items turns asked.1,
      )

  -- the text is the answers to the items
  pub texts_of-served_in : (closing : Bool) (items : List (List ℕ)) (turns : List Turn) → AskedEach closing items turns
      → texts_of (served_in closing items turns) ≡ answers_text p closing (map (λ (turn : Turn). turn.reply) turns)
  unfolding served_in
  texts_of-served_in closing [] [] asked = refl
  texts_of-served_in closing [] (turn ∷ turns) asked = absurd asked
  texts_of-served_in closing (item ∷ items) [] asked = absurd asked
  texts_of-served_in closing (item ∷ items) (turn ∷ turns) asked =
      let replies = map (λ (t : Turn). t.reply) turns in
      let same = closes_alike closing turns replies (sym (length-map turns (λ (t : Turn). t.reply))) in
      ap (λ (c : Bool). p.says c turn.reply ++ texts_of (served_in closing items turns)) same
      ∙ ap (λ l. p.says (closes_before closing replies) turn.reply ++ l) (texts_of-served_in closing items turns asked.1)

  -- the items of a call's requests
  pub asked_each : (closing : Bool) (items : List (List ℕ)) (requests : List Request) (call : Call) → AsksEach p closing items requests
      → requests_of call ≡ requests → AskedEach closing items call.turns
  asked_each closing items requests call asks are = subst (λ l. AsksEach p closing items l) (sym are) asks

  -- each item has an answer
  pub have_answers : (closing : Bool) (served : List Served) → AreAnswered p closing served → AllByRecursion (HasAnswer p) served
  have_answers closing [] are = tt
  have_answers closing (s ∷ served) are = (inl (closes_before closing served, are.0), have_answers closing served are.1)

  -- items that leave the connection open, and others after them
  pub are_more : (closing : Bool) (first more : List Served) → 0 < length more → AreAnswered p false first → AreAnswered p closing more
      → AreAnswered p closing (first ++ more)
  are_more closing [] more some one two = two
  are_more closing (s ∷ first) more some one two =
      (subst (λ (c : Bool). IsAnswered p c s) (open_before closing first more some) one.0, are_more closing first more some one.1 two)

  -- items that leave the connection open, and possibly others after them
  pub are_some_more : (closing : Bool) (first more : List Served) → AreAnswered p false first → AreAnswered p closing more
      → (last : Bool) × AreAnswered p last (first ++ more)
  are_some_more closing first [] one two = (false, subst (λ (l : List Served). AreAnswered p false l) (sym (append-nil first)) one)
  are_some_more closing first (s ∷ more) one two = (closing, are_more closing first (s ∷ more) (omega arith) one two)

  -- the text passed to a sink is the answers to the replies of a call
  pub answers_shown : (closing : Bool) (of_call replies : List Reply) (text shown : List ℕ) → of_call ≡ replies → text ≡ answers_text p closing replies
      → shown ≡ text → answers_text p closing of_call ≡ shown
  answers_shown closing of_call replies text shown are is same = ap (answers_text p closing) are ∙ sym is ∙ sym same

  -- ---- items at the front

  -- one more request after others that leave the connection open
  asks_one_more : (closing : Bool) (items : List (List ℕ)) (requests : List Request) (item : List ℕ) (request : Request) → AsksEach p false items requests
      → p.asks closing item request → AsksEach p closing (items ++ item ∷ []) (requests ++ request ∷ [])
  asks_one_more closing [] [] item request each asks = (asks, tt)
  asks_one_more closing [] (other ∷ requests) item request each asks = absurd each
  asks_one_more closing (other ∷ items) [] item request each asks = absurd each
  asks_one_more closing (other ∷ items) (first ∷ requests) item request each asks = (
    subst (λ (c : Bool). p.asks c other first) (open_before closing items (item ∷ []) (omega arith)) each.0,
    asks_one_more closing items requests item request each.1 asks,
  )

  -- a single item at the front
  pub one_in_front : (bytes : List ℕ) (question : Question) → IsQuestion p bytes question
      → AreInFront p bytes (question.request ∷ []) question.closing question.used
  one_in_front bytes question is =
      let used = question.used in record {
        items = take used bytes ∷ [];
        asks = (is.asks, tt);
        within = is.within;
        are = sym (take-append-drop used bytes) ∙ ap (λ l. l ++ drop used bytes) (sym (append-nil (take used bytes)));
      }

  -- one more item at the front, after others that leave the connection open
  pub one_more_in_front : (bytes : List ℕ) (requests : List Request) (used : ℕ) (question : Question) → AreInFront p bytes requests false used
      → IsQuestion p (drop used bytes) question → AreInFront p bytes (requests ++ question.request ∷ []) question.closing (used + question.used)
  one_more_in_front bytes requests used question in_front is =
      let n = question.used in
      let item = take n (drop used bytes) in record {
        items = in_front.items ++ item ∷ [];
        asks = asks_one_more question.closing in_front.items requests item question.request in_front.asks is.asks;
        within = omega (arith, is.within, in_front.within, length-drop used bytes);
        are = in_front.are
            ∙ ap (λ l. flat_map (λ (i : List ℕ). i) in_front.items ++ l) (sym (take-append-drop n (drop used bytes)) ∙ ap (λ l. item ++ l) (drop-drop n used bytes))
            ∙ sym (append_assoc (flat_map (λ (i : List ℕ). i) in_front.items) item (drop (used + n) bytes))
            ∙ ap (λ l. l ++ drop (used + n) bytes)
            (ap (λ l. flat_map (λ (i : List ℕ). i) in_front.items ++ l) (sym (append-nil item)) ∙ sym (flat_map-append (λ (i : List ℕ). i) in_front.items (item ∷ [])));
      }

  -- a request that may not share a frame is passed on by itself
  pub asked_alone : (bytes : List ℕ) (most : ℕ) (question : Question) → 0 < most → IsQuestion p bytes question → ¬ (IsFromHandheld question.request)
      → IsGroup p bytes most (question.request ∷ []) question.closing question.used
  asked_alone bytes most question some is alone = record {
    in_front = one_in_front bytes question is;
    some = omega arith;
    fits = omega arith;
    alike = λ several. absurd (omega (arith, several));
    full = inr (inr (inl (λ all. alone all.0)));
  }

  -- batches of handhelds at the front are a group if no other joins them
  pub group_of : (bytes : List ℕ) (most : ℕ) (requests : List Request) (closing : Bool) (used : ℕ) → AreInFront p bytes requests closing used
      → 0 < length requests → length requests ≤ most → AllByRecursion IsFromHandheld requests
      → (length requests ≡ most) ⊎ ((closing ≡ true) ⊎ NoneJoins p (drop used bytes)) → IsGroup p bytes most requests closing used
  group_of bytes most requests closing used in_front some fits each full = record {
    in_front = in_front;
    some = some;
    fits = fits;
    alike = λ several. each;
    full = elim full [
      | inl are ↦ inl are
      | inr rest ↦ elim rest [
        | inl closed ↦ inr (inl closed)
        | inr none ↦ inr (inr (inr none))
      ]
    ];
  }

  -- the whole group was served
  pub group_served : (window : List ℕ) (requests : List Request) (closing : Bool) (used : ℕ) (in_front : AreInFront p window requests closing used)
      (more : List Served) → map (λ (s : Served). s.item) more ≡ in_front.items
      → (window ≡ items_of more ++ drop used window) × (length more ≡ length requests)
  group_served window requests closing used in_front more are = (
    in_front.are ∙ ap (λ l. l ++ drop used window) (sym (items_of-map more in_front.items are)),
    sym (length-map more (λ (s : Served). s.item)) ∙ ap length are ∙ length-asked closing in_front.items requests in_front.asks,
  )

  -- the whole group was served, or nothing
  pub part_served : (window : List ℕ) (requests : List Request) (closing : Bool) (used : ℕ) (in_front : AreInFront p window requests closing used)
      (more : List Served) → (map (λ (s : Served). s.item) more ≡ in_front.items) ⊎ (more ≡ [])
      → (rest : List ℕ) × (window ≡ items_of more ++ rest) × (length more ≤ length requests)
  part_served window requests closing used in_front more (inl are) =
      let all = group_served window requests closing used in_front more are in (drop used window, all.0, omega (arith, all.1))
  part_served window requests closing used in_front more (inr none) =
      (window, ap (λ (l : List Served). items_of l ++ window) (sym none), omega (arith, ap length none))
