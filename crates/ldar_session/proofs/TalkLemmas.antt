-- Stretches without a stamp past the clock at their end: an empty one, one call, and two consecutive ones.
use Rattle.std.proofs.Common.{◌≡◌, ℕ, ◌≤◌, Bool, List, [], ◌∷◌, ◌++◌, length, take, drop, Option, None, All, inl, inr, refl, sym, ap, subst, ◌∙◌, arith}
use Rattle.std.specs.List.{AllByRecursion}
use Rattle.std.proofs.lemmas.List.{append-nil, take-append-drop}
use Rattle.std.proofs.lemmas.Grind.{flat_map-append}
use Rattle.list_words.proofs.Members.{all_append}
use Rattle.ldar_law.specs.Machine.{Call}
use Rattle.ldar_ports.specs.Sink.{Piece, Puts, IsStamped, bytes_of, stamps_of}
use Rattle.ldar_ports.proofs.PutsLemmas.{stamps_of-stamped}
use Rattle.office_interface.specs.Asking.{replies_of}
use Rattle.ldar_session.specs.declared.item.Unasked.{Unasked}
use Rattle.ldar_session.specs.Served.{Served, Talk, items_of, texts_of, turns_of}
use Rattle.ldar_session.specs.Speech.{Speech, HasAnswer, IsAway, IsUnasked, answers_text}
use Rattle.ldar_session.proofs.ItemLemmas.{AskedEach, served_in, turns_of-served_in, texts_of-served_in, are_answered, have_answers}
use Rattle.ldar_session.proofs.StampLemmas.{all_replicate}
use Rattle.ldar_session.proofs.Stretches.{stretch_none, stretch_call, stretch_unsaid, stretch_put, stretch_more}

-- stamps that are not past a clock are not past a later one
not_past : (stamps : List ℕ) (clock later : ℕ) → clock ≤ later → AllByRecursion (λ stamp. stamp ≤ clock) stamps → AllByRecursion (λ stamp. stamp ≤ later) stamps
not_past [] clock later le all = tt
not_past (stamp ∷ stamps) clock later le all = (omega (arith, le, all.0), not_past stamps clock later le all.1)

-- pieces with one stamp have no stamp past a later clock
stamp_not_past : (put : List Piece) (clock later : ℕ) → All (IsStamped clock) put → clock ≤ later → AllByRecursion (λ stamp. stamp ≤ later) (stamps_of put)
stamp_not_past put clock later each le =
    subst (λ (l : List ℕ). AllByRecursion (λ stamp. stamp ≤ later) l) (sym (stamps_of-stamped clock put each))
    (all_replicate (λ stamp. stamp ≤ later) (length (bytes_of put)) clock le)

module _ {O : Type 0} (IsItem : Served → Type 0) (led : O → List Call → O → Type 0) (clock_of : O → ℕ) where
  -- nothing was served
  pub talk_none : ((office : O) → led office [] office) → (office : O) (pieces : Option (List Piece))
      → Talk IsItem led clock_of office office pieces pieces [] []
  unfolding stretch_none
  talk_none stays office pieces = record { stretch = stretch_none IsItem led stays office pieces; within = λ never. tt }

  -- one call, followed by pieces with the answers to its turns
  pub talk_call : (old new : O) (call : Call) (pieces pieces' : Option (List Piece)) (put : List Piece) (served : List Served) (unsaid : List ℕ) (clock : ℕ)
      → led old (call ∷ []) new → turns_of served ≡ call.turns → AllByRecursion IsItem served
      → Puts pieces put pieces' → texts_of served ≡ bytes_of put ++ unsaid → All (IsStamped clock) put → call.end.clock ≤ clock → clock ≤ clock_of new
      → Talk IsItem led clock_of old new pieces pieces' served unsaid
  unfolding stretch_call
  talk_call old new call pieces pieces' put served unsaid clock run are each puts said stamped late le = record {
    stretch = stretch_call IsItem led old new call pieces pieces' put served unsaid clock run are each puts said stamped late;
    within = λ never. stamp_not_past put clock (clock_of new) stamped le;
  }

  -- one call without written text
  pub talk_unsaid : (old new : O) (call : Call) (pieces : Option (List Piece)) (served : List Served)
      → led old (call ∷ []) new → turns_of served ≡ call.turns → AllByRecursion IsItem served
      → Talk IsItem led clock_of old new pieces pieces served (texts_of served)
  unfolding stretch_unsaid stretch_call
  talk_unsaid old new call pieces served run are each =
      record { stretch = stretch_unsaid IsItem led old new call pieces served run are each; within = λ never. tt }

  -- no call, and pieces with a prefix of the answer to an item that was not passed on
  pub talk_put : ((office : O) → led office [] office) → (office : O) (pieces pieces' : Option (List Piece)) (put : List Piece)
      → (s : Served) (unsaid : List ℕ) (clock : ℕ) → s.turn ≡ None → IsItem s → Puts pieces put pieces' → s.text ≡ bytes_of put ++ unsaid
      → All (IsStamped clock) put → clock ≤ clock_of office → Talk IsItem led clock_of office office pieces pieces' (s ∷ []) unsaid
  unfolding stretch_put
  talk_put stays office pieces pieces' put s unsaid clock unasked is puts said stamped le = record {
    stretch = stretch_put IsItem led stays office pieces pieces' put s unsaid unasked is puts said;
    within = λ never. stamp_not_past put clock (clock_of office) stamped le;
  }

  -- a stretch with all text written, and one after it
  pub talk_more : ((a b c : O) (first second : List Call) → led a first b → led b second c → led a (first ++ second) c)
      → (old middle new : O) (pieces pieces' pieces'' : Option (List Piece)) (first second : List Served) (unsaid : List ℕ)
      → Talk IsItem led clock_of old middle pieces pieces' first [] → Talk IsItem led clock_of middle new pieces' pieces'' second unsaid
      → Talk IsItem led clock_of old new pieces pieces'' (first ++ second) unsaid
  unfolding stretch_more
  talk_more joins old middle new pieces pieces' pieces'' first second unsaid one two =
      let put = one.stretch.put in
      let put' = two.stretch.put in record {
        stretch = stretch_more IsItem led joins old middle new pieces pieces' pieces'' first second unsaid one.stretch two.stretch;
        within = λ never.
            let later = λ (stamp : ℕ). stamp ≤ clock_of new in
            subst (λ (l : List ℕ). AllByRecursion later l) (sym (flat_map-append _ put put'))
            (all_append later (stamps_of put) (stamps_of put')
            (not_past (stamps_of put) (clock_of middle) (clock_of new) (never middle new two.stretch.calls two.stretch.run) (one.within never))
            (two.within never));
      }

-- items of one call, and pieces with a prefix of their answers
pub talk_group : {O : Type 0} (p : Speech) (led : O → List Call → O → Type 0) (clock_of : O → ℕ) (old new : O) (call : Call) (closing : Bool)
    (items : List (List ℕ)) (pieces pieces' : Option (List Piece)) (put : List Piece) (unsaid : List ℕ) (clock : ℕ) → AskedEach p closing items call.turns
    → led old (call ∷ []) new → Puts pieces put pieces' → answers_text p closing (replies_of call) ≡ bytes_of put ++ unsaid → All (IsStamped clock) put
    → call.end.clock ≤ clock → clock ≤ clock_of new
    → Talk (HasAnswer p) led clock_of old new pieces pieces' (served_in p closing items call.turns) unsaid
talk_group p led clock_of old new call closing items pieces pieces' put unsaid clock asked run puts said stamped late le =
    let served = served_in p closing items call.turns in
    talk_call (HasAnswer p) led clock_of old new call pieces pieces' put served unsaid clock run (turns_of-served_in p closing items call.turns asked)
    (have_answers p closing served (are_answered p closing items call.turns asked)) puts (texts_of-served_in p closing items call.turns asked ∙ said)
    stamped late le

-- an item that is not passed on, and its answer
abbrev pub unasked_of : List ℕ → List ℕ → Served
unasked_of item text = record { item = item; turn = None; text = text }

module _ {O : Type 0} (p : Speech) (led : O → List Call → O → Type 0) (clock_of : O → ℕ) (stays : (office : O) → led office [] office) (office : O)
    (bytes : List ℕ) (pieces pieces' : Option (List Piece)) (put : List Piece) (unsaid shown : List ℕ) (clock : ℕ) (puts : Puts pieces put pieces')
    (said : shown ≡ bytes_of put ++ unsaid) (stamped : All (IsStamped clock) put) (le : clock ≤ clock_of office) where
  -- the answer to an item at the front that is not passed on, as far as it was written
  pub talk_says : (unasked : Unasked) → IsUnasked p bytes unasked → shown ≡ unasked.text.items
      → Talk (HasAnswer p) led clock_of office office pieces pieces' (unasked_of (take unasked.used bytes) unasked.text.items ∷ []) unsaid
      × (bytes ≡ items_of (unasked_of (take unasked.used bytes) unasked.text.items ∷ []) ++ drop unasked.used bytes)
  talk_says unasked is same =
      let n = unasked.used in
      let item = take n bytes in
      let served = unasked_of item unasked.text.items in (
        talk_put (HasAnswer p) led clock_of stays office pieces pieces' put served unsaid clock refl (inl (unasked.closing, is.answers)) puts (sym same ∙ said)
            stamped le,
        sym (take-append-drop n bytes) ∙ ap (λ l. l ++ drop n bytes) (sym (append-nil item)),
      )

  -- the answer to refused bytes, as far as it was written
  pub talk_away : (text : List ℕ) → p.away bytes text → shown ≡ text
      → Talk (HasAnswer p) led clock_of office office pieces pieces' (unasked_of bytes text ∷ []) unsaid
      × (bytes ≡ items_of (unasked_of bytes text ∷ []) ++ []) × IsAway p (unasked_of bytes text)
  talk_away text is same =
      let away : IsAway p (unasked_of bytes text) = record { unasked = refl; says = is } in (
        talk_put (HasAnswer p) led clock_of stays office pieces pieces' put (unasked_of bytes text) unsaid clock refl (inr away) puts (sym same ∙ said) stamped le,
        sym (append-nil (bytes ++ []) ∙ append-nil bytes),
        away,
      )
