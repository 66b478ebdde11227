-- Stamps of written bytes, and clocks of turns.
use Rattle.std.proofs.Common.{◌≡◌, ℕ, zero, suc, ◌+◌, ◌≤◌, List, [], ◌∷◌, ◌++◌, length, take, drop, replicate, Option, Some, None, MatchOption, All}
use Rattle.std.proofs.Common.{refl, sym, subst, length-append, arith}
use Rattle.std.specs.List.{AllByRecursion}
use Rattle.std.specs.Option.{option_to_list}
use Rattle.std.proofs.lemmas.List.{take-append-le, drop-append-le, length-drop, length-replicate}
use Rattle.ldar_law.specs.Machine.{Turn}
use Rattle.ldar_ports.specs.Sink.{Piece, IsStamped, bytes_of, stamps_of}
use Rattle.ldar_ports.proofs.PutsLemmas.{stamps_of-stamped}
use Rattle.ldar_session.specs.Served.{Served, texts_of, turns_of, IsSince, Stamped}

-- ---- properties of each element

-- a property of all elements, for a prefix
pub all_take : {X : Type 0} (P : X → Type 0) (n : ℕ) (xs : List X) → AllByRecursion P xs → AllByRecursion P (take n xs)
all_take P zero xs all = tt
all_take P (suc n) [] all = tt
all_take P (suc n) (x ∷ xs) all = (all.0, all_take P n xs all.1)

-- a property of all elements, for the rest after a prefix
pub all_drop : {X : Type 0} (P : X → Type 0) (n : ℕ) (xs : List X) → AllByRecursion P xs → AllByRecursion P (drop n xs)
all_drop P zero xs all = all
all_drop P (suc n) [] all = tt
all_drop P (suc n) (x ∷ xs) all = all_drop P n xs all.1

-- a property of an element, for copies of it
pub all_replicate : {X : Type 0} (P : X → Type 0) (n : ℕ) (x : X) → P x → AllByRecursion P (replicate n x)
all_replicate P zero x is = tt
all_replicate P (suc n) x is = (is, all_replicate P n x is)

-- a property of all elements of two joined lists, for each of the two
pub all_parts : {X : Type 0} (P : X → Type 0) (xs ys : List X) → AllByRecursion P (xs ++ ys) → AllByRecursion P xs × AllByRecursion P ys
all_parts P [] ys all = (tt, all)
all_parts P (x ∷ xs) ys all = let parts = all_parts P xs ys all.1 in ((all.0, parts.0), parts.1)

-- ---- stamps

-- pieces have as many stamps as bytes
pub length-stamps_of : (put : List Piece) → length (stamps_of put) ≡ length (bytes_of put)
length-stamps_of [] = refl
length-stamps_of (piece ∷ put) =
    omega (
      arith,
      length-append (replicate (length piece.bytes) piece.stamp) (stamps_of put),
      length-append piece.bytes (bytes_of put),
      length-replicate {A = ℕ} (length piece.bytes) piece.stamp,
      length-stamps_of put,
    )

-- items whose text was all written, with others after them
pub stamped_more : (first second : List Served) (stamps stamps' : List ℕ) → length (texts_of first) ≡ length stamps
    → Stamped first stamps → Stamped second stamps' → Stamped (first ++ second) (stamps ++ stamps')
stamped_more [] second [] stamps' same one two = two
stamped_more [] second (stamp ∷ stamps) stamps' same one two = absurd (omega (arith, same))
stamped_more (s ∷ first) second stamps stamps' same one two =
    let n = length s.text in
    let sum : length (s.text ++ texts_of first) ≡ n + length (texts_of first) = length-append s.text (texts_of first) in
    let le : n ≤ length stamps = omega (arith, sum, same) in
    let rest : length (texts_of first) ≡ length (drop n stamps) = omega (arith, sum, same, length-drop n stamps) in (
      subst (λ l. AllByRecursion (IsSince s) l) (sym (take-append-le n stamps stamps' le)) one.0,
      subst (λ l. Stamped (first ++ second) l) (sym (drop-append-le n stamps stamps' le))
          (stamped_more first second (drop n stamps) stamps' rest one.1 two),
    )

-- ---- clocks

-- a byte written at a later clock was written since the turn, too
since_later : (turn : Option Turn) (clock stamp : ℕ) → MatchOption turn (Unit {0}) (λ t. t.clock ≤ clock) → clock ≤ stamp
    → MatchOption turn (Unit {0}) (λ t. t.clock ≤ stamp)
since_later None clock stamp is le = tt
since_later (Some turn) clock stamp is le = omega (arith, is, le)

-- a byte of an item without a turn has no clock to respect
pub unasked_since : (s : Served) (stamps : List ℕ) → s.turn ≡ None → AllByRecursion (IsSince s) stamps
unasked_since s [] unasked = tt
unasked_since s (stamp ∷ stamps) unasked =
    (subst (λ (turn : Option Turn). MatchOption turn (Unit {0}) (λ t. t.clock ≤ stamp)) (sym unasked) tt, unasked_since s stamps unasked)

-- stamps at or after a clock are at or after a turn that is not later than the clock
all_since : (s : Served) (clock : ℕ) (stamps : List ℕ) → IsSince s clock → AllByRecursion (λ stamp. clock ≤ stamp) stamps → AllByRecursion (IsSince s) stamps
all_since s clock [] is all = tt
all_since s clock (stamp ∷ stamps) is all = (since_later s.turn clock stamp is all.0, all_since s clock stamps is all.1)

-- if no turn is later than a clock, and no stamp is earlier, each byte was written since its turn
stamped_late : (served : List Served) (clock : ℕ) (stamps : List ℕ) → AllByRecursion (λ s. IsSince s clock) served
    → AllByRecursion (λ stamp. clock ≤ stamp) stamps → Stamped served stamps
stamped_late [] clock stamps each all = tt
stamped_late (s ∷ served) clock stamps each all =
    let n = length s.text in
    let late = λ (stamp : ℕ). clock ≤ stamp in (
      all_since s clock (take n stamps) each.0 (all_take late n stamps all),
      stamped_late served clock (drop n stamps) each.1 (all_drop late n stamps all),
    )

-- a property of the turns, for the turn of an item
turn_parts : (P : Turn → Type 0) (turn : Option Turn) (turns : List Turn) → AllByRecursion P (option_to_list turn ++ turns)
    → MatchOption turn (Unit {0}) P × AllByRecursion P turns
turn_parts P None turns all = (tt, all)
turn_parts P (Some turn) turns all = all

-- no item has a turn later than this clock
since_turns : (served : List Served) (clock : ℕ) → AllByRecursion (λ turn. turn.clock ≤ clock) (turns_of served) → AllByRecursion (λ s. IsSince s clock) served
since_turns [] clock all = tt
since_turns (s ∷ served) clock all =
    let parts = turn_parts (λ turn. turn.clock ≤ clock) s.turn (turns_of served) all in (parts.0, since_turns served clock parts.1)

-- the turns of a call with one clock are not later than a clock after it
not_later : (turns : List Turn) (end clock : ℕ) → end ≤ clock → AllByRecursion (λ turn. turn.clock ≡ end) turns
    → AllByRecursion (λ turn. turn.clock ≤ clock) turns
not_later [] end clock le all = tt
not_later (turn ∷ turns) end clock le all = (omega (arith, all.0, le), not_later turns end clock le all.1)

-- pieces with one stamp, at or after the return of the call, were written since its turns
pub stamped_behind : (served : List Served) (turns : List Turn) (end clock : ℕ) (put : List Piece) → turns_of served ≡ turns
    → end ≤ clock → All (IsStamped clock) put → AllByRecursion (λ turn. turn.clock ≡ end) turns → Stamped served (stamps_of put)
stamped_behind served turns end clock put are le each own =
    let P = λ (turn : Turn). turn.clock ≤ clock in
    let since = since_turns served clock (subst (λ l. AllByRecursion P l) (sym are) (not_later turns end clock le own)) in
    subst (λ l. Stamped served l) (sym (stamps_of-stamped clock put each))
    (stamped_late served clock (replicate (length (bytes_of put)) clock) since
    (all_replicate (λ stamp. clock ≤ stamp) (length (bytes_of put)) clock (omega arith)))
