-- Stretches of a connection: an empty one, one call, and two consecutive ones. What an item is does not matter.
use Rattle.std.proofs.Common.{◌≡◌, ℕ, ◌≤◌, List, [], ◌∷◌, ◌++◌, length, take, Option, None, All, refl, sym, ap, subst, ◌∙◌, append_assoc, length-append, arith}
use Rattle.std.specs.List.{AllByRecursion}
use Rattle.std.specs.Option.{option_to_list}
use Rattle.std.proofs.lemmas.List.{append-nil}
use Rattle.std.proofs.lemmas.List.Elements.{All-nil}
use Rattle.std.proofs.lemmas.Grind.{flat_map-append}
use Rattle.list_words.proofs.Members.{all_append}
use Rattle.ldar_law.specs.Machine.{Call, Turn}
use Rattle.ldar_ports.specs.Sink.{Piece, Puts, IsStamped, bytes_of, stamps_of}
use Rattle.ldar_ports.proofs.PutsLemmas.{puts_none, puts_more}
use Rattle.ldar_session.specs.Served.{Served, Stretch, LacksOneGroup, HasItsClock, Stamped, texts_of, turns_of}
use Rattle.ldar_session.proofs.StampLemmas.{all_parts, length-stamps_of, stamped_more, stamped_behind, unasked_since}

-- if all text was written to the first items, only text to a group after them may not be written
pub lacks_group : (first more : List Served) (put : List Piece) (unsaid : List ℕ) → length more ≤ 16 → texts_of more ≡ bytes_of put ++ unsaid
    → LacksOneGroup (first ++ more) unsaid
lacks_group first more put unsaid fits said = record {
  before = first;
  last = more;
  served_are = refl;
  group = fits;
  lacks = omega (arith, ap length said, length-append (bytes_of put) unsaid);
}

-- if all text was written, none is missing
pub lacks_none : (served : List Served) → LacksOneGroup served []
lacks_none served = record { before = served; last = []; served_are = sym (append-nil served); group = omega arith; lacks = omega arith }

module _ {O : Type 0} (IsItem : Served → Type 0) (led : O → List Call → O → Type 0) where
  -- nothing was served
  unfoldable pub stretch_none : ((office : O) → led office [] office) → (office : O) (pieces : Option (List Piece))
      → Stretch IsItem led office office pieces pieces [] []
  stretch_none stays office pieces = record {
    calls = [];
    put = [];
    run = stays office;
    turns = refl;
    each = tt;
    puts = puts_none pieces;
    said = refl;
    stamped = λ own. tt;
  }

  -- one call, followed by pieces with the answers to its turns
  unfoldable pub stretch_call : (old new : O) (call : Call) (pieces pieces' : Option (List Piece)) (put : List Piece) (served : List Served) (unsaid : List ℕ) (clock : ℕ)
      → led old (call ∷ []) new → turns_of served ≡ call.turns → AllByRecursion IsItem served
      → Puts pieces put pieces' → texts_of served ≡ bytes_of put ++ unsaid → All (IsStamped clock) put → call.end.clock ≤ clock
      → Stretch IsItem led old new pieces pieces' served unsaid
  stretch_call old new call pieces pieces' put served unsaid clock run are each puts said stamped late = record {
    calls = call ∷ [];
    put = put;
    run = run;
    turns = append-nil call.turns ∙ sym are;
    each = each;
    puts = puts;
    said = said;
    stamped = λ own. stamped_behind served call.turns call.end.clock clock put are late stamped own.0;
  }

  -- one call without written text
  unfoldable pub stretch_unsaid : (old new : O) (call : Call) (pieces : Option (List Piece)) (served : List Served)
      → led old (call ∷ []) new → turns_of served ≡ call.turns → AllByRecursion IsItem served
      → Stretch IsItem led old new pieces pieces served (texts_of served)
  stretch_unsaid old new call pieces served run are each =
      stretch_call old new call pieces pieces [] served (texts_of served) call.end.clock run are each (puts_none pieces) refl
      (All-nil (IsStamped call.end.clock)) (omega arith)

  -- no call, and pieces with a prefix of the answer to an item that was not passed on
  unfoldable pub stretch_put : ((office : O) → led office [] office) → (office : O) (pieces pieces' : Option (List Piece)) (put : List Piece)
      → (s : Served) (unsaid : List ℕ)
      → s.turn ≡ None → IsItem s → Puts pieces put pieces' → s.text ≡ bytes_of put ++ unsaid
      → Stretch IsItem led office office pieces pieces' (s ∷ []) unsaid
  stretch_put stays office pieces pieces' put s unsaid unasked is puts said = record {
    calls = [];
    put = put;
    run = stays office;
    turns = ap (λ (turn : Option Turn). option_to_list turn ++ []) (sym unasked);
    each = (is, tt);
    puts = puts;
    said = append-nil s.text ∙ said;
    stamped = λ own. (unasked_since s (take (length s.text) (stamps_of put)) unasked, tt);
  }

  -- a stretch whose items are of another kind
  abbrev pub stretch_of : (IsOther : Served → Type 0) (old new : O) (pieces pieces' : Option (List Piece)) (served : List Served) (unsaid : List ℕ)
      → Stretch IsItem led old new pieces pieces' served unsaid → AllByRecursion IsOther served → Stretch IsOther led old new pieces pieces' served unsaid
  stretch_of IsOther old new pieces pieces' served unsaid stretch each = record {
    calls = stretch.calls;
    put = stretch.put;
    run = stretch.run;
    turns = stretch.turns;
    each = each;
    puts = stretch.puts;
    said = stretch.said;
    stamped = stretch.stamped;
  }

  -- a stretch with all text written, and one after it
  unfoldable pub stretch_more : ((a b c : O) (first second : List Call) → led a first b → led b second c → led a (first ++ second) c)
      → (old middle new : O) (pieces pieces' pieces'' : Option (List Piece)) (first second : List Served) (unsaid : List ℕ)
      → Stretch IsItem led old middle pieces pieces' first [] → Stretch IsItem led middle new pieces' pieces'' second unsaid
      → Stretch IsItem led old new pieces pieces'' (first ++ second) unsaid
  stretch_more joins old middle new pieces pieces' pieces'' first second unsaid one two =
      let turns = λ (s : Served). option_to_list s.turn in
      let whole : texts_of first ≡ bytes_of one.put = one.said ∙ append-nil (bytes_of one.put) in
      let same : length (texts_of first) ≡ length (stamps_of one.put) = ap length whole ∙ sym (length-stamps_of one.put) in
      record {
        calls = one.calls ++ two.calls;
        put = one.put ++ two.put;
        run = joins old middle new one.calls two.calls one.run two.run;
        turns = flat_map-append (λ (call : Call). call.turns) one.calls two.calls ∙ rw (one.turns, two.turns) (sym (flat_map-append turns first second));
        each = all_append IsItem first second one.each two.each;
        puts = puts_more pieces pieces' pieces'' one.put two.put one.puts two.puts;
        said = flat_map-append (λ (s : Served). s.text) first second
            ∙ rw (whole, two.said, flat_map-append (λ (piece : Piece). piece.bytes) one.put two.put)
            (sym (append_assoc (bytes_of one.put) (bytes_of two.put) unsaid));
        stamped = λ own. let parts = all_parts HasItsClock one.calls two.calls own in
            subst (λ l. Stamped (first ++ second) l) (sym (flat_map-append _ one.put two.put))
            (stamped_more first second (stamps_of one.put) (stamps_of two.put) same (one.stamped parts.0) (two.stamped parts.1));
      }
