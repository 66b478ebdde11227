-- What a connection keeps between its items, and at its end.
use Rattle.std.proofs.Common.{◌≡◌, ◌⊎◌, inl, inr, ℕ, ◌+◌, ◌<◌, ◌≤◌, false, List, [], ◌∷◌, ◌++◌, length, Option, refl, sym, ap, subst, ◌∙◌}
use Rattle.std.proofs.Common.{append_assoc, length-append, arith}
use Rattle.std.proofs.lemmas.Grind.{flat_map-append}
use Rattle.ldar_ports.specs.Sink.{Piece, bytes_of}
use Rattle.ldar_ports.specs.Source.{Takes}
use Rattle.ldar_ports.specs.Window.{WindowState, after_taking}
use Rattle.ldar_ports.proofs.TakesLemmas.{takes_more}
use Rattle.ldar_session.specs.declared.ended.TheConstants.{MOST_ANSWERS}
use Rattle.ldar_ports.specs.declared.ended.Ended.{Ended}
use Rattle.ldar_ports.specs.declared.ended.Ended.TheVariants.{Done, Stopped, CutShort, Refused, ReadFault, WriteFault, Memory}
use Rattle.ldar_session.specs.Served.{Served, items_of, texts_of}
use Rattle.ldar_session.specs.Speech.{Speech, AreAnswered, Ends, EndsInput, EndsRefused, EndsUnsaid, IsPartProgress, IsRefusal}
use Rattle.ldar_session.proofs.ItemLemmas.{are_some_more}
use Rattle.ldar_session.proofs.Stretches.{lacks_group, lacks_none}

-- two reads of bytes
pub taken_twice : (old middle new : WindowState) (first second : List ℕ) → middle ≡ after_taking old first → new ≡ after_taking middle second
    → new ≡ after_taking old (first ++ second)
taken_twice old middle new first second one two =
    two ∙ ap (λ (w : WindowState). after_taking w second) one ∙ ap (λ (l : List ℕ). record old { bytes = l }) (append_assoc old.bytes first second)

-- the bytes read after those in hand
pub takes_after : (old middle new : Option (List ℕ)) (items window taken window' : List ℕ) → Takes old (items ++ window) middle → Takes middle taken new
    → window' ≡ window ++ taken → Takes old (items ++ window') new
takes_after old middle new items window taken window' before more is =
    let Of = λ (bytes : List ℕ). Takes old bytes new in
    subst (λ bytes. Of (items ++ bytes)) (sym is)
    (subst Of (append_assoc items window taken) (takes_more old middle new (items ++ window) taken before more))

-- items at the front of the bytes in hand come after those served before
pub items_before : (served more : List Served) (window rest : List ℕ) → window ≡ items_of more ++ rest
    → items_of served ++ window ≡ items_of (served ++ more) ++ rest
items_before served more window rest is =
    ap (λ l. items_of served ++ l) is ∙ sym (append_assoc (items_of served) (items_of more) rest)
    ∙ ap (λ l. l ++ rest) (sym (flat_map-append (λ (s : Served). s.item) served more))

-- a list of length 0 is empty
pub is_nil : (l : List ℕ) → length l ≡ 0 → l ≡ []
is_nil [] none = refl
is_nil (x ∷ l) none = absurd (omega (arith, none))

module _ (p : Speech) where
  -- the end of a connection whose input has no further item
  pub ends_input : (ended : Ended) (served : List Served) (rest : List ℕ) (left : Option (List ℕ)) (before : ℕ) → length served < MOST_ANSWERS
      → before ≡ length (items_of served) → AreAnswered p false served → EndsInput p ended before rest left → Ends p ended served rest left []
  ends_input Done served rest left before fewer same are input = inl (record { said = refl; fewer = fewer; are = are; input = input })
  ends_input Stopped served rest left before fewer same are input = absurd input
  ends_input (CutShort got) served rest left before fewer same are input = record { said = refl; fewer = fewer; are = are; input = input }
  ends_input (Refused at) served rest left before fewer same are input =
      inl (record { said = refl; fewer = fewer; are = are; input = subst (λ n. EndsInput p (Refused at) n rest left) same input })
  ends_input ReadFault served rest left before fewer same are input = record { said = refl; fewer = fewer; are = are; input = input }
  ends_input WriteFault served rest left before fewer same are input = absurd input
  ends_input Memory served rest left before fewer same are input =
      record { are = inl (record { closing = false; are = are; most = omega (arith, fewer) }); lacks = lacks_none served }

  -- the end of a connection by a write error or out of memory
  ends_fault : (ended : Ended) (served : List Served) (rest : List ℕ) (left : Option (List ℕ)) (unsaid : List ℕ)
      → (ended ≡ WriteFault) ⊎ (ended ≡ Memory) → EndsUnsaid p served unsaid → Ends p ended served rest left unsaid
  ends_fault ended served rest left unsaid (inl is) ends = subst (λ e. Ends p e served rest left unsaid) (sym is) ends
  ends_fault ended served rest left unsaid (inr is) ends = subst (λ e. Ends p e served rest left unsaid) (sym is) ends

  -- the end of a connection by items with text that may not be written, or by refused bytes, after items that leave it open
  pub ends_part : (ended : Ended) (served more : List Served) (rest : List ℕ) (left : Option (List ℕ)) (put : List Piece) (unsaid : List ℕ) (before most : ℕ)
      → most ≤ 16 → length served + most ≤ MOST_ANSWERS → length served < MOST_ANSWERS → before ≡ length (items_of served) → AreAnswered p false served
      → texts_of more ≡ bytes_of put ++ unsaid → IsPartProgress p most ended more ⊎ IsRefusal p before ended more unsaid
      → Ends p ended (served ++ more) rest left unsaid
  ends_part ended served more rest left put unsaid before most small fits fewer same are said (inl part) =
      let some = are_some_more p part.closing served more are part.are in
      ends_fault ended (served ++ more) rest left unsaid part.fault (record {
        are = inl (record { closing = some.0; are = some.1; most = omega (arith, length-append served more, part.fits, fits) });
        lacks = lacks_group served more put unsaid (omega (arith, part.fits, small)) said;
      })
  ends_part ended served more rest left put unsaid before most small fits fewer same are said (inr refusal) =
      let refused : EndsRefused p before (served ++ more) = record {
        before = served;
        last = refusal.last;
        served_are = ap (λ (l : List Served). served ++ l) refusal.served_are;
        fewer = fewer;
        are = are;
        away = refusal.away;
        counted = same;
      } in
      elim refusal.said [
        | inl all ↦ subst (λ e. Ends p e (served ++ more) rest left unsaid) (sym all.0) (inr (refused, all.1))
        | inr fault ↦ ends_fault ended (served ++ more) rest left unsaid (inl fault) (record {
          are = inr (before, refused);
          lacks = lacks_group served more put unsaid (omega (arith, ap length refusal.served_are)) said;
        })
      ]
