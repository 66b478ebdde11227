-- Bytes are cut into items in only one way, and so into batches.
use Rattle.std.proofs.Common.{◌≡◌, ℕ, ◌≤◌, List, [], ◌∷◌, ◌++◌, length, map, take, drop, Option, Some, None, MatchOption, inl, inr}
use Rattle.std.proofs.Common.{refl, sym, ap, subst, ◌∙◌, append_assoc, length-append, arith}
use Rattle.std.specs.List.{flat_map, AllByRecursion}
use Rattle.std.proofs.lemmas.Bool.{cases_lt}
use Rattle.std.proofs.lemmas.List.{append-nil, take_all, take-append-le, take-append-drop, length-take}
use Rattle.std.proofs.Math.Seq.{take-append_seam, drop-append_seam}
use Rattle.ldar_facts.specs.Grammar.{HasNoBatch}
use Rattle.ldar_facts.proofs.GrammarLaws.{no_proper_front}
use Rattle.ldar_law.specs.declared.request.Request.{Request}
use Rattle.ldar_law.specs.declared.request.Request.TheVariants.{Sync, Due, Tags, Delays, Route, Percent, Report as ReportView}
use Rattle.ldar_law.specs.Machine.{Turn}
use Rattle.ldar_law.specs.Replies.{reply_text}
use Rattle.ldar_session.specs.Served.{Served, items_of}
use Rattle.ldar_session.specs.Batches.{Asks, IsBatch, IsSpelling}
use Rattle.ldar_session.proofs.ItemLemmas.{items_of-map}

-- ---- spellings

-- an item with a request spells a batch
asks_spelling : (item : List ℕ) (request : Request) → Asks item request → IsSpelling item
asks_spelling item (Sync batch) asks = (batch, asks)
asks_spelling item (Due unit day) asks = absurd asks
asks_spelling item (Tags unit day) asks = absurd asks
asks_spelling item (Delays unit day) asks = absurd asks
asks_spelling item (Route unit day stops) asks = absurd asks
asks_spelling item (Percent unit quarter day) asks = absurd asks
asks_spelling item (ReportView unit half day) asks = absurd asks

-- the item of a turn spells a batch
asked_spelling : (item text : List ℕ) (turn : Option Turn) → MatchOption turn ⊥ (λ t. Asks item t.request × (text ≡ reply_text t.reply))
    → IsSpelling item
asked_spelling item text None is = absurd is
asked_spelling item text (Some turn) is = asks_spelling item turn.request is.0

-- the items that were served spell batches
pub are_spellings : (served : List Served) → AllByRecursion IsBatch served → AllByRecursion IsSpelling (map (λ (s : Served). s.item) served)
are_spellings [] each = tt
are_spellings (s ∷ served) each = (asked_spelling s.item s.text s.turn each.0, are_spellings served each.1)

-- ---- only one way to cut

-- the rests after equal prefixes are equal
pub same_behind : (a b more more' : List ℕ) → a ≡ b → a ++ more ≡ b ++ more' → more ≡ more'
same_behind a b more more' front same =
    sym (drop-append_seam a more) ∙ ap (drop (length a)) (same ∙ ap (λ l. l ++ more') (sym front)) ∙ drop-append_seam a more'

module _ (P : List ℕ → Type 0) (no_front : (a more : List ℕ) → P a → P (a ++ more) → more ≡ []) where
  -- of two items at the front of the same bytes, the one that is not longer is the other one
  same_shorter : (a b more more' : List ℕ) → P a → P b → a ++ more ≡ b ++ more' → length a ≤ length b → a ≡ b
  same_shorter a b more more' is_a is_b same le =
      let front : a ≡ take (length a) b = sym (take-append_seam a more) ∙ ap (take (length a)) same ∙ take-append-le (length a) b more' le in
      let whole : b ≡ a ++ drop (length a) b = sym (take-append-drop (length a) b) ∙ ap (λ l. l ++ drop (length a) b) (sym front) in
      let none : drop (length a) b ≡ [] = no_front a (drop (length a) b) is_a (subst P whole is_b) in
      sym (whole ∙ ap (λ l. a ++ l) none ∙ append-nil a)

  -- two items at the front of the same bytes are equal
  pub same_front : (a b more more' : List ℕ) → P a → P b → a ++ more ≡ b ++ more' → a ≡ b
  same_front a b more more' is_a is_b same =
      elim (cases_lt (length a) (length b)) [
        | inl lt ↦ same_shorter a b more more' is_a is_b same (omega arith)
        | inr ge ↦ sym (same_shorter b a more' more is_b is_a (sym same) (omega arith))
      ]

  -- if no item is at the front of the rest, the items at the front of the bytes are the first of those cut off
  pub cut_in_order : (items : List (List ℕ)) (rest : List ℕ) (others : List (List ℕ)) (more : List ℕ) → AllByRecursion P items
      → ((n : ℕ) → n ≤ length rest → ¬ (P (take n rest))) → AllByRecursion P others
      → flat_map (λ bytes. bytes) items ++ rest ≡ flat_map (λ bytes. bytes) others ++ more → take (length others) items ≡ others
  cut_in_order items rest [] more are none all same = refl
  cut_in_order [] rest (other ∷ others) more are none all same =
      let behind = flat_map (λ (l : List ℕ). l) others ++ more in
      let whole : rest ≡ other ++ behind = same ∙ append_assoc other (flat_map (λ (l : List ℕ). l) others) more in
      let front : other ≡ take (length other) rest = sym (take-append_seam other behind) ∙ ap (take (length other)) (sym whole) in
      absurd (none (length other) (omega (arith, ap length whole, length-append other behind)) (subst P front all.0))
  cut_in_order (item ∷ items) rest (other ∷ others) more are none all same =
      let one = flat_map (λ (l : List ℕ). l) items in
      let two = flat_map (λ (l : List ℕ). l) others in
      let whole : item ++ (one ++ rest) ≡ other ++ (two ++ more) = sym (append_assoc item one rest) ∙ same ∙ append_assoc other two more in
      let first = same_front item other (one ++ rest) (two ++ more) are.0 all.0 whole in
      rw (first, cut_in_order items rest others more are.1 none all.1 (same_behind item other (one ++ rest) (two ++ more) first whole)) refl

  -- two lists of items at the front of the same bytes agree as far as both go
  pub cut_both : (served : List Served) (rest : List ℕ) (others : List (List ℕ)) (more : List ℕ) → AllByRecursion P (map (λ (s : Served). s.item) served)
      → AllByRecursion P others → flat_map (λ bytes. bytes) (map (λ (s : Served). s.item) served) ++ rest ≡ flat_map (λ bytes. bytes) others ++ more
      → take (length others) (map (λ s. s.item) served) ≡ take (length served) others
  cut_both [] rest [] more are all same = refl
  cut_both [] rest (other ∷ others) more are all same = refl
  cut_both (s ∷ served) rest [] more are all same = refl
  cut_both (s ∷ served) rest (other ∷ others) more are all same =
      let one = flat_map (λ (l : List ℕ). l) (map (λ (x : Served). x.item) served) in
      let two = flat_map (λ (l : List ℕ). l) others in
      let whole : s.item ++ (one ++ rest) ≡ other ++ (two ++ more) = sym (append_assoc s.item one rest) ∙ same ∙ append_assoc other two more in
      let first = same_front s.item other (one ++ rest) (two ++ more) are.0 all.0 whole in
      rw (first, cut_both served rest others more are.1 all.1 (same_behind s.item other (one ++ rest) (two ++ more) first whole)) refl

-- no spelling is a proper prefix of another
no_spelling_front : (a more : List ℕ) → IsSpelling a → IsSpelling (a ++ more) → more ≡ []
no_spelling_front a more is longer = no_proper_front a more is.0 longer.0 is.1 longer.1

-- ---- the laws

-- the bytes of what was served, as those of a list of items
pub items_of-items : (served : List Served) → items_of served ≡ flat_map (λ bytes. bytes) (map (λ (s : Served). s.item) served)
items_of-items served = items_of-map served (map (λ (s : Served). s.item) served) refl

-- each whole batch at the front of the bytes was served
pub every_batch : (served : List Served) (rest : List ℕ) (batches : List (List ℕ)) (more : List ℕ) → AllByRecursion IsBatch served → HasNoBatch rest
    → AllByRecursion IsSpelling batches → items_of served ++ rest ≡ flat_map (λ bytes. bytes) batches ++ more
    → take (length batches) (map (λ s. s.item) served) ≡ batches
every_batch served rest batches more each none all same =
    cut_in_order IsSpelling no_spelling_front (map (λ (s : Served). s.item) served) rest batches more (are_spellings served each)
    (λ n within is. none n is.0 is.1) all
    (ap (λ l. l ++ rest) (sym (items_of-items served)) ∙ same)

-- only the bytes decide what was served
pub one_cut : (served other : List Served) (rest left : List ℕ) → AllByRecursion IsBatch served → AllByRecursion IsBatch other → HasNoBatch rest
    → HasNoBatch left → items_of served ++ rest ≡ items_of other ++ left
    → (map (λ s. s.item) served ≡ map (λ s. s.item) other) × (rest ≡ left)
one_cut served other rest left each each' none none' same =
    let items = map (λ (s : Served). s.item) served in
    let items' = map (λ (s : Served). s.item) other in
    let one : take (length items') items ≡ items' = every_batch served rest items' left each none (are_spellings other each')
    (same ∙ ap (λ l. l ++ left) (items_of-items other)) in
    let two : take (length items) items' ≡ items = every_batch other left items rest each' none' (are_spellings served each)
    (sym same ∙ ap (λ l. l ++ rest) (items_of-items served)) in
    let le = ap length one in
    let le' = ap length two in
    let fits : length items ≤ length items' = omega (arith, le, le', length-take (length items) items') in
    let are : items ≡ items' = sym (take_all (length items') items fits) ∙ one in
    let bytes : items_of served ≡ items_of other = items_of-items served ∙ ap (flat_map (λ (l : List ℕ). l)) are ∙ sym (items_of-items other) in
    (are, same_behind (items_of served) (items_of other) rest left bytes same)
