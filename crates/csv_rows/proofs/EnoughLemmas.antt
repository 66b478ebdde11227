-- A text has at most as many records as bytes, so reading that many reads all.
use Rattle.std.proofs.Common.{◌≡◌, ℕ, ◌+◌, ◌<◌, ◌≤◌, ◌==◌, zero, suc, Bool, true, false, if◌then◌else◌, List, [], ◌∷◌, length, Option, Some, None}
use Rattle.std.proofs.Common.{refl, ap, inl, inr, arith}
use Rattle.std.proofs.lemmas.Bool.{cases_Bool}
use Rattle.csv.specs.Machine.{Read, after_end, ends_at_end, ends_with, field_after, fields_after}
use Rattle.csv.specs.Machine.{in_field, is_end, next_record, start_field, start_record, step}
use Rattle.csv.specs.Reading.{default_config, is_bom, records_from, records_next, strip_bom}
use Rattle.csv.specs.declared.parser.Action.{Action}
use Rattle.csv.specs.declared.parser.Action.TheVariants as act
use Rattle.csv.specs.declared.parser.State.{State}
use Rattle.csv.specs.declared.parser.State.TheVariants as st
use Rattle.csv.specs.declared.parser.Terminator.TheVariants as term

-- ---- where a record may end

-- a step that ends a record leaves a state in which the end of the text ends no record
abbrev Ends : State × Action → Type 0
Ends p = is_end p.1 ≡ true → ends_at_end p.0 ≡ false

-- a step with this action does not end a record
goes_on : (s : State) (a : Action) → is_end a ≡ false → Ends (s, a)
goes_on s a on ended = absurd cc

-- a choice between two such steps
either : (b : Bool) (x y : State × Action) → Ends x → Ends y → Ends (if b then x else y)
either true x y first second = first
either false x y first second = second

-- the end of a line leaves such a state
line_end : (b : Bool) → ends_at_end (if b then st.AfterCr else st.StartRecord) ≡ false
line_end true = refl
line_end false = refl

-- a step within a field
in_field_ends : (c : ℕ) → Ends (in_field default_config c)
in_field_ends c =
    either (c == 44) (st.StartField, act.EndField)
    (if ends_with term.CRLF c then (after_end term.CRLF c, act.EndRecord) else (st.InField, act.Copy))
    (goes_on st.StartField act.EndField refl)
    (
    either (ends_with term.CRLF c) (after_end term.CRLF c, act.EndRecord) (st.InField, act.Copy) (λ ended. line_end (c == 13))
    (goes_on st.InField act.Copy refl)
    )

-- a step at the start of a field
start_field_ends : (c : ℕ) → Ends (start_field default_config c)
start_field_ends c =
    either (c == 34) (st.InQuoted, act.Skip) (in_field default_config c) (goes_on st.InQuoted act.Skip refl) (in_field_ends c)

-- a step at the start of a record
start_record_ends : (c : ℕ) → Ends (start_record default_config c)
start_record_ends c =
    either (ends_with term.CRLF c) (st.StartRecord, act.Skip) (start_field default_config c) (goes_on st.StartRecord act.Skip refl) (start_field_ends c)

-- every step
step_ends : (s : State) (c : ℕ) → Ends (step default_config s c)
step_ends st.StartRecord c = start_record_ends c
step_ends st.StartField c = start_field_ends c
step_ends st.InField c = in_field_ends c
step_ends st.InQuoted c =
    either (c == 34) (st.AfterQuote, act.Skip) (st.InQuoted, act.Copy) (goes_on st.AfterQuote act.Skip refl) (goes_on st.InQuoted act.Copy refl)
step_ends st.InEscape c = goes_on st.InQuoted act.Copy refl
step_ends st.AfterQuote c =
    either (c == 34) (st.InQuoted, act.Copy) (in_field default_config c) (goes_on st.InQuoted act.Copy refl) (in_field_ends c)
step_ends st.InComment c =
    either (c == 10) (st.StartRecord, act.Skip) (st.InComment, act.Skip) (goes_on st.StartRecord act.Skip refl) (goes_on st.InComment act.Skip refl)
step_ends st.AfterCr c =
    either (c == 10) (st.StartRecord, act.Skip) (start_record default_config c) (goes_on st.StartRecord act.Skip refl) (start_record_ends c)

-- ---- the unread bytes after a record

-- the step of a byte
abbrev to : State → ℕ → State × Action
to s c = step default_config s c

-- the state after a record
abbrev state_of : Option Read → State
state_of None = st.StartRecord
state_of (Some q) = q.1

-- the unread bytes after a record
abbrev rest_of : Option Read → List ℕ
rest_of None = []
rest_of (Some q) = q.2

-- reading a record leaves at most as many bytes
no_more_left : (bytes : List ℕ) (s : State) (fields : List (List ℕ)) (field : List ℕ)
    → length (rest_of (next_record default_config s fields field bytes)) ≤ length bytes
unfolding next_record
no_more_left [] s fields field =
    elim (cases_Bool (ends_at_end s)) [
      | inl ended ↦ rw ended (omega arith)
      | inr on ↦ rw on (omega arith)
    ]
no_more_left (c ∷ rest) s fields field =
    elim (cases_Bool (is_end (step default_config s c).1)) [
      | inl ended ↦ rw ended (omega arith)
      | inr on ↦ rw on (let left = no_more_left rest (to s c).0 (fields_after (to s c).1 fields field) (field_after (to s c).1 c field) in omega (arith, left))
    ]

-- reading a record from at least one byte leaves fewer bytes
fewer_left : (c : ℕ) (rest : List ℕ) (s : State) (fields : List (List ℕ)) (field : List ℕ)
    → length (rest_of (next_record default_config s fields field (c ∷ rest))) ≤ length rest
unfolding next_record
fewer_left c rest s fields field =
    elim (cases_Bool (is_end (step default_config s c).1)) [
      | inl ended ↦ rw ended (omega arith)
      | inr on ↦ rw on (no_more_left rest (to s c).0 (fields_after (to s c).1 fields field) (field_after (to s c).1 c field))
    ]

-- after a record the end of the text ends no record
is_between : (bytes : List ℕ) (s : State) (fields : List (List ℕ)) (field : List ℕ)
    → ends_at_end (state_of (next_record default_config s fields field bytes)) ≡ false
unfolding next_record
is_between [] s fields field =
    elim (cases_Bool (ends_at_end s)) [
      | inl ended ↦ rw ended refl
      | inr on ↦ rw on refl
    ]
is_between (c ∷ rest) s fields field =
    elim (cases_Bool (is_end (step default_config s c).1)) [
      | inl ended ↦ rw ended (step_ends s c ended)
      | inr on ↦ rw on (is_between rest (to s c).0 (fields_after (to s c).1 fields field) (field_after (to s c).1 c field))
    ]

-- at the end of the text there is no record
none_at_end : (s : State) → ends_at_end s ≡ false → next_record default_config s [] [] [] ≡ None
unfolding next_record
none_at_end s on = rw on refl

-- ---- any two limits above the number of bytes

-- two limits give the same records, from each such state and bytes
abbrev AreSame : ℕ → ℕ → Type 0
AreSame n m =
    (s : State) (bytes : List ℕ) → ends_at_end s ≡ false → length bytes < n → length bytes < m
    → records_from default_config n s bytes ≡ records_from default_config m s bytes

-- the records after the next one are the same for both limits
same_behind : (n m : ℕ) (next : Option Read) → AreSame n m → ends_at_end (state_of next) ≡ false → length (rest_of next) < n → length (rest_of next) < m
    → records_next (records_from default_config n) next ≡ records_next (records_from default_config m) next
same_behind n m None same between fewer fewer_too = refl
same_behind n m (Some q) same between fewer fewer_too = ap (λ (l : List (List (List ℕ))). q.0 ∷ l) (same q.1 q.2 between fewer fewer_too)

-- any two limits give the same records
are_same : (n m : ℕ) → AreSame n m
unfolding records_from
are_same zero m s bytes between fewer fewer_too = absurd (omega (arith, fewer))
are_same (suc n) zero s bytes between fewer fewer_too = absurd (omega (arith, fewer_too))
are_same (suc n) (suc m) s [] between fewer fewer_too = rw (none_at_end s between) refl
are_same (suc n) (suc m) s (c ∷ rest) between fewer fewer_too =
    let left = fewer_left c rest s [] [] in
    same_behind n m (next_record default_config s [] [] (c ∷ rest)) (are_same n m) (is_between (c ∷ rest) s [] []) (omega (arith, left, fewer))
    (omega (arith, left, fewer_too))

-- a choice of two lists
one_of_two : (b : Bool) (xs ys : List ℕ) (n : ℕ) → length xs ≤ n → length ys ≤ n → length (if b then xs else ys) ≤ n
one_of_two true xs ys n first second = first
one_of_two false xs ys n first second = second

-- a text without its byte order mark is not longer
no_longer : (text : List ℕ) → length (strip_bom text) ≤ length text
unfolding strip_bom
no_longer [] = omega arith
no_longer (a ∷ []) = omega arith
no_longer (a ∷ b ∷ []) = omega arith
no_longer (a ∷ b ∷ c ∷ rest) = one_of_two (is_bom a b c) rest (a ∷ b ∷ c ∷ rest) (length (a ∷ b ∷ c ∷ rest)) (omega arith) (omega arith)

-- a limit of one more record than bytes gives all records of the text
pub enough : (text : List ℕ)
    → records_from default_config (length (strip_bom text) + 1) st.StartRecord (strip_bom text)
    ≡ records_from default_config (suc (length text)) st.StartRecord (strip_bom text)
enough text =
    let shorter = no_longer text in
    are_same (length (strip_bom text) + 1) (suc (length text)) st.StartRecord (strip_bom text) refl (omega arith) (omega (arith, shorter))
