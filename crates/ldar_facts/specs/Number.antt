-- Internal: how the private readers are proved. It is in specs/ only because their clauses cite it.
-- A number, most significant byte first. Its reading ends at the first byte with which it can be in none of its ranges.
use Rattle.std.specs.Prelude.{◌≡◌, ℕ, zero, suc, ◌+◌, ◌*◌, ◌-◌, ◌/◌, ◌%◌, ◌^◌, ◌<◌, ◌≤◌, ◌⊎◌, Bool, true, false, ◌&&◌, nat_le, nat_lt, IsTrue}
use Rattle.std.specs.Prelude.{if◌then◌else◌, List, [], ◌∷◌, ◌++◌, length, Ok, Err, refl}
use Rattle.std.specs.List.{list_any, list_all}
use Rattle.std.proofs.Common.{sym, ap, subst, ◌∙◌, inl, inr, cond, arith}
use Rattle.std.proofs.lemmas.Bool.{cases_lt, cases_Bool, leb-true, ltb-true, le-leb, and_parts, and_from, or_cases, or_left, or_right, cond-true}
use Rattle.std.proofs.lemmas.Bool.{cond-false}
use Rattle.std.proofs.lemmas.Nat.{mul-le, le-div, div_below}
use Rattle.std.proofs.Math.Nat.{pow-suc, one-le-pow, div-eq_of_lt-le}
use Rattle.ldar_facts.specs.declared.read_end.ReadEnd.{ReadEnd}
use Rattle.ldar_facts.specs.declared.read_end.ReadEnd.TheVariants.{Short, Wrong}
use Rattle.fact_kinds.specs.Fields.{IsAmong, big_endian}
use Rattle.ldar_facts.specs.Compose.{ok_pair}
use Rattle.ldar_facts.specs.Form.{Outcome, ◌then◌, IsBytes, IsWrong, Reads, Form}

-- a number in the range begins like this, with this many bytes still to come
abbrev pub may_be_in : ℕ → ℕ → ℕ × ℕ → Bool
may_be_in more n range = nat_le (n * 256 ^ more) range.1 && nat_le range.0 (n * 256 ^ more + (256 ^ more - 1))

-- a number in one of the ranges begins like this
abbrev pub may_be : ℕ → List (ℕ × ℕ) → ℕ → Bool
may_be more ranges n = list_any (may_be_in more n) ranges

-- the rest of a number that begins like this
unfoldable pub number_from : ℕ → List (ℕ × ℕ) → ℕ → List ℕ → Outcome ℕ
number_from zero ranges n bytes = Ok (n, bytes)
number_from (suc more) ranges n [] = Err Short
number_from (suc more) ranges n (b ∷ bytes) =
    if may_be more ranges (n * 256 + b) then number_from more ranges (n * 256 + b) bytes else Err (Wrong (suc (length bytes)))

-- ---- ranges

-- a number in the first range or in the others is in the ranges
among_cons : (range : ℕ × ℕ) (ranges : List (ℕ × ℕ)) (n : ℕ) → ((range.0 ≤ n) × (n ≤ range.1)) ⊎ IsAmong n ranges → IsAmong n (range ∷ ranges)
among_cons range [] n (inl here) = here
among_cons range [] n (inr there) = absurd there
among_cons range (other ∷ ranges) n h = h

-- a number in the ranges is in the first one or in the others
among_cases : (range : ℕ × ℕ) (ranges : List (ℕ × ℕ)) (n : ℕ) → IsAmong n (range ∷ ranges) → ((range.0 ≤ n) × (n ≤ range.1)) ⊎ IsAmong n ranges
among_cases range [] n h = inl h
among_cases range (other ∷ ranges) n h = h

-- ---- a number and its digits, over 256 ^ more = p

-- v is n followed by some further digits, p = 256 ^ (how many)
pub record IsIn (p n v : ℕ) : Type 0 where
  pub low : n * p ≤ v
  pub high : v < n * p + p

-- what begins with a number and a digit begins with the number
pub block_up : (p n b v : ℕ) → b < 256 → IsIn p (n * 256 + b) v → IsIn (p * 256) n v
block_up p n b v lt h =
    let most : (b + 1) * p ≤ 256 * p = mul-le (b + 1) p 256 p (omega arith) (omega arith) in
    record { low = omega (arith, h.low); high = omega (arith, most, h.high) }

-- what begins with a number begins with it and the next digit
block_down : (p n v : ℕ) → 0 < p → IsIn (p * 256) n v → IsIn p (n * 256 + v / p % 256) v
block_down p n v pos h =
    let low : n * 256 ≤ v / p = le-div (n * 256) v p pos (omega (arith, h.low)) in
    let high : v / p < n * 256 + 256 = div_below v p (n * 256 + 256) pos (omega (arith, h.high)) in
    let is : n * 256 + v / p % 256 ≡ v / p = omega arith in
    rw is (record { low = omega arith; high = omega arith })

-- the next digit is determined by what the number begins with
digit_of : (p n b v : ℕ) → 0 < p → b < 256 → IsIn p (n * 256 + b) v → v / p % 256 ≡ b
digit_of p n b v pos lt h =
    let is : v / p ≡ n * 256 + b = div-eq_of_lt-le p (omega (arith, h.low)) (omega (arith, h.high)) in
    omega arith

-- ---- which beginnings the ranges allow

-- a range that allows a beginning has a number that begins like this
some_in_range : (p n : ℕ) (range : ℕ × ℕ) → 0 < p → n * p ≤ range.1 → range.0 ≤ n * p + (p - 1) → range.0 ≤ range.1
    → (v : ℕ) × (range.0 ≤ v) × (v ≤ range.1) × IsIn p n v
some_in_range p n range pos low high fit =
    elim (cases_lt (n * p) range.0) [
      | inl above ↦ (range.0, omega arith, fit, record { low = omega arith; high = omega arith })
      | inr below ↦ (n * p, below, low, record { low = omega arith; high = omega arith })
    ]

-- each range has a number
abbrev pub AreRanges : List (ℕ × ℕ) → Type 0
AreRanges ranges = IsTrue (list_all (λ range. nat_le range.0 range.1) ranges)

-- a power of 256 is positive
pow_pos : (more : ℕ) → 0 < 256 ^ more
pow_pos more = one-le-pow more 256 (omega arith)

-- some number in the ranges begins like this
pub may_be-finds : (more n : ℕ) (ranges : List (ℕ × ℕ)) → AreRanges ranges → may_be more ranges n ≡ true → (v : ℕ) × IsAmong v ranges × IsIn (256 ^ more) n v
may_be-finds more n [] are h = absurd cc
may_be-finds more n (range ∷ ranges) are h =
    let each = and_parts (nat_le range.0 range.1) (list_all (λ range. nat_le range.0 range.1) ranges) are in
    elim (or_cases (may_be_in more n range) (may_be more ranges n) h) [
      | inl here ↦
          let test = and_parts (nat_le (n * 256 ^ more) range.1) (nat_le range.0 (n * 256 ^ more + (256 ^ more - 1))) here in
          let v = some_in_range (256 ^ more) n range (pow_pos more) (leb-true _ _ test.0) (leb-true _ _ test.1) (leb-true _ _ each.0) in
          (v.0, among_cons range ranges v.0 (inl (v.1, v.2)), v.3)
      | inr there ↦
          let v = may_be-finds more n ranges each.1 there in
          (v.0, among_cons range ranges v.0 (inr v.1), v.2)
    ]

-- the beginning of a number in the ranges is allowed
pub may_be-from : (more n v : ℕ) (ranges : List (ℕ × ℕ)) → IsAmong v ranges → IsIn (256 ^ more) n v → may_be more ranges n ≡ true
may_be-from more n v [] among is_in = absurd among
may_be-from more n v (range ∷ ranges) among is_in =
    let pos = pow_pos more in
    elim (among_cases range ranges v among) [
      | inl here ↦
          or_left (may_be_in more n range) (may_be more ranges n)
          (and_from (nat_le (n * 256 ^ more) range.1) (nat_le range.0 (n * 256 ^ more + (256 ^ more - 1))) (le-leb _ _ (omega (arith, is_in.low, here.1)))
          (le-leb _ _ (omega (arith, is_in.high, here.0))))
      | inr there ↦ or_right (may_be_in more n range) (may_be more ranges n) (may_be-from more n v ranges there is_in)
    ]

-- ---- reading

-- a reading that ended like this
abbrev stops_so : {A : Type 0} → ReadEnd → Outcome A
stops_so stop = Err stop

-- equal readings that ended at a wrong byte have equally many unread bytes
left_of : {A : Type 0} {m n : ℕ} → stops_so {A = A} (Wrong m) ≡ stops_so (Wrong n) → n ≡ m
left_of e = cc

module _ (ranges : List (ℕ × ℕ)) (are_ranges : AreRanges ranges) where
  -- a number in the ranges that is n followed by this many bytes
  abbrev Rest : ℕ → ℕ → Type 0
  Rest more n = (v : ℕ) × IsAmong v ranges × IsIn (256 ^ more) n v

  -- the bytes of the rest of a number
  abbrev text : (more n : ℕ) → Rest more n → List ℕ
  text more n p = big_endian more p.0

  -- the reading of the rest of a number
  abbrev read : (more n : ℕ) → List ℕ → Outcome ℕ
  read more n bytes = number_from more ranges n bytes

  -- a number continued by one more digit
  wider : (more n b : ℕ) → b < 256 → (p : Rest more (n * 256 + b))
      → (q : Rest (suc more) n) × (q.0 ≡ p.0) × (text (suc more) n q ≡ b ∷ text more (n * 256 + b) p)
  wider more n b lt p =
      let q : Rest (suc more) n = (p.0, p.1, rw pow-suc (block_up (256 ^ more) n b p.0 lt p.2)) in
      (q, refl, ap (λ d. d ∷ big_endian more p.0) (digit_of (256 ^ more) n b p.0 (pow_pos more) lt p.2))

  -- the number itself, with no bytes to come
  itself : (n : ℕ) → may_be 0 ranges n ≡ true → (p : Rest 0 n) × (p.0 ≡ n)
  itself n may =
      let v = may_be-finds 0 n ranges are_ranges may in
      (v, omega (arith, v.2.low, v.2.high))

  -- the first of some bytes is a byte
  first_is_byte : (b : ℕ) (bytes : List ℕ) → IsBytes (b ∷ bytes) → b < 256
  first_is_byte b bytes are = are 0

  -- a number that is read is in the ranges, and its text is at the start of the bytes
  found : (more n : ℕ) → may_be more ranges n ≡ true → (bytes : List ℕ) (a : ℕ) (rest : List ℕ) → IsBytes bytes → read more n bytes ≡ Ok (a, rest)
      → (p : Rest more n) × (p.0 ≡ a) × (bytes ≡ text more n p ++ rest)
  unfolding number_from
  found zero n may bytes a rest are e =
      let same = ok_pair (n, bytes) (a, rest) e in
      let p = itself n may in
      (p.0, p.1 ∙ same.0, same.1)
  found (suc more) n may [] a rest are e = absurd cc
  found (suc more) n may (b ∷ bytes) a rest are e =
      let m = n * 256 + b in
      elim (cases_Bool (may_be more ranges m)) [
        | inl passes ↦
            let goes_on = sym (cond-true (may_be more ranges m) (number_from more ranges m bytes) (Err (Wrong (suc (length bytes)))) passes) ∙ e in
            let p = found more m passes bytes a rest (λ i. are (suc i)) goes_on in
            let q = wider more n b (are 0) p.0 in
            (q.0, q.1 ∙ p.1, ap (λ l. b ∷ l) p.2 ∙ ap (λ (l : List ℕ). l ++ rest) (sym q.2))
        | inr stops ↦
            let wrong = sym (cond-false (may_be more ranges m) (number_from more ranges m bytes) (Err (Wrong (suc (length bytes)))) stops) ∙ e in
            absurd cc
      ]

  -- each text is read
  again : (more n : ℕ) (p : Rest more n) (rest : List ℕ) → read more n (text more n p ++ rest) ≡ Ok (p.0, rest)
  unfolding number_from
  again zero n p rest = let same : n ≡ p.0 = omega (arith, p.2.low, p.2.high) in ap (λ v. Ok (v, rest)) same
  again (suc more) n p rest =
      let b = p.0 / 256 ^ more % 256 in
      let inside : IsIn (256 ^ more * 256) n p.0 = rw pow-suc at p.2 in
      let narrow = block_down (256 ^ more) n p.0 (pow_pos more) inside in
      let passes = may_be-from more (n * 256 + b) p.0 ranges p.1 narrow in
      rw passes (again more (n * 256 + b) (p.0, p.1, narrow) rest)

  -- bytes that are cut short begin a number in the ranges
  short : (more n : ℕ) → may_be more ranges n ≡ true → (bytes : List ℕ) → IsBytes bytes → read more n bytes ≡ Err Short
      → (p : Rest more n) × (rest : List ℕ) × (bytes ++ rest ≡ text more n p)
  unfolding number_from
  short zero n may bytes are e = absurd cc
  short (suc more) n may [] are e =
      let p = may_be-finds (suc more) n ranges are_ranges may in
      (p, text (suc more) n p, refl)
  short (suc more) n may (b ∷ bytes) are e =
      let m = n * 256 + b in
      elim (cases_Bool (may_be more ranges m)) [
        | inl passes ↦
            let goes_on = sym (cond-true (may_be more ranges m) (number_from more ranges m bytes) (Err (Wrong (suc (length bytes)))) passes) ∙ e in
            let p = short more m passes bytes (λ i. are (suc i)) goes_on in
            let q = wider more n b (are 0) p.0 in
            (q.0, p.1, ap (λ l. b ∷ l) p.2 ∙ sym q.2)
        | inr stops ↦
            let wrong = sym (cond-false (may_be more ranges m) (number_from more ranges m bytes) (Err (Wrong (suc (length bytes)))) stops) ∙ e in
            absurd cc
      ]

  -- a wrong byte is at the first wrong place
  wrong : (more n : ℕ) → may_be more ranges n ≡ true → (bytes : List ℕ) (left : ℕ) → IsBytes bytes → read more n bytes ≡ Err (Wrong left)
      → IsWrong (text more n) (read more n) bytes left
  unfolding number_from
  wrong zero n may bytes left are e = absurd cc
  wrong (suc more) n may [] left are e = absurd cc
  wrong (suc more) n may (b ∷ bytes) left are e =
      let m = n * 256 + b in
      elim (cases_Bool (may_be more ranges m)) [
        | inl passes ↦
            let goes_on = sym (cond-true (may_be more ranges m) (number_from more ranges m bytes) (Err (Wrong (suc (length bytes)))) passes) ∙ e in
            let w = wrong more m passes bytes left (λ i. are (suc i)) goes_on in
            let q = wider more n b (are 0) w.path in
            record {
              front = b ∷ w.front;
              byte = w.byte;
              back = w.back;
              splits = ap (λ l. b ∷ l) w.splits;
              left_is = w.left_is;
              path = q.0;
              more = w.more;
              begins = ap (λ l. b ∷ l) w.begins ∙ sym q.2;
              stops = λ other. cond-true (may_be more ranges m) (number_from more ranges m (w.front ++ w.byte ∷ other))
                  (Err (Wrong (suc (length (w.front ++ w.byte ∷ other))))) passes ∙ w.stops other;
            }
        | inr stops ↦
            let here = sym (cond-false (may_be more ranges m) (number_from more ranges m bytes) (Err (Wrong (suc (length bytes)))) stops) ∙ e in
            let p = may_be-finds (suc more) n ranges are_ranges may in
            record {
              front = [];
              byte = b;
              back = bytes;
              splits = refl;
              left_is = left_of here;
              path = p;
              more = text (suc more) n p;
              begins = refl;
              stops = λ other. cond-false (may_be more ranges m) (number_from more ranges m other) (Err (Wrong (suc (length other)))) stops;
            }
      ]

-- ---- a number that was read, from any bytes

-- the number is in one of the ranges, as a test
abbrev pub among : List (ℕ × ℕ) → ℕ → Bool
among ranges n = list_any (λ range. nat_le range.0 n && nat_le n range.1) ranges

-- a number that passes the test is in the ranges
pub is_among : (ranges : List (ℕ × ℕ)) (n : ℕ) → among ranges n ≡ true → IsAmong n ranges
is_among [] n h = absurd cc
is_among (range ∷ ranges) n h =
    elim (or_cases (nat_le range.0 n && nat_le n range.1) (among ranges n) h) [
      | inl here ↦ let p = and_parts (nat_le range.0 n) (nat_le n range.1) here in among_cons range ranges n (inl (leb-true _ _ p.0, leb-true _ _ p.1))
      | inr there ↦ among_cons range ranges n (inr (is_among ranges n there))
    ]

-- with no bytes to come, an allowed beginning is in the ranges
pub may_be-among : (ranges : List (ℕ × ℕ)) (n : ℕ) → may_be 0 ranges n ≡ true → among ranges n ≡ true
may_be-among [] n h = h
may_be-among (range ∷ ranges) n h =
    elim (or_cases (may_be_in 0 n range) (may_be 0 ranges n) h) [
      | inl here ↦
          let p = and_parts (nat_le (n * 1) range.1) (nat_le range.0 (n * 1 + (1 - 1))) here in
          let high : n ≤ range.1 = omega (arith, leb-true _ _ p.0) in
          let low : range.0 ≤ n = omega (arith, leb-true _ _ p.1) in
          or_left (nat_le range.0 n && nat_le n range.1) (among ranges n) (and_from (nat_le range.0 n) (nat_le n range.1) (le-leb _ _ low) (le-leb _ _ high))
      | inr there ↦ or_right (nat_le range.0 n && nat_le n range.1) (among ranges n) (may_be-among ranges n there)
    ]

-- a step with a value passed its test
pub no_value : {A : Type 0} (test : Bool) (next : Outcome A) (stop : ReadEnd) (x : A × List ℕ) → cond test next (Err stop) ≡ Ok x → (test ≡ true) × (next ≡ Ok x)
no_value true next stop x e = (refl, e)
no_value false next stop x e = absurd cc

-- a number that is read is in the ranges
pub read_among : (more : ℕ) (ranges : List (ℕ × ℕ)) (n : ℕ) (bytes : List ℕ) (v : ℕ) (rest : List ℕ) → 0 < more
    → number_from more ranges n bytes ≡ Ok (v, rest) → IsAmong v ranges
unfolding number_from
read_among zero ranges n bytes v rest pos e = absurd (omega (arith, pos))
read_among (suc more) ranges n [] v rest pos e = absurd cc
read_among (suc zero) ranges n (b ∷ bytes) v rest pos e =
    let step = no_value (may_be 0 ranges (n * 256 + b)) (Ok (n * 256 + b, bytes)) (Wrong (suc (length bytes))) (v, rest) e in
    let same = ok_pair (n * 256 + b, bytes) (v, rest) step.1 in
    subst (λ m. IsAmong m ranges) same.0 (is_among ranges (n * 256 + b) (may_be-among ranges (n * 256 + b) step.0))
read_among (suc (suc more)) ranges n (b ∷ bytes) v rest pos e =
    let step = no_value (may_be (suc more) ranges (n * 256 + b)) (number_from (suc more) ranges (n * 256 + b) bytes) (Wrong (suc (length bytes))) (v, rest) e in
    read_among (suc more) ranges (n * 256 + b) bytes v rest (omega arith) step.1

-- ---- the form

-- the range is not empty, and its numbers fit this many bytes
abbrev pub is_proper_range : ℕ → ℕ × ℕ → Bool
is_proper_range width range = nat_le range.0 range.1 && nat_lt range.1 (256 ^ width)

-- there is at least one byte and one range, and each range is proper
abbrev pub is_proper : ℕ → List (ℕ × ℕ) → Bool
is_proper width [] = false
is_proper width (range ∷ ranges) = nat_lt 0 width && list_all (is_proper_range width) (range ∷ ranges)

-- proper ranges are not empty
are_ranges : (width : ℕ) (ranges : List (ℕ × ℕ)) → IsTrue (list_all (is_proper_range width) ranges) → AreRanges ranges
are_ranges width [] h = refl
are_ranges width (range ∷ ranges) h =
    let each = and_parts (is_proper_range width range) (list_all (is_proper_range width) ranges) h in
    let parts = and_parts (nat_le range.0 range.1) (nat_lt range.1 (256 ^ width)) each.0 in
    and_from (nat_le range.0 range.1) (list_all (λ range. nat_le range.0 range.1) ranges) parts.0 (are_ranges width ranges each.1)

-- a number in proper ranges fits their bytes
fits : (width : ℕ) (ranges : List (ℕ × ℕ)) (v : ℕ) → IsTrue (list_all (is_proper_range width) ranges) → IsAmong v ranges → v < 256 ^ width
fits width [] v h among = absurd among
fits width (range ∷ ranges) v h among =
    let each = and_parts (is_proper_range width range) (list_all (is_proper_range width) ranges) h in
    let parts = and_parts (nat_le range.0 range.1) (nat_lt range.1 (256 ^ width)) each.0 in
    elim (among_cases range ranges v among) [
      | inl here ↦ omega (arith, here.1, ltb-true range.1 (256 ^ width) parts.1)
      | inr there ↦ fits width ranges v each.1 there
    ]

-- each of some proper ranges is proper
each_proper : (width : ℕ) (ranges : List (ℕ × ℕ)) → IsTrue (is_proper width ranges) → IsTrue (list_all (is_proper_range width) ranges)
each_proper width [] h = absurd cc
each_proper width (range ∷ ranges) h = (and_parts (nat_lt 0 width) (list_all (is_proper_range width) (range ∷ ranges)) h).1

-- proper ranges have at least one byte
wide : (width : ℕ) (ranges : List (ℕ × ℕ)) → IsTrue (is_proper width ranges) → 0 < width
wide width [] h = absurd cc
wide width (range ∷ ranges) h = ltb-true 0 width (and_parts (nat_lt 0 width) (list_all (is_proper_range width) (range ∷ ranges)) h).0

-- some number is in them
some_among : (width : ℕ) (ranges : List (ℕ × ℕ)) → IsTrue (is_proper width ranges) → (v : ℕ) × IsAmong v ranges
some_among width [] h = absurd cc
some_among width (range ∷ ranges) h =
    let each = and_parts (is_proper_range width range) (list_all (is_proper_range width) ranges) (each_proper width (range ∷ ranges) h) in
    let parts = and_parts (nat_le range.0 range.1) (nat_lt range.1 (256 ^ width)) each.0 in
    (range.0, among_cons range ranges range.0 (inl (omega arith, leb-true _ _ parts.0)))

module _ (width : ℕ) (ranges : List (ℕ × ℕ)) (proper : IsTrue (is_proper width ranges)) where
  -- a number in the ranges
  abbrev One : Type 0
  One = (v : ℕ) × IsAmong v ranges

  -- a number in the ranges begins with no digits read
  in_width : (p : One) → IsIn (256 ^ width) 0 p.0
  in_width p = let fit = fits width ranges p.0 (each_proper width ranges proper) p.1 in record { low = omega arith; high = omega arith }

  -- before the first digit some number is allowed
  any_begin : may_be width ranges 0 ≡ true
  any_begin =
      let v = some_among width ranges proper in
      may_be-from width 0 v.0 ranges v.1 (in_width v)

  -- a number in this many bytes is read correctly
  pub number_reads : Reads {P = One} (λ p. p.0) (λ p. big_endian width p.0) (number_from width ranges 0)
  number_reads =
      let are = are_ranges width ranges (each_proper width ranges proper) in
      record {
        some = some_among width ranges proper;
        leads = λ bytes a rest e. ((a, read_among width ranges 0 bytes a rest (wide width ranges proper) e), refl);
        found = λ bytes a rest bs e. let p = found ranges are width 0 any_begin bytes a rest bs e in ((p.0.0, p.0.1), p.1, p.2);
        again = λ p rest. again ranges are width 0 (p.0, p.1, in_width p) rest;
        short = λ bytes bs e. let p = short ranges are width 0 any_begin bytes bs e in ((p.0.0, p.0.1), p.1, p.2);
        wrong = λ bytes left bs e.
            let w = wrong ranges are width 0 any_begin bytes left bs e in
            record {
              front = w.front;
              byte = w.byte;
              back = w.back;
              splits = w.splits;
              left_is = w.left_is;
              path = (w.path.0, w.path.1);
              more = w.more;
              begins = w.begins;
              stops = w.stops;
            };
      }

-- the form of a number in this many bytes, in these ranges
abbrev pub number_form : (width : ℕ) (ranges : List (ℕ × ℕ)) → IsTrue (is_proper width ranges) → Form ℕ
number_form width ranges proper = record {
  Path = (v : ℕ) × IsAmong v ranges;
  value = λ p. p.0;
  text = λ p. big_endian width p.0;
  read = number_from width ranges 0;
  reads = number_reads width ranges proper;
}

-- the reason why a reading ended, or Short if it has a value
abbrev pub stop_of : {A : Type 0} → Outcome A → ReadEnd
stop_of (Ok x) = Short
stop_of (Err stop) = stop
