-- The bytes of frames can be read in only one way.
use Rattle.std.proofs.Common.{◌≡◌, ℕ, ◌*◌, ◌/◌, ◌%◌, ◌<◌, ◌≤◌, List, [], ◌∷◌, ◌++◌, length, refl, sym, ◌∙◌, arith, append_assoc, length-append}
use Rattle.std.specs.List.{AllByRecursion}
use Rattle.fact_kinds.specs.declared.batch.Batch.{Batch}
use Rattle.fact_kinds.specs.Fields.{big_endian}
use Rattle.std.proofs.lemmas.List.Sums.{sum_by-append}
use Rattle.ldar_journal.specs.Image.{IsBatch, spelling, payload, frame, IsFrame, fact_count}
use Rattle.ldar_journal.proofs.GrammarLaws.{one_batch, length-spelling, facts-batch}

-- a list with a non-empty prefix is not empty
longer : (x y : List ℕ) → x ++ y ≡ [] → length x ≡ 0
longer [] y same = refl
longer (a ∷ x) y same = cc

-- at most one list of batches has this payload
pub one_payload : (old new : List Batch) → AllByRecursion IsBatch old → AllByRecursion IsBatch new → payload old ≡ payload new → old ≡ new
one_payload [] [] old_are new_are same = refl
one_payload [] (b ∷ new) old_are new_are same = absurd (omega (arith, length-spelling b new_are.0, longer (spelling b) (payload new) (sym same)))
one_payload (a ∷ old) [] old_are new_are same = absurd (omega (arith, length-spelling a old_are.0, longer (spelling a) (payload old) same))
one_payload (a ∷ old) (b ∷ new) old_are new_are same =
    let front = one_batch a b (payload old) (payload new) old_are.0 new_are.0 same in
    let rest = one_payload old new old_are.1 new_are.1 front.1 in
    cc

-- a payload has between 16 and 11,785 bytes for each batch
pub length-payload : (bs : List Batch) → AllByRecursion IsBatch bs → (16 * length bs ≤ length (payload bs)) × (length (payload bs) ≤ 11_785 * length bs)
length-payload [] bs_are = (omega arith, omega arith)
length-payload (b ∷ bs) bs_are =
    let one = length-spelling b bs_are.0 in
    let rest = length-payload bs bs_are.1 in
    let both = length-append (spelling b) (payload bs) in
    (omega arith, omega arith)

-- different numbers of four bytes have different bytes
pub big_endian-one : (m n : ℕ) → m < 4_294_967_296 → n < 4_294_967_296 → big_endian 4 m ≡ big_endian 4 n → m ≡ n
big_endian-one m n m_fits n_fits same =
    let a : m / 16777216 % 256 ≡ n / 16777216 % 256 = cc in
    let b : m / 65536 % 256 ≡ n / 65536 % 256 = cc in
    let c : m / 256 % 256 ≡ n / 256 % 256 = cc in
    let d : m / 1 % 256 ≡ n / 1 % 256 = cc in
    omega arith

-- prefixes of the same length of one list are equal
pub fronts : (a b x y : List ℕ) → length a ≡ length b → a ++ x ≡ b ++ y → (a ≡ b) × (x ≡ y)
fronts [] [] x y long same = (refl, same)
fronts [] (c ∷ b) x y long same = absurd (omega arith)
fronts (c ∷ a) [] x y long same = absurd (omega arith)
fronts (c ∷ a) (d ∷ b) x y long same =
    let first : c ≡ d = cc in
    let tails : a ++ x ≡ b ++ y = cc in
    let rest = fronts a b x y (omega arith) tails in
    (cc, rest.1)

-- at most one frame is at the front of some bytes
pub one_frame : (old new : List Batch) (x y : List ℕ) → IsFrame old → IsFrame new → frame old ++ x ≡ frame new ++ y → (old ≡ new) × (x ≡ y)
one_frame old new x y old_is new_is same =
    let old_long = length-payload old old_is.each in
    let new_long = length-payload new new_is.each in
    let heads : (big_endian 4 (length (payload old)) ≡ big_endian 4 (length (payload new))) × (payload old ++ x ≡ payload new ++ y) = (cc, cc) in
    let long = big_endian-one (length (payload old)) (length (payload new)) (omega (arith, old_is.fits)) (omega (arith, new_is.fits)) heads.0 in
    let parts = fronts (payload old) (payload new) x y long heads.1 in
    (one_payload old new old_is.each new_is.each parts.0, parts.1)

-- batches followed by a rest, whose bytes are the bytes of these batches
pub record PayloadGoesOn (front whole : List Batch) (rest : List ℕ) : Type 0 where
  pub more : List Batch
  pub batches : whole ≡ front ++ more
  pub bytes : rest ≡ payload more
  pub each : AllByRecursion IsBatch more

-- a prefix of batches with the same bytes is followed by the other batches
pub payload_goes_on : (front whole : List Batch) (rest : List ℕ) → AllByRecursion IsBatch front → AllByRecursion IsBatch whole
    → payload whole ≡ payload front ++ rest → PayloadGoesOn front whole rest
payload_goes_on [] whole rest front_are whole_are same = record { more = whole; batches = refl; bytes = sym same; each = whole_are }
payload_goes_on (a ∷ front) [] rest front_are whole_are same =
    absurd (omega (
      arith,
      length-spelling a front_are.0,
      longer (spelling a) (payload front ++ rest)
          (sym (append_assoc (spelling a) (payload front) rest) ∙ sym same),
    ))
payload_goes_on (a ∷ front) (b ∷ whole) rest front_are whole_are same =
    let first = one_batch a b (payload front ++ rest) (payload whole) front_are.0 whole_are.0
    (sym (append_assoc (spelling a) (payload front) rest) ∙ sym same) in
    let next = payload_goes_on front whole rest front_are.1 whole_are.1 (sym first.1) in
    let batches = next.batches in
    let head = first.0 in
    record { more = next.more; batches = cc; bytes = next.bytes; each = next.each }

-- each batch has a fact
pub fact_count-some : (batches : List Batch) → AllByRecursion IsBatch batches → length batches ≤ fact_count batches
fact_count-some [] are = omega arith
fact_count-some (b ∷ batches) are =
    omega (arith, facts-batch b are.0, fact_count-some batches are.1, sum_by-append (λ (batch : Batch). length batch.facts) (b ∷ []) batches)
