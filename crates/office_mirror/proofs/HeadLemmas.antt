-- The six bytes before the batches of an answer.
use Rattle.std.proofs.Common.{◌≡◌, ◌≢◌, ℕ, ◌+◌, ◌*◌, ◌/◌, ◌%◌, ◌<◌, ◌≤◌, List, [], ◌∷◌, ◌++◌, length, get_or, drop, refl, sym, ap}
use Rattle.std.proofs.Common.{subst, ◌∙◌, arith}
use Rattle.fact_kinds.specs.Fields.{big_endian}
use Rattle.ldar_facts.specs.Form.{IsBytes}
use Rattle.ldar_facts.specs.Grammar.{spelled}
use Rattle.office_mirror.specs.declared.head.AnswerHead.{AnswerHead}
use Rattle.office_mirror.specs.declared.head.HeadRead.TheVariants.{Short, Bad}
use Rattle.office_mirror.specs.AnswerGrammar.{head_fields}
use Rattle.office_mirror.specs.Reader.{IsHead, ReadsHead}

-- four bytes are those of the number that they make
four : (a b c d : ℕ) → a < 256 → b < 256 → c < 256 → d < 256
    → big_endian 4 (a * 16_777_216 + b * 65_536 + c * 256 + d) ≡ a ∷ b ∷ c ∷ d ∷ []
four a b c d la lb lc ld =
    let first : (a * 16_777_216 + b * 65_536 + c * 256 + d) / 16_777_216 % 256 ≡ a = omega arith in
    let second : (a * 16_777_216 + b * 65_536 + c * 256 + d) / 65_536 % 256 ≡ b = omega arith in
    let third : (a * 16_777_216 + b * 65_536 + c * 256 + d) / 256 % 256 ≡ c = omega arith in
    let fourth : (a * 16_777_216 + b * 65_536 + c * 256 + d) / 1 % 256 ≡ d = omega arith in
    rw (first, second, third, fourth) refl

-- these six bytes are a head
six : (a b c d n : ℕ) → a < 256 → b < 256 → c < 256 → d < 256 → 1 ≤ n → n ≤ 16 → (head : AnswerHead) × IsHead (77 ∷ a ∷ b ∷ c ∷ d ∷ n ∷ []) head
six a b c d n la lb lc ld some few =
    let start = a * 16_777_216 + b * 65_536 + c * 256 + d in
    let last : n / 1 % 256 ≡ n = omega arith in (
      record { start = start; count = n },
      record {
        spells = ap (λ l. 77 ∷ a ∷ b ∷ c ∷ d ∷ l ∷ []) (sym last) ∙ ap (λ l. 77 ∷ (l ++ (n / 1 % 256) ∷ [])) (sym (four a b c d la lb lc ld));
        filled = ((omega arith, omega arith), ((omega arith, omega arith), ((some, few), tt)));
      },
    )

-- a head has six bytes
pub length-head : (start count : ℕ) → length (spelled (head_fields start count)) ≡ 6
length-head start count = refl

-- no bytes begin a head
pub none_begin : (bytes : List ℕ) → length bytes ≡ 0 → ReadsHead bytes Short
none_begin [] h = let it = six 0 0 0 0 1 (omega arith) (omega arith) (omega arith) (omega arith) (omega arith) (omega arith) in (omega arith, (it.0, _, it.1))
none_begin (x ∷ bytes) h = absurd (omega (arith, h))

-- the first byte of a head is its letter
pub wrong_letter : (bytes : List ℕ) → length bytes ≢ 0 → get_or bytes 0 0 ≢ 77 → ReadsHead bytes (Bad 0)
wrong_letter [] some other = absurd (some refl)
wrong_letter (x ∷ bytes) some other =
    (omega arith, omega arith, (none_begin [] refl).1, λ begins. other (ap (λ (l : List ℕ). get_or l 0 0) begins.2.spells))

-- fewer than six bytes that begin with the letter begin a head
pub few_begin : (bytes : List ℕ) → IsBytes bytes → length bytes ≢ 0 → get_or bytes 0 0 ≡ 77 → length bytes < 6 → ReadsHead bytes Short
few_begin [] are some is few = absurd (some refl)
few_begin (m ∷ []) are some is few =
    let it = six 0 0 0 0 1 (omega arith) (omega arith) (omega arith) (omega arith) (omega arith) (omega arith) in
    (omega arith, (it.0, _, subst (λ x. IsHead (x ∷ 0 ∷ 0 ∷ 0 ∷ 0 ∷ 1 ∷ []) it.0) (sym is) it.1))
few_begin (m ∷ a ∷ []) are some is few =
    let it = six a 0 0 0 1 (are 1) (omega arith) (omega arith) (omega arith) (omega arith) (omega arith) in
    (omega arith, (it.0, _, subst (λ x. IsHead (x ∷ a ∷ 0 ∷ 0 ∷ 0 ∷ 1 ∷ []) it.0) (sym is) it.1))
few_begin (m ∷ a ∷ b ∷ []) are some is few =
    let it = six a b 0 0 1 (are 1) (are 2) (omega arith) (omega arith) (omega arith) (omega arith) in
    (omega arith, (it.0, _, subst (λ x. IsHead (x ∷ a ∷ b ∷ 0 ∷ 0 ∷ 1 ∷ []) it.0) (sym is) it.1))
few_begin (m ∷ a ∷ b ∷ c ∷ []) are some is few =
    let it = six a b c 0 1 (are 1) (are 2) (are 3) (omega arith) (omega arith) (omega arith) in
    (omega arith, (it.0, _, subst (λ x. IsHead (x ∷ a ∷ b ∷ c ∷ 0 ∷ 1 ∷ []) it.0) (sym is) it.1))
few_begin (m ∷ a ∷ b ∷ c ∷ d ∷ []) are some is few =
    let it = six a b c d 1 (are 1) (are 2) (are 3) (are 4) (omega arith) (omega arith) in
    (omega arith, (it.0, _, subst (λ x. IsHead (x ∷ a ∷ b ∷ c ∷ d ∷ 1 ∷ []) it.0) (sym is) it.1))
few_begin (m ∷ a ∷ b ∷ c ∷ d ∷ n ∷ bytes) are some is few = absurd (omega arith)

-- the last byte of a head is 1 to 16
pub wrong_count : (bytes : List ℕ) → IsBytes bytes → get_or bytes 0 0 ≡ 77 → 6 ≤ length bytes → ¬ ((1 ≤ get_or bytes 5 0) × (get_or bytes 5 0 ≤ 16))
    → ReadsHead bytes (Bad 5)
wrong_count [] are is long other = absurd (omega arith)
wrong_count (m ∷ []) are is long other = absurd (omega arith)
wrong_count (m ∷ a ∷ []) are is long other = absurd (omega arith)
wrong_count (m ∷ a ∷ b ∷ []) are is long other = absurd (omega arith)
wrong_count (m ∷ a ∷ b ∷ c ∷ []) are is long other = absurd (omega arith)
wrong_count (m ∷ a ∷ b ∷ c ∷ d ∷ []) are is long other = absurd (omega arith)
wrong_count (m ∷ a ∷ b ∷ c ∷ d ∷ n ∷ bytes) are is long other =
    let it = six a b c d 1 (are 1) (are 2) (are 3) (are 4) (omega arith) (omega arith) in (
      omega arith,
      omega arith,
      (it.0, 1 ∷ [], subst (λ x. IsHead (x ∷ a ∷ b ∷ c ∷ d ∷ 1 ∷ []) it.0) (sym is) it.1),
      λ begins.
          let low = begins.2.filled.1.1.0.0 in
          let high = begins.2.filled.1.1.0.1 in
          let same : n ≡ begins.0.count / 1 % 256 = ap (λ (l : List ℕ). get_or l 5 0) begins.2.spells in
          other (omega (arith, low, high, same), omega (arith, low, high, same)),
    )

-- ---- two heads at the start of the same bytes

-- they are the same, and the same bytes follow them
pub same_head : (start count other number : ℕ) (rest more : List ℕ) → start ≤ 4_294_967_295 → other ≤ 4_294_967_295 → count ≤ 16 → number ≤ 16
    → spelled (head_fields start count) ++ rest ≡ spelled (head_fields other number) ++ more → (start ≡ other) × (count ≡ number) × (rest ≡ more)
same_head start count other number rest more low high few less same =
    let first : start / 16_777_216 % 256 ≡ other / 16_777_216 % 256 = ap (λ (l : List ℕ). get_or l 1 0) same in
    let second : start / 65_536 % 256 ≡ other / 65_536 % 256 = ap (λ (l : List ℕ). get_or l 2 0) same in
    let third : start / 256 % 256 ≡ other / 256 % 256 = ap (λ (l : List ℕ). get_or l 3 0) same in
    let fourth : start / 1 % 256 ≡ other / 1 % 256 = ap (λ (l : List ℕ). get_or l 4 0) same in
    let last : count / 1 % 256 ≡ number / 1 % 256 = ap (λ (l : List ℕ). get_or l 5 0) same in
    (omega (arith, low, high, first, second, third, fourth), omega (arith, few, less, last), ap (drop 6) same)
