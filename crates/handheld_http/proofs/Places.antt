-- The place of an empty line, in bytes and in a prefix of them.
use Rattle.std.proofs.Common.{◌≡◌, ℕ, ◌+◌, ◌-◌, ◌<◌, ◌≤◌, List, length, take, get_or, sym, ◌∙◌, arith, length-take, min, subst}
use Rattle.std.proofs.lemmas.List.{get_or-take}
use Rattle.memchr.specs.Find.{OccursAt, Nowhere, NoneBefore}
use Rattle.handheld_http.specs.Heads.{empty_line, EndsHead, HasNoEnd}

-- the lists have the same elements before a place
abbrev pub SameBefore : ℕ → List ℕ → List ℕ → Type 0
SameBefore m a b = (j : ℕ) → j < m → get_or a j 0 ≡ get_or b j 0

-- a word occurs in lists with the same elements before a place
pub OccursAt-same : (a b needle : List ℕ) (k m : ℕ) → SameBefore m a b → k + length needle ≤ m → k + length needle ≤ length b
    → OccursAt a needle k → OccursAt b needle k
OccursAt-same a b needle k m same fits long there = record {
  fits = long;
  reads = λ j lt. sym (same (k + j) (omega arith)) ∙ there.reads j lt;
}

pub SameBefore-take : (m : ℕ) (bytes : List ℕ) → SameBefore m (take m bytes) bytes
SameBefore-take m bytes j lt = get_or-take m bytes j 0 lt

-- a head ends in lists with the same elements before a place
pub EndsHead-same : (a b : List ℕ) (n m : ℕ) → SameBefore m a b → n ≤ m → n ≤ length b → EndsHead a n → EndsHead b n
EndsHead-same a b n m same fits long ends =
    let within : 4 ≤ n = ends.in_range.0 in
    let inside : n - 4 + 4 ≤ length a = ends.there.fits in
    record {
      in_range = ends.in_range;
      there = OccursAt-same a b empty_line (n - 4) m same (omega arith) (omega arith) ends.there;
      first = λ k lt there. ends.first k lt
          (OccursAt-same b a empty_line k m (λ j h. sym (same j h)) (omega arith) (omega arith) there);
    }

-- a prefix has the same elements as the whole
pub OccursAt-take : (m : ℕ) (bytes : List ℕ) (k : ℕ) → OccursAt (take m bytes) empty_line k → (k + 4 ≤ m) × OccursAt bytes empty_line k
OccursAt-take m bytes k there =
    let fits : k + 4 ≤ length (take m bytes) = there.fits in
    let shorter : k + 4 ≤ min m (length bytes) = rw length-take at fits in
    (omega arith, OccursAt-same (take m bytes) bytes empty_line k m (SameBefore-take m bytes) (omega arith) (omega arith) there)

pub take-OccursAt : (m : ℕ) (bytes : List ℕ) (k : ℕ) → k + 4 ≤ m → OccursAt bytes empty_line k → OccursAt (take m bytes) empty_line k
take-OccursAt m bytes k fits there =
    let long : k + 4 ≤ length bytes = there.fits in
    let longer : k + 4 ≤ length (take m bytes) = rw length-take (omega arith) in
    OccursAt-same bytes (take m bytes) empty_line k m (λ j h. sym (SameBefore-take m bytes j h)) fits longer there

-- the search in a prefix found an empty line
pub ends_found : (bytes : List ℕ) (at : ℕ)
    → NoneBefore (OccursAt (take 8_192 bytes) empty_line) 0 (length (take 8_192 bytes) + 1) at → OccursAt (take 8_192 bytes) empty_line at
    → EndsHead bytes (at + 4)
ends_found bytes at none there =
    let whole = OccursAt-take 8_192 bytes at there in
    record {
      in_range = (omega arith, whole.0);
      there = subst (λ (k : ℕ). OccursAt bytes empty_line k) (omega arith) whole.1;
      first = λ k lt other. none.before k (omega arith) (omega arith) (take-OccursAt 8_192 bytes k (omega (arith, whole.0)) other);
    }

-- the search in a prefix found no empty line
pub none_found : (bytes : List ℕ) → Nowhere (OccursAt (take 8_192 bytes) empty_line) 0 (length (take 8_192 bytes) + 1)
    → HasNoEnd bytes
none_found bytes nowhere k fits there =
    let front = take-OccursAt 8_192 bytes k fits there in
    let inside : k + 4 ≤ length (take 8_192 bytes) = front.fits in
    nowhere k (omega arith) (omega arith) front

-- the same for a prefix given by an equation
pub ends_in_front : (bytes front : List ℕ) (at : ℕ) → front ≡ take 8_192 bytes
    → NoneBefore (OccursAt front empty_line) 0 (length front + 1) at × OccursAt front empty_line at → EndsHead bytes (at + 4)
ends_in_front bytes front at same found =
    let there = subst (λ (l : List ℕ). NoneBefore (OccursAt l empty_line) 0 (length l + 1) at × OccursAt l empty_line at) same found in
    ends_found bytes at there.0 there.1

pub none_in_front : (bytes front : List ℕ) → front ≡ take 8_192 bytes
    → Nowhere (OccursAt front empty_line) 0 (length front + 1) → HasNoEnd bytes
none_in_front bytes front same nowhere =
    none_found bytes (subst (λ (l : List ℕ). Nowhere (OccursAt l empty_line) 0 (length l + 1)) same nowhere)
