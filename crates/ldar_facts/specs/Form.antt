-- Internal: how the private readers are proved. It is in specs/ only because their clauses cite it.
-- Forms: how a value is read from the start of some bytes, and when that is correct. The promise of `read_batch` is in Grammar.
use Rattle.std.specs.Prelude.{◌≡◌, ℕ, suc, ◌<◌, List, ◌∷◌, ◌++◌, length, slice_index, Result, Ok, Err}
use Rattle.ldar_facts.specs.declared.read_end.ReadEnd.{ReadEnd}
use Rattle.ldar_facts.specs.declared.read_end.ReadEnd.TheVariants.{Short, Wrong}

-- a value and the unread bytes, or the reason why no value was read
abbrev pub Outcome : Type 0 → Type 0
Outcome A = Result (A × List ℕ) ReadEnd

-- a step, then another that reads the bytes after it
infixl 10 ◌then◌
abbrev pub ◌then◌ : {A B : Type 0} → Outcome A → (A × List ℕ → Outcome B) → Outcome B
(Ok x) then next = next x
(Err stop) then next = Err stop

-- a function returned the result of a reading
abbrev pub Gives : {X Y : Type 0} → (X → Y) → Result X ReadEnd → Result Y ReadEnd → Type 0
Gives view (Ok x) reading = reading ≡ Ok (view x)
Gives view (Err stop) reading = reading ≡ Err stop

-- each element is a byte
abbrev pub IsBytes : List ℕ → Type 0
IsBytes bytes = (i : ℕ) → slice_index bytes i < 256

-- The byte at a place is wrong: the bytes before it begin one of the texts, and with it reading ends, whatever follows.
pub record IsWrong {P A : Type 0} (text : P → List ℕ) (read : List ℕ → Outcome A) (bytes : List ℕ) (left : ℕ) : Type 0 where
  pub front : List ℕ
  pub byte : ℕ
  pub back : List ℕ
  pub splits : bytes ≡ front ++ byte ∷ back
  pub left_is : left ≡ suc (length back)
  pub path : P
  pub more : List ℕ
  pub begins : front ++ more ≡ text path
  pub stops : (other : List ℕ) → read (front ++ byte ∷ other) ≡ Err (Wrong (suc (length other)))

-- A reading is correct for some texts, each with its value.
pub record Reads {P A : Type 0} (value : P → A) (text : P → List ℕ) (read : List ℕ → Outcome A) : Type 0 where
  -- there is a text
  pub some : P
  -- each value that is read belongs to a text
  pub leads : (bytes : List ℕ) (a : A) (rest : List ℕ) → read bytes ≡ Ok (a, rest) → (p : P) × (value p ≡ a)
  -- the text of a value that is read is at the start of the bytes
  pub found : (bytes : List ℕ) (a : A) (rest : List ℕ) → IsBytes bytes → read bytes ≡ Ok (a, rest)
      → (p : P) × (value p ≡ a) × (bytes ≡ text p ++ rest)
  -- each text is read
  pub again : (p : P) (rest : List ℕ) → read (text p ++ rest) ≡ Ok (value p, rest)
  -- bytes that are cut short begin a text
  pub short : (bytes : List ℕ) → IsBytes bytes → read bytes ≡ Err Short → (p : P) × (more : List ℕ) × (bytes ++ more ≡ text p)
  -- a wrong byte is at the first wrong place
  pub wrong : (bytes : List ℕ) (left : ℕ) → IsBytes bytes → read bytes ≡ Err (Wrong left) → IsWrong text read bytes left

-- A form: its texts, the value of each, and its reading.
pub record Form (A : Type 0) : Type 1 where
  pub Path : Type 0
  pub value : Path → A
  pub text : Path → List ℕ
  pub read : List ℕ → Outcome A
  pub reads : Reads value text read

-- a function took a value from the start of the old bytes and left the new ones
abbrev pub Takes : {A : Type 0} → (List ℕ → Outcome A) → Result A ReadEnd → List ℕ → List ℕ → Type 0
Takes read (Ok a) old new = read old ≡ Ok (a, new)
Takes read (Err stop) old new = read old ≡ Err stop
