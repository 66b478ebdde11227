-- The steps of the loops that read a name.
use Rattle.std.proofs.Common.{◌≡◌, ℕ, suc, ◌+◌, ◌-◌, ◌<◌, ◌≤◌, List, [], ◌∷◌, ◌++◌, length, take, Ok, Err, refl, sym, ap, subst, ◌∙◌, arith}
use Rattle.std.specs.Prelude.{Option, Some, None, IsNone, IsSome, IfSome}
use Rattle.std.proofs.lemmas.Bool.{eq-eqb, ne_eqb}
use Rattle.std.proofs.lemmas.List.{take_all}
use Rattle.ldar_facts.specs.declared.read_end.ReadEnd.{ReadEnd}
use Rattle.ldar_facts.specs.Form.{◌then◌}
use Rattle.fact_kinds.specs.Name.{IsName}
use Rattle.ldar_facts.specs.Number.{number_from}
use Rattle.ldar_facts.specs.Letters.{letters_or_zero, zeros, ended, behind, name_form}
use Rattle.ldar_facts.proofs.NameForm.{name_text}

module _ (count i : ℕ) (lt : i < count) (bytes : List ℕ) where
  -- one more byte is unread than after this one
  left : count - i ≡ suc (count - (i + 1))
  left = omega arith

  -- no zero byte: reading the zero bytes ends
  pub zeros_stop : (stop : ReadEnd) → number_from 1 ((0, 0) ∷ []) 0 bytes ≡ Err stop → (zeros (count - i)).read bytes ≡ Err stop
  unfolding zeros
  zeros_stop stop e = rw (left, e)

  -- a zero byte: the others are still to be read
  pub zeros_step : (b : ℕ) (rest : List ℕ) → number_from 1 ((0, 0) ∷ []) 0 bytes ≡ Ok (b, rest)
      → (zeros (count - i)).read bytes ≡ (zeros (count - (i + 1))).read rest
  unfolding zeros
  zeros_step b rest e = rw (left, e)

  -- neither a letter nor zero: reading the name ends
  pub behind_stop : (name : List ℕ) (stop : ReadEnd) → number_from 1 letters_or_zero 0 bytes ≡ Err stop → (behind (count - i) name).read bytes ≡ Err stop
  unfolding behind
  behind_stop name stop e = rw (left, e)

  -- a zero byte: the name is complete
  pub behind_zero : (name : List ℕ) (b : ℕ) (rest : List ℕ) → b ≡ 0 → number_from 1 letters_or_zero 0 bytes ≡ Ok (b, rest)
      → (behind (count - i) name).read bytes ≡ (ended (count - (i + 1)) name).read rest
  unfolding behind
  behind_zero name b rest is e = rw (left, e, eq-eqb b 0 is)

  -- a letter: it belongs to the name
  pub behind_letter : (name : List ℕ) (b : ℕ) (rest : List ℕ) → (b ≡ 0 → ⊥) → number_from 1 letters_or_zero 0 bytes ≡ Ok (b, rest)
      → (behind (count - i) name).read bytes ≡ (behind (count - (i + 1)) (name ++ b ∷ [])).read rest
  unfolding behind
  behind_letter name b rest is_not e = rw (left, e, ne_eqb b 0 is_not)

-- all zero bytes were read
pub zeros_end : (count i : ℕ) (bytes : List ℕ) → count ≤ i → (zeros (count - i)).read bytes ≡ Ok (tt, bytes)
unfolding zeros
zeros_end count i bytes le = let is : count - i ≡ 0 = omega arith in rw is

-- all bytes of a name were read
pub behind_end : (count i : ℕ) (name bytes : List ℕ) → count ≤ i → (behind (count - i) name).read bytes ≡ Ok (name, bytes)
unfolding behind
behind_end count i name bytes le = let is : count - i ≡ 0 = omega arith in rw is

-- what was read as a name is one
pub is_name : (bytes name rest : List ℕ) → name_form.read bytes ≡ Ok (name, rest) → IsName name
is_name bytes name rest e =
    let p = name_form.reads.leads bytes name rest e in
    subst IsName p.1 (name_text p.0).0

-- `Name::new` finds the name with these bytes
pub is_some : (bytes : List ℕ) (found : Option (List ℕ)) → IsName bytes → (IsNone found → IsName bytes → ⊥) → IsSome found
is_some bytes (Some name) is none = refl
is_some bytes None is none = absurd (none refl is)

-- the name that `Name::new` finds has these bytes
pub same_name : (bytes : List ℕ) (found : Option (List ℕ)) (name : List ℕ) → found ≡ Some name → IfSome found (λ name. IsName bytes × (name ≡ bytes))
    → bytes ≡ name
same_name bytes (Some other) name is given = let same : other ≡ name = cc in sym given.1 ∙ same
same_name bytes None name is given = absurd cc

-- a zero byte after this many letters
module _ (len : ℕ) (lt : len < 12) (name bytes old rest : List ℕ) (b : ℕ) (so_far : (behind (12 - len) name).read old ≡ name_form.read bytes)
    (is : b ≡ 0) (read : number_from 1 letters_or_zero 0 old ≡ Ok (b, rest)) where
  -- the rest is that of a name that ends here
  after_zero : name_form.read bytes ≡ (ended (11 - len) name).read rest
  after_zero =
      let more : 12 - (len + 1) ≡ 11 - len = omega arith in
      sym so_far ∙ behind_zero 12 len lt old name b rest is read ∙ ap (λ k. (ended k name).read rest) more

  -- if zero bytes follow, the letters are the name
  pub zeros_follow : (z : Unit {0}) (after : List ℕ) → (zeros (11 - len)).read rest ≡ Ok (z, after) → name_form.read bytes ≡ Ok (name, after)
  zeros_follow z after e = after_zero ∙ ap (λ r. r then λ x. Ok (name, x.1)) e

  -- if reading the zero bytes ends without a value, so does reading the name
  pub zeros_fail : (stop : ReadEnd) → (zeros (11 - len)).read rest ≡ Err stop → name_form.read bytes ≡ Err stop
  zeros_fail stop e = after_zero ∙ ap (λ r. r then λ x. Ok (name, x.1)) e

-- twelve letters
pub all_letters : (len : ℕ) (letters bytes rest : List ℕ) → 12 ≤ len → length letters ≡ 12
    → (behind (12 - len) (take len letters)).read rest ≡ name_form.read bytes
    → name_form.read bytes ≡ Ok (letters, rest)
all_letters len letters bytes rest le room so_far =
    let whole = take_all len letters (omega arith) in
    sym so_far ∙ behind_end 12 len (take len letters) rest le ∙ ap (λ l. Ok (l, rest)) whole
