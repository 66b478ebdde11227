-- When words are the positionals of a command.
use Rattle.std.proofs.Common.{◌≡◌, ◌∙◌, ◌==◌, ◌&&◌, ◌+◌, ◌≤◌, ℕ, Bool, true, false, not, List, [], ◌∷◌}
use Rattle.std.proofs.Common.{Option, Some, None, is_some, length, map, drop, refl, sym, ap, arith, cond}
use Rattle.std.proofs.lemmas.Grind.{common_steps}
use Rattle.std.proofs.lemmas.List.Folds.{list_all-map}
use Rattle.std.specs.List.{list_all}
use Rattle.clap.specs.Words.{Text}
use Rattle.command_words.specs.Positionals.{are_plain, is_option, is_plain, positionals_of}

-- words are positionals exactly if they have this number and none of them is an option
pub positionals_of-is_some : (count : ℕ) (name : Text) (further : List Text)
    → is_some (positionals_of count (name ∷ further)) ≡ (length further == count && list_all is_plain further)
positionals_of-is_some count name further = go (length further == count && list_all is_plain further)
  where
    go : (b : Bool) → is_some (cond b (Some further) None) ≡ b
    go true = refl
    go false = refl

-- exactly this number of words, all of them plain
pub record Plain (count : ℕ) (words : List Text) : Type 0 where
  pub long : length words ≡ count
  pub plain : list_all is_plain words ≡ true

pub plain_of : (count : ℕ) (name : Text) (words : List Text) → is_some (positionals_of count (name ∷ words)) ≡ true → Plain count words
plain_of count name words tested =
    go (length words == count) refl (list_all is_plain words) refl (sym (positionals_of-is_some count name words) ∙ tested)
  where
    go : (b : Bool) → (length words == count) ≡ b → (c : Bool) → list_all is_plain words ≡ c → (b && c) ≡ true → Plain count words
    go true long true plain tested = record { long = grind (arith, common_steps); plain = plain }
    go true long false plain tested = cc
    go false long c plain tested = cc

-- such words are the positionals of a command
pub positionals_of-plain : (count : ℕ) (name : Text) (words : List Text) → Plain count words → positionals_of count (name ∷ words) ≡ Some words
positionals_of-plain count name words p =
    let same : (length words == count) ≡ true = grind (arith, common_steps) in
    rw (same, p.plain) refl

-- the first of such words, and the rest
pub record First (count : ℕ) (words : List Text) : Type 0 where
  pub word : Text
  pub rest : List Text
  pub is : words ≡ word ∷ rest
  pub plain : is_option word ≡ false
  pub further : Plain count rest

pub first_of_plain : (count : ℕ) (words : List Text) → Plain (count + 1) words → First count words
first_of_plain count [] p = absurd (omega (arith, p.long))
first_of_plain count (w ∷ ws) p = go (is_option w) refl p.plain
  where
    go : (b : Bool) → is_option w ≡ b → (not b && list_all is_plain ws) ≡ true → First count (w ∷ ws)
    go true is tested = cc
    go false is tested = record {
      word = w;
      rest = ws;
      is = refl;
      plain = is;
      further = record { long = omega (arith, p.long); plain = tested };
    }

-- no words are left
pub none_of_plain : (words : List Text) → Plain 0 words → words ≡ []
none_of_plain [] p = refl
none_of_plain (w ∷ ws) p = absurd (omega (arith, p.long))

-- the first of plain words is plain, and so are the others
pub record PlainFirst (word : Text) (words : List Text) : Type 0 where
  pub plain : is_option word ≡ false
  pub further : list_all is_plain words ≡ true

pub plain_first : (word : Text) (words : List Text) → list_all is_plain (word ∷ words) ≡ true → PlainFirst word words
plain_first word words all = go (is_option word) refl all
  where
    go : (b : Bool) → is_option word ≡ b → (not b && list_all is_plain words) ≡ true → PlainFirst word words
    go true is tested = cc
    go false is tested = record { plain = is; further = tested }

-- plain words of the right number are positionals
pub positionals_of-counted : (count : ℕ) (name : Text) (further : List Text) → length further ≡ count → list_all is_plain further ≡ true
    → is_some (positionals_of count (name ∷ further)) ≡ true
positionals_of-counted count name further long plain =
    ap is_some (positionals_of-plain count name further (record { long = long; plain = plain }))

-- words that are positionals are plain
pub are_plain-positionals : (count : ℕ) (words : List Text) → is_some (positionals_of count words) ≡ true → are_plain words ≡ true
are_plain-positionals count [] tested = cc
are_plain-positionals count (name ∷ further) tested = (plain_of count name further tested).plain

-- `positionals_of` is None for other words
pub positionals_of-none : (count : ℕ) (words : List Text) → (is_some (positionals_of count words) ≡ true → ⊥) → positionals_of count words ≡ None
positionals_of-none count words never = go (positionals_of count words) never
  where
    go : (o : Option (List Text)) → (is_some o ≡ true → ⊥) → o ≡ None
    go None never = refl
    go (Some further) never = absurd (never refl)

-- words are plain exactly if those after the name are
pub are_plain-tested : {X : Type 0} (text_of : X → Text) (words further : List X) → 1 ≤ length words → further ≡ drop 1 words
    → are_plain (map text_of words) ≡ list_all (λ word. is_plain (text_of word)) further
are_plain-tested text_of [] further some is = absurd (omega arith)
are_plain-tested text_of (name ∷ words) further some is =
    list_all-map is_plain text_of words ∙ ap (list_all (λ word. is_plain (text_of word))) (sym is)
