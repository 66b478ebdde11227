-- What clap finds in words that are the positionals of a command.
use Rattle.std.proofs.Common.{◌≡◌, ◌∙◌, ℕ, true, false, List, [], ◌∷◌, Option, Some, is_some, refl, ap, ap₂, sym, subst}
use Rattle.clap.specs.Words.{Row, Text, first_of, first_value, matches_of, rows_of, takes}
use Rattle.clap.specs.declared.parser.matches.Found.{Found}
use Rattle.clap.proofs.WalkLemmas.{first_value-rows}
use Rattle.command_words.specs.Parsing.{command_with, ids_of_one, ids_of_two, ids_of_three, ids_of_four, in_front, name_in, values_in}
use Rattle.command_words.specs.Positionals.{is_option, positionals_of}
use Rattle.command_words.proofs.PositionalLemmas.{First, Plain, first_of_plain, none_of_plain, plain_of, positionals_of-plain}
use Rattle.command_words.proofs.TakenWords.{takes-none, takes-one, matches_of-one, takes-two, matches_of-two, takes-three, matches_of-three, takes-four, matches_of-four}

-- the values that rows have for these ids, in the order of the ids, if each has one
abbrev values_of : List Row → List Text → Option (List Text)
values_of rows [] = Some []
values_of rows (id ∷ ids) = in_front (first_of id rows) (values_of rows ids)

-- the values found for ids are those of the rows that were found
values_in-rows : (found : Found) (ids : List Text) → values_in found ids ≡ values_of (rows_of found) ids
values_in-rows found [] = refl
values_in-rows found (id ∷ ids) = ap₂ in_front (first_value-rows found id) (values_in-rows found ids)

-- if the rows have the words after the name as values, those are the values found
values_in-found : (count : ℕ) (name : Text) (further words ids : List Text) (found : Found) (rows : List Row) → Plain count further → further ≡ words
    → rows_of found ≡ rows → values_of rows ids ≡ Some words → values_in found ids ≡ positionals_of count (name ∷ further)
values_in-found count name further words ids found rows plain are has values =
    values_in-rows found ids ∙ ap (λ (rows : List Row). values_of rows ids) has ∙ values ∙ ap (λ (words : List Text). Some words) (sym are)
    ∙ sym (positionals_of-plain count name further plain)

-- words whose first one is known, followed by the others
with_rest : {count : ℕ} {words : List Text} (one : First count words) (rest : List Text) → one.rest ≡ rest → words ≡ one.word ∷ rest
with_rest one rest is = one.is ∙ ap (λ (rest : List Text). one.word ∷ rest) is

-- ---- no positional

pub takes-no_positional : (words : List Text) → is_some (positionals_of 0 words) ≡ true → takes (command_with (name_in words) []) words ≡ true
takes-no_positional [] tested = cc
takes-no_positional (name ∷ further) tested =
    subst (λ (further : List Text). takes (command_with name []) (name ∷ further) ≡ true)
    (sym (none_of_plain further (plain_of 0 name further tested))) (takes-none name)

-- ---- one positional

-- a word that is no option
record One (further : List Text) : Type 0 where
  a : Text
  are : further ≡ a ∷ []
  plain_a : is_option a ≡ false

-- a plain word is such
one_of : (further : List Text) → Plain 1 further → One further
one_of further plain =
    let first = first_of_plain 0 further plain in
    record { a = first.word; are = with_rest first [] (none_of_plain first.rest first.further); plain_a = first.plain }

-- a command with one positional takes such a word
pub takes-one_positional : (words : List Text) → is_some (positionals_of 1 words) ≡ true
    → takes (command_with (name_in words) ids_of_one) words ≡ true
takes-one_positional [] tested = cc
takes-one_positional (name ∷ further) tested =
    let o = one_of further (plain_of 1 name further tested) in
    subst (λ (further : List Text). takes (command_with name ids_of_one) (name ∷ further) ≡ true) (sym o.are) (takes-one name o.a o.plain_a)

-- it finds it
pub values_in-one_positional : (words : List Text) (found : Found) → is_some (positionals_of 1 words) ≡ true
    → rows_of found ≡ matches_of (command_with (name_in words) ids_of_one) words → values_in found ids_of_one ≡ positionals_of 1 words
values_in-one_positional [] found tested rows = cc
values_in-one_positional (name ∷ further) found tested rows =
    let plain = plain_of 1 name further tested in
    let o = one_of further plain in
    let has = ap (λ (further : List Text). matches_of (command_with name ids_of_one) (name ∷ further)) o.are ∙ matches_of-one name o.a o.plain_a in
    values_in-found 1 name further (o.a ∷ []) ids_of_one found _ plain o.are (rows ∙ has) refl

-- ---- two positionals

-- two words that are not options
record Two (further : List Text) : Type 0 where
  a : Text
  b : Text
  are : further ≡ a ∷ b ∷ []
  plain_a : is_option a ≡ false
  plain_b : is_option b ≡ false

-- two plain words are not options
two_of : (further : List Text) → Plain 2 further → Two further
two_of further plain =
    let first = first_of_plain 1 further plain in
    let second = first_of_plain 0 first.rest first.further in
    let from_second = with_rest second [] (none_of_plain second.rest second.further) in
    record {
      a = first.word;
      b = second.word;
      are = with_rest first (second.word ∷ []) from_second;
      plain_a = first.plain;
      plain_b = second.plain;
    }

-- a command with two positionals accepts two such words
pub takes-two_positionals : (words : List Text) → is_some (positionals_of 2 words) ≡ true
    → takes (command_with (name_in words) ids_of_two) words ≡ true
takes-two_positionals [] tested = cc
takes-two_positionals (name ∷ further) tested =
    let o = two_of further (plain_of 2 name further tested) in
    subst (λ (further : List Text). takes (command_with name ids_of_two) (name ∷ further) ≡ true) (sym o.are)
    (takes-two name o.a o.b o.plain_a o.plain_b)

-- clap finds the two words in their order
pub values_in-two_positionals : (words : List Text) (found : Found) → is_some (positionals_of 2 words) ≡ true
    → rows_of found ≡ matches_of (command_with (name_in words) ids_of_two) words → values_in found ids_of_two ≡ positionals_of 2 words
values_in-two_positionals [] found tested rows = cc
values_in-two_positionals (name ∷ further) found tested rows =
    let plain = plain_of 2 name further tested in
    let o = two_of further plain in
    let has = ap (λ (further : List Text). matches_of (command_with name ids_of_two) (name ∷ further)) o.are
    ∙ matches_of-two name o.a o.b o.plain_a o.plain_b in
    values_in-found 2 name further (o.a ∷ o.b ∷ []) ids_of_two found _ plain o.are (rows ∙ has) refl

-- ---- three positionals

-- three words that are not options
record Three (further : List Text) : Type 0 where
  a : Text
  b : Text
  c : Text
  are : further ≡ a ∷ b ∷ c ∷ []
  plain_a : is_option a ≡ false
  plain_b : is_option b ≡ false
  plain_c : is_option c ≡ false

-- three plain words are not options
three_of : (further : List Text) → Plain 3 further → Three further
three_of further plain =
    let first = first_of_plain 2 further plain in
    let second = first_of_plain 1 first.rest first.further in
    let third = first_of_plain 0 second.rest second.further in
    let from_third = with_rest third [] (none_of_plain third.rest third.further) in
    let from_second = with_rest second (third.word ∷ []) from_third in
    record {
      a = first.word;
      b = second.word;
      c = third.word;
      are = with_rest first (second.word ∷ third.word ∷ []) from_second;
      plain_a = first.plain;
      plain_b = second.plain;
      plain_c = third.plain;
    }

-- a command with three positionals accepts three such words
pub takes-three_positionals : (words : List Text) → is_some (positionals_of 3 words) ≡ true
    → takes (command_with (name_in words) ids_of_three) words ≡ true
takes-three_positionals [] tested = cc
takes-three_positionals (name ∷ further) tested =
    let o = three_of further (plain_of 3 name further tested) in
    subst (λ (further : List Text). takes (command_with name ids_of_three) (name ∷ further) ≡ true) (sym o.are)
    (takes-three name o.a o.b o.c o.plain_a o.plain_b o.plain_c)

-- clap finds the three words in their order
pub values_in-three_positionals : (words : List Text) (found : Found) → is_some (positionals_of 3 words) ≡ true
    → rows_of found ≡ matches_of (command_with (name_in words) ids_of_three) words → values_in found ids_of_three ≡ positionals_of 3 words
values_in-three_positionals [] found tested rows = cc
values_in-three_positionals (name ∷ further) found tested rows =
    let plain = plain_of 3 name further tested in
    let o = three_of further plain in
    let has = ap (λ (further : List Text). matches_of (command_with name ids_of_three) (name ∷ further)) o.are
    ∙ matches_of-three name o.a o.b o.c o.plain_a o.plain_b o.plain_c in
    values_in-found 3 name further (o.a ∷ o.b ∷ o.c ∷ []) ids_of_three found _ plain o.are (rows ∙ has) refl

-- ---- four positionals

-- four words that are not options
record Four (further : List Text) : Type 0 where
  a : Text
  b : Text
  c : Text
  d : Text
  are : further ≡ a ∷ b ∷ c ∷ d ∷ []
  plain_a : is_option a ≡ false
  plain_b : is_option b ≡ false
  plain_c : is_option c ≡ false
  plain_d : is_option d ≡ false

-- four plain words are not options
four_of : (further : List Text) → Plain 4 further → Four further
four_of further plain =
    let first = first_of_plain 3 further plain in
    let second = first_of_plain 2 first.rest first.further in
    let third = first_of_plain 1 second.rest second.further in
    let fourth = first_of_plain 0 third.rest third.further in
    let from_fourth = with_rest fourth [] (none_of_plain fourth.rest fourth.further) in
    let from_third = with_rest third (fourth.word ∷ []) from_fourth in
    let from_second = with_rest second (third.word ∷ fourth.word ∷ []) from_third in
    record {
      a = first.word;
      b = second.word;
      c = third.word;
      d = fourth.word;
      are = with_rest first (second.word ∷ third.word ∷ fourth.word ∷ []) from_second;
      plain_a = first.plain;
      plain_b = second.plain;
      plain_c = third.plain;
      plain_d = fourth.plain;
    }

-- a command with four positionals accepts four such words
pub takes-four_positionals : (words : List Text) → is_some (positionals_of 4 words) ≡ true
    → takes (command_with (name_in words) ids_of_four) words ≡ true
takes-four_positionals [] tested = cc
takes-four_positionals (name ∷ further) tested =
    let o = four_of further (plain_of 4 name further tested) in
    subst (λ (further : List Text). takes (command_with name ids_of_four) (name ∷ further) ≡ true) (sym o.are)
    (takes-four name o.a o.b o.c o.d o.plain_a o.plain_b o.plain_c o.plain_d)

-- clap finds the four words in their order
pub values_in-four_positionals : (words : List Text) (found : Found) → is_some (positionals_of 4 words) ≡ true
    → rows_of found ≡ matches_of (command_with (name_in words) ids_of_four) words → values_in found ids_of_four ≡ positionals_of 4 words
values_in-four_positionals [] found tested rows = cc
values_in-four_positionals (name ∷ further) found tested rows =
    let plain = plain_of 4 name further tested in
    let o = four_of further plain in
    let has = ap (λ (further : List Text). matches_of (command_with name ids_of_four) (name ∷ further)) o.are
    ∙ matches_of-four name o.a o.b o.c o.d o.plain_a o.plain_b o.plain_c o.plain_d in
    values_in-found 4 name further (o.a ∷ o.b ∷ o.c ∷ o.d ∷ []) ids_of_four found _ plain o.are (rows ∙ has) refl
