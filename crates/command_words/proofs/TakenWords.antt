-- What clap finds in words that are not options, for a command with a given number of positionals.
use Rattle.std.proofs.Common.{◌≡◌, true, false, List, [], ◌∷◌, Some, None, codes, refl}
use Rattle.clap.specs.Simple.{built, matches_of}
use Rattle.clap.specs.Takes.{takes}
use Rattle.clap.specs.Values.{reading_of}
use Rattle.clap.specs.Walk.{Held, Row, Text, nothing_held, walk_from}
use Rattle.clap.specs.declared.builder.value_parser.ValueParser.TheVariants as vp
use Rattle.clap.specs.declared.parser.matches.ValueSource.TheVariants.{CommandLine}
use Rattle.command_words.specs.Parsing.{command_with, ids_of_one, ids_of_two, ids_of_three, ids_of_four}
use Rattle.command_words.specs.Positionals.{is_option}
use Rattle.command_words.proofs.PlainWords.{Walks, at, walks_end, walks_more, takes-walk, matches_of-walk}

-- the row of a positional that took a word
abbrev row : Text → Text → Row
row id word = record { id = id; values = word ∷ []; count = None; source = Some CommandLine; reading = reading_of vp.String }

-- the rows of the first positionals
abbrev rows_1 : Text → List Row
rows_1 a = row (codes "first") a ∷ []

abbrev rows_2 : Text → Text → List Row
rows_2 a b = row (codes "first") a ∷ row (codes "second") b ∷ []

abbrev rows_3 : Text → Text → Text → List Row
rows_3 a b c = row (codes "first") a ∷ row (codes "second") b ∷ row (codes "third") c ∷ []

abbrev rows_4 : Text → Text → Text → Text → List Row
rows_4 a b c d = row (codes "first") a ∷ row (codes "second") b ∷ row (codes "third") c ∷ row (codes "fourth") d ∷ []

-- the state after a positional took a word, following these rows
abbrev held : List Row → Text → Text → Held
held rows id word = record { rows = rows; pending = Some (id, word ∷ []); skip = 0 }

abbrev pub held_1 : Text → Held
held_1 a = held [] (codes "first") a

abbrev pub held_2 : Text → Text → Held
held_2 a b = held (rows_1 a) (codes "second") b

abbrev pub held_3 : Text → Text → Text → Held
held_3 a b c = held (rows_2 a b) (codes "third") c

abbrev pub held_4 : Text → Text → Text → Text → Held
held_4 a b c d = held (rows_3 a b c) (codes "fourth") d

-- a command without positionals accepts no words after its name
pub takes-none : (name : Text) → takes (command_with name []) (name ∷ []) ≡ true
takes-none name =
    let a = command_with name [] in
    takes-walk a (name ∷ []) (walk_from nothing_held) refl refl (walks_end (built a).top (walk_from nothing_held)) refl

-- one positional takes one word
walks_one : (name a : Text) → is_option a ≡ false → Walks (built (command_with name ids_of_one)).top (walk_from nothing_held) (a ∷ []) (at (held_1 a) 2)
walks_one name a plain_a =
    let shape = (built (command_with name ids_of_one)).top in
    let end = at (held_1 a) 2 in
    walks_more shape nothing_held (held_1 a) 1 2 a [] end plain_a refl refl (walks_end shape end)

-- the word is taken
pub takes-one : (name a : Text) → is_option a ≡ false → takes (command_with name ids_of_one) (name ∷ a ∷ []) ≡ true
takes-one name a plain_a =
    takes-walk (command_with name ids_of_one) (name ∷ a ∷ []) (at (held_1 a) 2) refl refl (walks_one name a plain_a) refl

-- the word is found
pub matches_of-one : (name a : Text) → is_option a ≡ false → matches_of (command_with name ids_of_one) (name ∷ a ∷ []) ≡ rows_1 a
matches_of-one name a plain_a =
    matches_of-walk (command_with name ids_of_one) (name ∷ a ∷ []) (at (held_1 a) 2) refl (walks_one name a plain_a)

-- two positionals take two words
walks_two : (name a b : Text) → is_option a ≡ false → is_option b ≡ false
    → Walks (built (command_with name ids_of_two)).top (walk_from nothing_held) (a ∷ b ∷ []) (at (held_2 a b) 3)
walks_two name a b plain_a plain_b =
    let shape = (built (command_with name ids_of_two)).top in
    let end = at (held_2 a b) 3 in
    walks_more shape nothing_held (held_1 a) 1 2 a (b ∷ []) end plain_a refl refl
    (walks_more shape (held_1 a) (held_2 a b) 2 3 b [] end plain_b refl refl
    (walks_end shape end))

-- two words are accepted
pub takes-two : (name a b : Text) → is_option a ≡ false → is_option b ≡ false
    → takes (command_with name ids_of_two) (name ∷ a ∷ b ∷ []) ≡ true
takes-two name a b plain_a plain_b =
    takes-walk (command_with name ids_of_two) (name ∷ a ∷ b ∷ []) (at (held_2 a b) 3) refl refl (walks_two name a b plain_a plain_b) refl

-- two words are found, in their order
pub matches_of-two : (name a b : Text) → is_option a ≡ false → is_option b ≡ false
    → matches_of (command_with name ids_of_two) (name ∷ a ∷ b ∷ []) ≡ rows_2 a b
matches_of-two name a b plain_a plain_b =
    matches_of-walk (command_with name ids_of_two) (name ∷ a ∷ b ∷ []) (at (held_2 a b) 3) refl (walks_two name a b plain_a plain_b)

-- three positionals take three words
walks_three : (name a b c : Text) → is_option a ≡ false → is_option b ≡ false → is_option c ≡ false
    → Walks (built (command_with name ids_of_three)).top (walk_from nothing_held) (a ∷ b ∷ c ∷ []) (at (held_3 a b c) 4)
walks_three name a b c plain_a plain_b plain_c =
    let shape = (built (command_with name ids_of_three)).top in
    let end = at (held_3 a b c) 4 in
    walks_more shape nothing_held (held_1 a) 1 2 a (b ∷ c ∷ []) end plain_a refl refl
    (walks_more shape (held_1 a) (held_2 a b) 2 3 b (c ∷ []) end plain_b refl refl
    (walks_more shape (held_2 a b) (held_3 a b c) 3 4 c [] end plain_c refl refl
    (walks_end shape end)))

-- three words are accepted
pub takes-three : (name a b c : Text) → is_option a ≡ false → is_option b ≡ false → is_option c ≡ false
    → takes (command_with name ids_of_three) (name ∷ a ∷ b ∷ c ∷ []) ≡ true
takes-three name a b c plain_a plain_b plain_c =
    takes-walk (command_with name ids_of_three) (name ∷ a ∷ b ∷ c ∷ []) (at (held_3 a b c) 4) refl refl
    (walks_three name a b c plain_a plain_b plain_c) refl

-- three words are found, in their order
pub matches_of-three : (name a b c : Text) → is_option a ≡ false → is_option b ≡ false → is_option c ≡ false
    → matches_of (command_with name ids_of_three) (name ∷ a ∷ b ∷ c ∷ []) ≡ rows_3 a b c
matches_of-three name a b c plain_a plain_b plain_c =
    matches_of-walk (command_with name ids_of_three) (name ∷ a ∷ b ∷ c ∷ []) (at (held_3 a b c) 4) refl
    (walks_three name a b c plain_a plain_b plain_c)

-- four positionals take four words
walks_four : (name a b c d : Text) → is_option a ≡ false → is_option b ≡ false → is_option c ≡ false → is_option d ≡ false
    → Walks (built (command_with name ids_of_four)).top (walk_from nothing_held) (a ∷ b ∷ c ∷ d ∷ []) (at (held_4 a b c d) 5)
walks_four name a b c d plain_a plain_b plain_c plain_d =
    let shape = (built (command_with name ids_of_four)).top in
    let end = at (held_4 a b c d) 5 in
    walks_more shape nothing_held (held_1 a) 1 2 a (b ∷ c ∷ d ∷ []) end plain_a refl refl
    (walks_more shape (held_1 a) (held_2 a b) 2 3 b (c ∷ d ∷ []) end plain_b refl refl
    (walks_more shape (held_2 a b) (held_3 a b c) 3 4 c (d ∷ []) end plain_c refl refl
    (walks_more shape (held_3 a b c) (held_4 a b c d) 4 5 d [] end plain_d refl refl
    (walks_end shape end))))

-- four words are accepted
pub takes-four : (name a b c d : Text) → is_option a ≡ false → is_option b ≡ false → is_option c ≡ false → is_option d ≡ false
    → takes (command_with name ids_of_four) (name ∷ a ∷ b ∷ c ∷ d ∷ []) ≡ true
takes-four name a b c d plain_a plain_b plain_c plain_d =
    takes-walk (command_with name ids_of_four) (name ∷ a ∷ b ∷ c ∷ d ∷ []) (at (held_4 a b c d) 5) refl refl
    (walks_four name a b c d plain_a plain_b plain_c plain_d) refl

-- four words are found, in their order
pub matches_of-four : (name a b c d : Text) → is_option a ≡ false → is_option b ≡ false → is_option c ≡ false → is_option d ≡ false
    → matches_of (command_with name ids_of_four) (name ∷ a ∷ b ∷ c ∷ d ∷ []) ≡ rows_4 a b c d
matches_of-four name a b c d plain_a plain_b plain_c plain_d =
    matches_of-walk (command_with name ids_of_four) (name ∷ a ∷ b ∷ c ∷ d ∷ []) (at (held_4 a b c d) 5) refl
    (walks_four name a b c d plain_a plain_b plain_c plain_d)
