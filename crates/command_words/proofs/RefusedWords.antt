-- clap refuses plain words if they are fewer or more than the positionals of a command.
use Rattle.std.proofs.Common.{◌≡◌, ◌∙◌, ℕ, true, false, List, [], ◌∷◌, length, Option, Some, None, is_some, refl, sym, ap, ap₂}
use Rattle.std.specs.List.{fold, list_all}
use Rattle.clap.specs.Faults.{defaults_fault, check_fault, entered_fault, fault_of, settle_fault, step_fault, walk_fault}
use Rattle.clap.specs.Kinds.{Kinds, or_else}
use Rattle.clap.specs.Simple.{App, Shape, argument_words, built, entered, names_of}
use Rattle.clap.specs.Walk.{Held, Names, Text, Walk, finished, nothing_held, settled, value, walk, walk_from, walked}
use Rattle.clap.specs.declared.parser.matches.ArgMatches.{ArgMatches}
use Rattle.clap.specs.declared.error.kind.ErrorKind.TheVariants as kind
use Rattle.command_words.specs.Parsing.{Finds, command_with, ids_of_one, ids_of_two, ids_of_three, ids_of_four, name_in}
use Rattle.command_words.specs.Positionals.{are_plain, is_option, is_plain, positionals_of}
use Rattle.command_words.proofs.PlainWords.{at, given, not_dashes, long_of-plain, short_of-plain, walked-plain}
use Rattle.command_words.proofs.CountedWords.{takes-no_positional}
use Rattle.command_words.proofs.PositionalLemmas.{are_plain-positionals, plain_first, positionals_of-counted, positionals_of-none}
use Rattle.command_words.proofs.TakenWords.{held_1, held_2, held_3, held_4}

abbrev missing : Kinds
missing = kind.MissingRequiredArgument ∷ []

abbrev stray : Kinds
stray = kind.UnknownArgument ∷ []

-- the error at a plain word is that of its positional, or else that of the words after it
walk_fault-plain : (s : Shape) (h : Held) (position : ℕ) (w : Text) (rest : List Text) → is_option w ≡ false
    → walk_fault s [] (at h position) (w ∷ rest) ≡ or_else (step_fault s position h value) (walk_fault s [] (given s.rules h position w) rest)
unfolding walk_fault walked
walk_fault-plain s h position w rest plain = rw (not_dashes w plain, long_of-plain w plain, short_of-plain w plain) refl

-- the words cause no error, and the walk ends in this state
record Goes (s : Shape) (from : Walk) (words : List Text) (end : Walk) : Type 0 where
  walk : fold (walked s.rules []) from words ≡ end
  fault : walk_fault s [] from words ≡ []

goes_end : (s : Shape) (w : Walk) → Goes s w [] w
unfolding walk_fault
goes_end s w = record { walk = refl; fault = refl }

goes_more : (s : Shape) (h later : Held) (position next : ℕ) (w : Text) (rest : List Text) (end : Walk) → is_option w ≡ false
    → step_fault s position h value ≡ [] → given s.rules h position w ≡ at later next
    → Goes s (at later next) rest end → Goes s (at h position) (w ∷ rest) end
goes_more s h later position next w rest end plain fits goes more = record {
  walk = ap (λ (from : Walk). fold (walked s.rules []) from rest) (walked-plain s.rules h position w plain ∙ goes) ∙ more.walk;
  fault =
      walk_fault-plain s h position w rest plain
      ∙ ap₂ (λ (kinds : Kinds) (from : Walk). or_else kinds (walk_fault s [] from rest)) fits goes ∙ more.fault;
}

-- a word for which there is no positional
strays_here : (s : Shape) (h : Held) (position : ℕ) (w : Text) (rest : List Text) → is_option w ≡ false
    → step_fault s position h value ≡ stray → walk_fault s [] (at h position) (w ∷ rest) ≡ stray
strays_here s h position w rest plain strays =
    walk_fault-plain s h position w rest plain
    ∙ ap (λ (kinds : Kinds). or_else kinds (walk_fault s [] (given s.rules h position w) rest)) strays

-- such a word after one that is accepted
strays_later : (s : Shape) (h later : Held) (position next : ℕ) (w : Text) (rest : List Text) → is_option w ≡ false
    → step_fault s position h value ≡ [] → given s.rules h position w ≡ at later next
    → walk_fault s [] (at later next) rest ≡ stray → walk_fault s [] (at h position) (w ∷ rest) ≡ stray
strays_later s h later position next w rest plain fits goes strays =
    walk_fault-plain s h position w rest plain
    ∙ ap₂ (λ (kinds : Kinds) (from : Walk). or_else kinds (walk_fault s [] from rest)) fits goes ∙ strays

-- the error of a built command at the end of a walk, if the words have this error
abbrev ends_by : App → Kinds → Walk → Kinds
ends_by a kinds end = or_else kinds (or_else (entered_fault a end.stopped)
    (or_else (settle_fault a.top.rules a.top.args_override_self end.held)
    (or_else (defaults_fault (settled a.top.rules end.held).rows a.top.rules)
    (check_fault a.top (finished a.top.rules end.held) (is_some (entered a end.stopped))))))

fault_of-goes : (a : App) (words : List Text) (end : Walk) → names_of (built a) ≡ []
    → Goes (built a).top (walk_from nothing_held) (argument_words a words) end → fault_of a words ≡ ends_by (built a) [] end
fault_of-goes a words end alone goes =
    let s = (built a).top in
    let fault : walk_fault s (names_of (built a)) (walk_from nothing_held) (argument_words a words) ≡ [] =
    ap (λ (names : Names). walk_fault s names (walk_from nothing_held) (argument_words a words)) alone ∙ goes.fault in
    let ends : walk s.rules (names_of (built a)) nothing_held (argument_words a words) ≡ end =
    ap (λ (names : Names). walk s.rules names nothing_held (argument_words a words)) alone ∙ goes.walk in
    ap₂ (ends_by (built a)) fault ends

fault_of-strays : (a : App) (words : List Text) → names_of (built a) ≡ []
    → walk_fault (built a).top [] (walk_from nothing_held) (argument_words a words) ≡ stray → fault_of a words ≡ stray
fault_of-strays a words alone strays =
    let s = (built a).top in
    ap (λ (kinds : Kinds). ends_by (built a) kinds (walk s.rules (names_of (built a)) nothing_held (argument_words a words)))
    (ap (λ (names : Names). walk_fault s names (walk_from nothing_held) (argument_words a words)) alone ∙ strays)

-- ---- words without an error are as many as the positionals

pub counted_none : (name : Text) (further : List Text) → list_all is_plain further ≡ true
    → fault_of (command_with name []) (name ∷ further) ≡ [] → length further ≡ 0
unfolding defaults_fault
counted_none name [] plain faultless = refl
counted_none name (a ∷ rest) plain faultless =
    let app = command_with name [] in
    let strays = fault_of-strays app (name ∷ a ∷ rest) refl (strays_here (built app).top nothing_held 1 a rest (plain_first a rest plain).plain refl) in
    let bad : stray ≡ [] = sym strays ∙ faultless in
    cc

pub counted_one : (name : Text) (further : List Text) → list_all is_plain further ≡ true
    → fault_of (command_with name ids_of_one) (name ∷ further) ≡ [] → length further ≡ 1
unfolding defaults_fault
counted_one name [] plain faultless =
    let app = command_with name ids_of_one in
    let lacks : fault_of app (name ∷ []) ≡ missing = fault_of-goes app (name ∷ []) (walk_from nothing_held) refl (goes_end (built app).top _) in
    let bad : missing ≡ [] = sym lacks ∙ faultless in
    cc
counted_one name (a ∷ []) plain faultless = refl
counted_one name (a ∷ b ∷ rest) plain faultless =
    let app = command_with name ids_of_one in
    let s = (built app).top in
    let one = plain_first a (b ∷ rest) plain in
    let two = plain_first b rest one.further in
    let strays = fault_of-strays app (name ∷ a ∷ b ∷ rest) refl
    (strays_later s nothing_held (held_1 a) 1 2 a (b ∷ rest) one.plain refl refl (strays_here s (held_1 a) 2 b rest two.plain refl)) in
    let bad : stray ≡ [] = sym strays ∙ faultless in
    cc

pub counted_two : (name : Text) (further : List Text) → list_all is_plain further ≡ true
    → fault_of (command_with name ids_of_two) (name ∷ further) ≡ [] → length further ≡ 2
unfolding defaults_fault
counted_two name [] plain faultless =
    let app = command_with name ids_of_two in
    let lacks : fault_of app (name ∷ []) ≡ missing = fault_of-goes app (name ∷ []) (walk_from nothing_held) refl (goes_end (built app).top _) in
    let bad : missing ≡ [] = sym lacks ∙ faultless in
    cc
counted_two name (a ∷ []) plain faultless =
    let app = command_with name ids_of_two in
    let one = plain_first a [] plain in
    let lacks : fault_of app (name ∷ a ∷ []) ≡ missing =
    fault_of-goes app (name ∷ a ∷ []) (at (held_1 a) 2) refl
    (goes_more (built app).top nothing_held (held_1 a) 1 2 a [] (at (held_1 a) 2) one.plain refl refl (goes_end (built app).top _)) in
    let bad : missing ≡ [] = sym lacks ∙ faultless in
    cc
counted_two name (a ∷ b ∷ []) plain faultless = refl
counted_two name (a ∷ b ∷ c ∷ rest) plain faultless =
    let app = command_with name ids_of_two in
    let s = (built app).top in
    let one = plain_first a (b ∷ c ∷ rest) plain in
    let two = plain_first b (c ∷ rest) one.further in
    let three = plain_first c rest two.further in
    let strays = fault_of-strays app (name ∷ a ∷ b ∷ c ∷ rest) refl
    (strays_later s nothing_held (held_1 a) 1 2 a (b ∷ c ∷ rest) one.plain refl refl
    (strays_later s (held_1 a) (held_2 a b) 2 3 b (c ∷ rest) two.plain refl refl
    (strays_here s (held_2 a b) 3 c rest three.plain refl))) in
    let bad : stray ≡ [] = sym strays ∙ faultless in
    cc

pub counted_three : (name : Text) (further : List Text) → list_all is_plain further ≡ true
    → fault_of (command_with name ids_of_three) (name ∷ further) ≡ [] → length further ≡ 3
unfolding defaults_fault
counted_three name [] plain faultless =
    let app = command_with name ids_of_three in
    let lacks : fault_of app (name ∷ []) ≡ missing = fault_of-goes app (name ∷ []) (walk_from nothing_held) refl (goes_end (built app).top _) in
    let bad : missing ≡ [] = sym lacks ∙ faultless in
    cc
counted_three name (a ∷ []) plain faultless =
    let app = command_with name ids_of_three in
    let one = plain_first a [] plain in
    let lacks : fault_of app (name ∷ a ∷ []) ≡ missing =
    fault_of-goes app (name ∷ a ∷ []) (at (held_1 a) 2) refl
    (goes_more (built app).top nothing_held (held_1 a) 1 2 a [] (at (held_1 a) 2) one.plain refl refl (goes_end (built app).top _)) in
    let bad : missing ≡ [] = sym lacks ∙ faultless in
    cc
counted_three name (a ∷ b ∷ []) plain faultless =
    let app = command_with name ids_of_three in
    let s = (built app).top in
    let end = at (held_2 a b) 3 in
    let one = plain_first a (b ∷ []) plain in
    let two = plain_first b [] one.further in
    let lacks : fault_of app (name ∷ a ∷ b ∷ []) ≡ missing =
    fault_of-goes app (name ∷ a ∷ b ∷ []) end refl
    (goes_more s nothing_held (held_1 a) 1 2 a (b ∷ []) end one.plain refl refl
    (goes_more s (held_1 a) (held_2 a b) 2 3 b [] end two.plain refl refl (goes_end s end))) in
    let bad : missing ≡ [] = sym lacks ∙ faultless in
    cc
counted_three name (a ∷ b ∷ c ∷ []) plain faultless = refl
counted_three name (a ∷ b ∷ c ∷ d ∷ rest) plain faultless =
    let app = command_with name ids_of_three in
    let s = (built app).top in
    let one = plain_first a (b ∷ c ∷ d ∷ rest) plain in
    let two = plain_first b (c ∷ d ∷ rest) one.further in
    let three = plain_first c (d ∷ rest) two.further in
    let four = plain_first d rest three.further in
    let strays = fault_of-strays app (name ∷ a ∷ b ∷ c ∷ d ∷ rest) refl
    (strays_later s nothing_held (held_1 a) 1 2 a (b ∷ c ∷ d ∷ rest) one.plain refl refl
    (strays_later s (held_1 a) (held_2 a b) 2 3 b (c ∷ d ∷ rest) two.plain refl refl
    (strays_later s (held_2 a b) (held_3 a b c) 3 4 c (d ∷ rest) three.plain refl refl
    (strays_here s (held_3 a b c) 4 d rest four.plain refl)))) in
    let bad : stray ≡ [] = sym strays ∙ faultless in
    cc

pub counted_four : (name : Text) (further : List Text) → list_all is_plain further ≡ true
    → fault_of (command_with name ids_of_four) (name ∷ further) ≡ [] → length further ≡ 4
unfolding defaults_fault
counted_four name [] plain faultless =
    let app = command_with name ids_of_four in
    let lacks : fault_of app (name ∷ []) ≡ missing = fault_of-goes app (name ∷ []) (walk_from nothing_held) refl (goes_end (built app).top _) in
    let bad : missing ≡ [] = sym lacks ∙ faultless in
    cc
counted_four name (a ∷ []) plain faultless =
    let app = command_with name ids_of_four in
    let one = plain_first a [] plain in
    let lacks : fault_of app (name ∷ a ∷ []) ≡ missing =
    fault_of-goes app (name ∷ a ∷ []) (at (held_1 a) 2) refl
    (goes_more (built app).top nothing_held (held_1 a) 1 2 a [] (at (held_1 a) 2) one.plain refl refl (goes_end (built app).top _)) in
    let bad : missing ≡ [] = sym lacks ∙ faultless in
    cc
counted_four name (a ∷ b ∷ []) plain faultless =
    let app = command_with name ids_of_four in
    let s = (built app).top in
    let end = at (held_2 a b) 3 in
    let one = plain_first a (b ∷ []) plain in
    let two = plain_first b [] one.further in
    let lacks : fault_of app (name ∷ a ∷ b ∷ []) ≡ missing =
    fault_of-goes app (name ∷ a ∷ b ∷ []) end refl
    (goes_more s nothing_held (held_1 a) 1 2 a (b ∷ []) end one.plain refl refl
    (goes_more s (held_1 a) (held_2 a b) 2 3 b [] end two.plain refl refl (goes_end s end))) in
    let bad : missing ≡ [] = sym lacks ∙ faultless in
    cc
counted_four name (a ∷ b ∷ c ∷ []) plain faultless =
    let app = command_with name ids_of_four in
    let s = (built app).top in
    let end = at (held_3 a b c) 4 in
    let one = plain_first a (b ∷ c ∷ []) plain in
    let two = plain_first b (c ∷ []) one.further in
    let three = plain_first c [] two.further in
    let lacks : fault_of app (name ∷ a ∷ b ∷ c ∷ []) ≡ missing =
    fault_of-goes app (name ∷ a ∷ b ∷ c ∷ []) end refl
    (goes_more s nothing_held (held_1 a) 1 2 a (b ∷ c ∷ []) end one.plain refl refl
    (goes_more s (held_1 a) (held_2 a b) 2 3 b (c ∷ []) end two.plain refl refl
    (goes_more s (held_2 a b) (held_3 a b c) 3 4 c [] end three.plain refl refl (goes_end s end)))) in
    let bad : missing ≡ [] = sym lacks ∙ faultless in
    cc
counted_four name (a ∷ b ∷ c ∷ d ∷ []) plain faultless = refl
counted_four name (a ∷ b ∷ c ∷ d ∷ e ∷ rest) plain faultless =
    let app = command_with name ids_of_four in
    let s = (built app).top in
    let one = plain_first a (b ∷ c ∷ d ∷ e ∷ rest) plain in
    let two = plain_first b (c ∷ d ∷ e ∷ rest) one.further in
    let three = plain_first c (d ∷ e ∷ rest) two.further in
    let four = plain_first d (e ∷ rest) three.further in
    let five = plain_first e rest four.further in
    let strays = fault_of-strays app (name ∷ a ∷ b ∷ c ∷ d ∷ e ∷ rest) refl
    (strays_later s nothing_held (held_1 a) 1 2 a (b ∷ c ∷ d ∷ e ∷ rest) one.plain refl refl
    (strays_later s (held_1 a) (held_2 a b) 2 3 b (c ∷ d ∷ e ∷ rest) two.plain refl refl
    (strays_later s (held_2 a b) (held_3 a b c) 3 4 c (d ∷ e ∷ rest) three.plain refl refl
    (strays_later s (held_3 a b c) (held_4 a b c d) 4 5 d (e ∷ rest) four.plain refl refl
    (strays_here s (held_4 a b c d) 5 e rest five.plain refl))))) in
    let bad : stray ≡ [] = sym strays ∙ faultless in
    cc

-- ---- words that clap accepts are the positionals

-- for a command whose number of words is known
module _ (count : ℕ) (ids : List Text) (counted : (name : Text) (further : List Text) → list_all is_plain further ≡ true
    → fault_of (command_with name ids) (name ∷ further) ≡ [] → length further ≡ count) where
  pub positionals_of-faultless : (words : List Text) → are_plain words ≡ true → fault_of (command_with (name_in words) ids) words ≡ []
      → is_some (positionals_of count words) ≡ true
  positionals_of-faultless [] plain faultless = cc
  positionals_of-faultless (name ∷ further) plain faultless =
      positionals_of-counted count name further (counted name further plain faultless) plain

-- for a command without positionals
pub is_some-finds : (words : List Text) (found : Option ArgMatches) → Finds (command_with (name_in words) []) words found
    → is_some found ≡ is_some (positionals_of 0 words)
is_some-finds words None refused =
    sym (ap is_some (positionals_of-none 0 words
    (λ tested. refused (are_plain-positionals 0 words tested) (takes-no_positional words tested))))
is_some-finds words (Some matches) taken = sym (positionals_of-faultless 0 [] counted_none words taken.0 (taken.1.faultless refl))
