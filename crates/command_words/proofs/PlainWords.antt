-- How clap parses words that are not options, for a command that has only positionals.
use Rattle.std.proofs.Common.{◌≡◌, ◌∙◌, ℕ, Bool, true, false, List, [], ◌∷◌, None, refl, ap, ap₂, ◌&&◌, is_some}
use Rattle.std.specs.List.{fold, list_all}
use Rattle.std.specs.Str.{bytes_eq}
use Rattle.clap.specs.Lexer.{long_of, short_of}
use Rattle.clap.specs.Simple.{App, Shape, argument_words, built, entered, is_simple, matches_of, names_of}
use Rattle.clap.specs.Takes.{built_takes, default_passes, entered_passes, is_valid, settle_passes, step_passes, takes, walk_passes}
use Rattle.clap.specs.Walk.{Held, Names, Rule, Text, Walk, arg_by_index, finished, idle, nothing_held, to_positional, value, walk, walk_from, walked}
use Rattle.command_words.specs.Positionals.{is_option}

-- a word that is not an option is not `--`
pub not_dashes : (w : Text) → is_option w ≡ false → bytes_eq w (45 ∷ 45 ∷ []) ≡ false
not_dashes [] plain = refl
not_dashes (x ∷ xs) plain = rw plain refl

-- a word that is not an option is not a long option
pub long_of-plain : (w : Text) → is_option w ≡ false → long_of w ≡ None
long_of-plain [] plain = refl
long_of-plain (x ∷ xs) plain = rw plain refl

-- a word that is not an option is not a short option
pub short_of-plain : (w : Text) → is_option w ≡ false → short_of w ≡ None
short_of-plain [] plain = refl
short_of-plain (x ∷ xs) plain = rw plain refl

-- the state of the walk before the positional at a position
abbrev pub at : Held → ℕ → Walk
at h position = record { held = h; waiting = idle; position = position; is_trailing = false; stopped = None }

-- the state of the walk after that positional took a word
abbrev pub given : List Rule → Held → ℕ → Text → Walk
given rules h position w = to_positional rules (arg_by_index rules position) w (at h position) h

-- a word that is not an option goes to the next positional
pub walked-plain : (rules : List Rule) (h : Held) (position : ℕ) (w : Text) → is_option w ≡ false
    → walked rules [] (at h position) w ≡ given rules h position w
unfolding walked
walked-plain rules h position w plain = rw (not_dashes w plain, long_of-plain w plain, short_of-plain w plain) refl

-- a word that is not an option passes if there is a positional for it
walk_passes-plain : (s : Shape) (h : Held) (position : ℕ) (w : Text) (rest : List Text) → is_option w ≡ false
    → walk_passes s [] (at h position) (w ∷ rest) ≡ (step_passes s position h value && walk_passes s [] (given s.rules h position w) rest)
unfolding walk_passes walked
walk_passes-plain s h position w rest plain = rw (not_dashes w plain, long_of-plain w plain, short_of-plain w plain) refl

-- all words pass, and the walk ends in this state
pub record Walks (s : Shape) (from : Walk) (words : List Text) (end : Walk) : Type 0 where
  pub walk : fold (walked s.rules []) from words ≡ end
  pub passes : walk_passes s [] from words ≡ true

-- the walk over no words
pub walks_end : (s : Shape) (w : Walk) → Walks s w [] w
unfolding walk_passes
walks_end s w = record { walk = refl; passes = refl }

-- one more word at the head
pub walks_more : (s : Shape) (h later : Held) (position next : ℕ) (w : Text) (rest : List Text) (end : Walk) → is_option w ≡ false
    → step_passes s position h value ≡ true → given s.rules h position w ≡ at later next
    → Walks s (at later next) rest end → Walks s (at h position) (w ∷ rest) end
walks_more s h later position next w rest end plain is_positional goes walks = record {
  walk = ap (λ (from : Walk). fold (walked s.rules []) from rest) (walked-plain s.rules h position w plain ∙ goes) ∙ walks.walk;
  passes =
      walk_passes-plain s h position w rest plain
      ∙ ap₂ (λ (step : Bool) (from : Walk). step && walk_passes s [] from rest) is_positional goes ∙ walks.passes;
}

-- the tests of a command at the end of a walk
abbrev pub ends_well : App → Walk → Bool → Bool
ends_well a end passes =
    entered_passes a end.stopped && (passes && (settle_passes a.top.rules a.top.args_override_self end.held
    && (list_all default_passes a.top.rules && is_valid a.top (finished a.top.rules end.held) (is_some (entered a end.stopped)))))

-- a built command accepts words that pass, if its tests at the end pass
built_takes-walk : (a : App) (words : List Text) (end : Walk) → names_of a ≡ [] → Walks a.top (walk_from nothing_held) words end
    → ends_well a end true ≡ true → built_takes a nothing_held words ≡ true
built_takes-walk a words end alone walks well =
    let ends : walk a.top.rules (names_of a) nothing_held words ≡ end =
    ap (λ (names : Names). walk a.top.rules names nothing_held words) alone ∙ walks.walk in
    let passes : walk_passes a.top (names_of a) (walk_from nothing_held) words ≡ true =
    ap (λ (names : Names). walk_passes a.top names (walk_from nothing_held) words) alone ∙ walks.passes in
    ap₂ (ends_well a) ends passes ∙ well

-- a simple command accepts words that pass, if its tests at the end pass
pub takes-walk : (a : App) (words : List Text) (end : Walk) → is_simple a ≡ true → names_of (built a) ≡ []
    → Walks (built a).top (walk_from nothing_held) (argument_words a words) end → ends_well (built a) end true ≡ true → takes a words ≡ true
takes-walk a words end simple alone walks well =
    ap₂ (λ (x y : Bool). x && y) simple (built_takes-walk (built a) (argument_words a words) end alone walks well)

-- the words that were found are those that the walk took
pub matches_of-walk : (a : App) (words : List Text) (end : Walk) → names_of (built a) ≡ []
    → Walks (built a).top (walk_from nothing_held) (argument_words a words) end
    → matches_of a words ≡ finished (built a).top.rules end.held
matches_of-walk a words end alone walks =
    let s = (built a).top in
    ap (λ (names : Names). finished s.rules (walk s.rules names nothing_held (argument_words a words)).held) alone
    ∙ ap (λ (w : Walk). finished s.rules w.held) walks.walk
