-- The words that ask for a service.
use Rattle.std.specs.Prelude.{◌≡◌, ◌≤◌, ◌<◌, ◌==◌, ℕ, nat_eq, Bool, true, false, Option, Some, None, List, [], ◌∷◌, codes, if◌then◌else◌}
use Rattle.std.specs.Cmp.Lexicographic.{pointwise}
use Rattle.command_words.specs.Positionals.{positionals_of}
use Rattle.handheld_http.specs.Requests.{decimal_in}
use Rattle.office_server.specs.declared.words.Service.{Service}
use Rattle.office_server.specs.declared.words.TheConstants.{LAST_PORT, MOST_WORKERS}

-- a number from 1 up to this one
abbrev pub IsFromOne : ℕ → ℕ → Type 0
IsFromOne greatest number = (0 < number) × (number ≤ greatest)

abbrev pub IsInRange : Service → Type 0
IsInRange service = IsFromOne LAST_PORT service.port × IsFromOne MOST_WORKERS service.workers

-- the decimal of a number from 1 up to this one, without leading zeros
unfoldable pub positive_in : ℕ → List ℕ → Option ℕ
positive_in greatest text = elim (decimal_in greatest text) [
  | None ↦ None
  | Some number ↦ if nat_eq number 0 then None else Some number
]

-- the service on PORT with WORKERS
unfoldable pub service_of : List ℕ → List ℕ → Option Service
service_of port workers = elim (positive_in LAST_PORT port) [
  | None ↦ None
  | Some port ↦ elim (positive_in MOST_WORKERS workers) [ None ↦ None | Some workers ↦ Some (record { port = port; workers = workers }) ]
]

-- a word is just this text
abbrev pub is_word : List ℕ → List ℕ → Bool
is_word word text = pointwise nat_eq word text

-- the service on PORT with WORKERS, if this is its word
abbrev pub serving : List ℕ → List ℕ → List ℕ → Option Service
serving word port workers = if is_word word (codes "serve") then service_of port workers else None

-- the service that a word and its positionals ask for
abbrev pub service_with : List ℕ → Option (List (List ℕ)) → Option Service
service_with word None = None
service_with word (Some []) = None
service_with word (Some (port ∷ [])) = None
service_with word (Some (port ∷ workers ∷ [])) = serving word port workers
service_with word (Some (port ∷ workers ∷ more ∷ further)) = None

-- the service that words ask for: `serve`, a port and a number of workers, neither of which begins with a hyphen
abbrev pub service_in : List (List ℕ) → Option Service
service_in [] = None
service_in (word ∷ further) = service_with word (positionals_of 2 (word ∷ further))

-- the words ask for a service with just this number of workers
abbrev pub asks_for : ℕ → List (List ℕ) → Bool
asks_for count words = elim (service_in words) [ None ↦ false | Some service ↦ service.workers == count ]
