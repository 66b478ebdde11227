-- An index of identities: runs in which the numbers of one handheld rise, and late ones in a tree.
use Rattle.std.specs.Prelude.{◌≡◌, ◌+◌, ◌<◌, ◌≤◌, ℕ, if◌then◌else◌, false, true, Some, ◌-◌, not, List, [], ◌∷◌, length, drop, slice_get, count_by}
use Rattle.fact_kinds.specs.declared.identity.Identity.{Identity}
use Rattle.batch_positions.specs.Links.{at_position}
use Rattle.batch_positions.specs.declared.entry.Entry.{Entry}
use Rattle.batch_positions.specs.declared.late_tree.Late.{Late}

-- the identity of an entry
abbrev pub identity_at : Entry → Identity
identity_at entry = record { handheld = entry.handheld; number = entry.number }

-- the entry of a late identity
abbrev pub late_entry : Identity → Entry
late_entry identity = record { number = identity.number; earlier = 0; far = 0; handheld = identity.handheld; late = true; rank = 0 }

-- the entry is in the run of this handheld
abbrev pub IsInRun : ℕ → Entry → Type 0
IsInRun handheld entry = (entry.late ≡ false) × (entry.handheld ≡ handheld)

-- the link is the last entry of a handheld's run below a position, or 0 for no such entry
pub record IsLastOf (entries : List Entry) (handheld bound link : ℕ) : Type 0 where
  pub within : link < bound
  pub in_run : (entry : Entry) → at_position entries link ≡ Some entry → IsInRun handheld entry
  pub no_later : (at : ℕ) (entry : Entry) → at_position entries at ≡ Some entry → IsInRun handheld entry → at < bound → at ≤ link

-- each entry of a run links to the one before it there, and the numbers of a run rise
pub record AreRuns (entries : List Entry) : Type 0 where
  pub earlier : (at : ℕ) (entry : Entry) → at_position entries at ≡ Some entry → entry.late ≡ false → IsLastOf entries entry.handheld at entry.earlier
  pub rise : (p q : ℕ) (e f : Entry) → at_position entries p ≡ Some e → at_position entries q ≡ Some f
      → IsInRun f.handheld e → f.late ≡ false → p < q → e.number < f.number

-- the late ones among entries that begin at this position
abbrev pub lates_of : ℕ → List Entry → List Late
lates_of position [] = []
lates_of position (entry ∷ entries) =
    if entry.late then record { identity = identity_at entry; position = position } ∷ lates_of (position + 1) entries else lates_of (position + 1) entries

-- no two positions have the same identity
abbrev pub AreApart : List Entry → Type 0
AreApart entries = (p q : ℕ) (e f : Entry) → at_position entries p ≡ Some e → at_position entries q ≡ Some f → identity_at e ≡ identity_at f → p ≡ q

-- the head of each handheld is the last entry of its run
pub record HaveHeads (entries : List Entry) (heads : List ℕ) : Type 0 where
  pub long : length heads ≡ 65_536
  pub last : (handheld link : ℕ) → slice_get heads handheld ≡ Some link → IsLastOf entries handheld (length entries + 1) link

-- the runs, their heads and the late ones are those of the entries
pub record IsIndexed (entries : List Entry) (heads : List ℕ) (lates : List Late) : Type 0 where
  pub runs : AreRuns entries
  pub apart : AreApart entries
  pub ends : HaveHeads entries heads
  pub late : lates ≡ lates_of 1 entries

-- the link is an earlier entry of the same run, whose number is at least this one
pub record SkipsTo (entries : List Entry) (place handheld number link : ℕ) : Type 0 where
  pub back : link < place
  pub entry : Entry
  pub here : at_position entries link ≡ Some entry
  pub in_run : IsInRun handheld entry
  pub not_below : number ≤ entry.number

-- no entry of a run with this identity is after this link
pub record IsSought (entries : List Entry) (identity : Identity) (link : ℕ) : Type 0 where
  pub within : link ≤ length entries
  pub in_run : (entry : Entry) → at_position entries link ≡ Some entry → IsInRun identity.handheld entry
  pub no_later : (at : ℕ) (entry : Entry) → at_position entries at ≡ Some entry → entry.late ≡ false → identity_at entry ≡ identity → at ≤ link

-- the number of run entries among the last n entries
abbrev pub runs_among : ℕ → List Entry → ℕ
runs_among n entries = count_by (λ entry. not entry.late) (drop (length entries - n) entries)

-- there is room for `more` entries, late or not, also after the last `fresh` ones in runs are removed
pub record IsRoomy (entries : List Entry) (more fresh late_room : ℕ) : Type 0 where
  pub within : fresh ≤ length entries
  pub room : more + runs_among fresh entries ≤ late_room
