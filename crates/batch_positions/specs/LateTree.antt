-- A tree of late identities, in which each is found by its bits.
use Rattle.std.specs.Prelude.{◌≡◌, ◌≢◌, ◌<◌, ◌≤◌, ◌+◌, ◌*◌, ◌/◌, ◌%◌, ℕ, zero, suc, eqb, if◌then◌else◌, Some, List, [], ◌∷◌, ◌++◌, length}
use Rattle.fact_kinds.specs.declared.identity.Identity.{Identity}
use Rattle.batch_positions.specs.Links.{at_position}
use Rattle.batch_positions.specs.declared.late_tree.Late.{Late}
use Rattle.batch_positions.specs.declared.late_tree.Node.{Node}

-- the late identities in order of arrival, and how many more there is room for
pub record LateState : Type 0 where
  pub lates : List Late
  pub room : ℕ

-- the bits of an identity as a number: those of its number first, then those of its handheld
abbrev pub path_of : Identity → ℕ
path_of identity = identity.number + identity.handheld * 4_294_967_296

-- the child on the side of a path's first bit
abbrev pub child_of : ℕ → Node → ℕ
child_of path node = if eqb (path % 2) 1 then node.high else node.low

-- n steps along a path lead from one node to another, each to a later node
abbrev pub Leads : List Node → ℕ → ℕ → ℕ → ℕ → Type 0
Leads nodes goal zero path link = link ≡ goal
Leads nodes goal (suc n) path link =
    (node : Node) × (at_position nodes link ≡ Some node) × (link < child_of path node)
    × Leads nodes goal n (path / 2) (child_of path node)

-- a path leads from one node to another
abbrev pub IsReached : List Node → ℕ → ℕ → ℕ → Type 0
IsReached nodes goal path link = (n : ℕ) × Leads nodes goal n path link

-- the bits of each node's identity lead to it from the first node
abbrev pub IsTree : List Node → Type 0
IsTree nodes = (at : ℕ) (node : Node) → at_position nodes at ≡ Some node → IsReached nodes at (path_of node.late.identity) 1

-- the next node of a path after a node
pub record IsNextOnPath (nodes : List Node) (path place child : ℕ) : Type 0 where
  pub node : Node
  pub here : at_position nodes place ≡ Some node
  pub is : child ≡ child_of path node
  pub later : place < child
  pub within : child ≤ length nodes

-- a path ends at this node
abbrev pub EndsHere : List Node → ℕ → ℕ → Type 0
EndsHere nodes path place = (node : Node) → at_position nodes place ≡ Some node → place < child_of path node → ¬ (child_of path node ≤ length nodes)

-- each path from a node to a later one is unchanged
abbrev pub KeepsPaths : List Node → List Node → Type 0
KeepsPaths old new = (path place : ℕ) (node : Node) → at_position old place ≡ Some node → place < child_of path node → child_of path node ≤ length old
    → (after : Node) × (at_position new place ≡ Some after) × (child_of path after ≡ child_of path node)

-- the node with this child on the side of a path's first bit
abbrev pub with_child : ℕ → ℕ → Node → Node
with_child path child node = if eqb (path % 2) 1 then record node { high = child } else record node { low = child }

-- one node has this child on the side of a path's first bit, and nothing else is changed
pub record SetsChild (place path child : ℕ) (old new : List Node) : Type 0 where
  pub same : length new ≡ length old
  pub changed : (node : Node) → at_position old place ≡ Some node → at_position new place ≡ Some (with_child path child node)
  pub others : (other : ℕ) → other ≢ place → at_position new other ≡ at_position old other

-- no identity is changed
pub record SameLates (old new : List Node) : Type 0 where
  pub same : length new ≡ length old
  pub late : (at : ℕ) (node : Node) → at_position old at ≡ Some node → (after : Node) × (at_position new at ≡ Some after) × (after.late ≡ node.late)

-- a path leads to a new place, whatever node is put there, and every other path is unchanged
pub record Hangs (place path : ℕ) (old new : List Node) : Type 0 where
  pub lates : SameLates old new
  pub keeps : KeepsPaths old new
  pub leads : (node : Node) → IsReached (new ++ node ∷ []) place path 1

-- the paths to places other than this one are unchanged
pub record CutsOff (place : ℕ) (old new : List Node) : Type 0 where
  pub lates : SameLates old new
  pub keeps : (path at : ℕ) (node : Node) → at_position old at ≡ Some node → child_of path node ≢ place
      → (after : Node) × (at_position new at ≡ Some after) × (child_of path after ≡ child_of path node)
