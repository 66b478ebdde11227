-- Paths through a tree of late identities.
use Rattle.std.proofs.Common.{◌≡◌, ◌≢◌, ◌<◌, ◌≤◌, ◌+◌, ◌-◌, ◌/◌, ◌%◌, ◌⊎◌, inl, inr, ℕ, zero, suc, eqb, List, [], ◌∷◌, ◌++◌, length, map, take, drop}
use Rattle.std.proofs.Common.{slice_get, ◌&&◌, Option, Some, None, Bool, true, false, cond, refl, sym, ◌∙◌, ap, arith, length-append}
use Rattle.std.proofs.lemmas.Option.{slice_get_within, slice_get-map, same_Some}
use Rattle.std.proofs.lemmas.Bool.{cases_eq, false≢true}
use Rattle.std.proofs.lemmas.Bool.Decides.{nat_tests}
use Rattle.std.proofs.lemmas.List.{append-nil, take_all, drop_all}
use Rattle.batch_positions.specs.Links.{at_position}
use Rattle.std.specs.Option.{option_map}
use Rattle.fact_kinds.specs.declared.identity.Identity.{Identity}
use Rattle.batch_positions.specs.declared.late_tree.Late.{Late}
use Rattle.batch_positions.specs.declared.late_tree.Node.{Node}
use Rattle.batch_positions.specs.LateTree.{child_of, path_of, Leads, IsReached, IsTree, IsNextOnPath, EndsHere, KeepsPaths, with_child, SetsChild, SameLates, Hangs}
use Rattle.batch_positions.specs.LateTree.{CutsOff}

-- a position of an element is in range
pub at_position-within : {X : Type 0} (xs : List X) (p : ℕ) (x : X) → at_position xs p ≡ Some x → (0 < p) × (p ≤ length xs)
at_position-within xs zero x is = absurd cc
at_position-within xs (suc i) x is = let within = slice_get_within xs i x is in (omega arith, omega arith)

-- there is an element at each index within the list
slice_get-some : {X : Type 0} (xs : List X) (i : ℕ) → i < length xs → (x : X) × (slice_get xs i ≡ Some x)
slice_get-some [] i inside = absurd (omega arith)
slice_get-some (x ∷ xs) zero inside = (x, refl)
slice_get-some (x ∷ xs) (suc i) inside = slice_get-some xs i (omega arith)

-- there is an element at each position in range
pub at_position-some : {X : Type 0} (xs : List X) (p : ℕ) → 0 < p → p ≤ length xs → (x : X) × (at_position xs p ≡ Some x)
at_position-some xs zero some inside = absurd (omega arith)
at_position-some xs (suc i) some inside = slice_get-some xs i (omega arith)

-- an appended element leaves the others at their positions
pub at_position-push : {X : Type 0} (xs : List X) (y : X) (p : ℕ) (x : X) → at_position xs p ≡ Some x → at_position (xs ++ y ∷ []) p ≡ Some x
at_position-push xs y zero x is = is
at_position-push [] y (suc i) x is = absurd cc
at_position-push (a ∷ xs) y (suc zero) x is = is
at_position-push (a ∷ xs) y (suc (suc i)) x is = at_position-push xs y (suc i) x is

-- an appended element is at the last position
pub at_position-last : {X : Type 0} (xs : List X) (y : X) → at_position (xs ++ y ∷ []) (suc (length xs)) ≡ Some y
at_position-last [] y = refl
at_position-last (x ∷ xs) y = at_position-last xs y

-- the element at a position after one was appended: an old one or the new one
pub at_position-parts : {X : Type 0} (xs : List X) (y : X) (p : ℕ) (x : X) → at_position (xs ++ y ∷ []) p ≡ Some x
    → (at_position xs p ≡ Some x) ⊎ ((p ≡ suc (length xs)) × (x ≡ y))
at_position-parts xs y zero x is = absurd cc
at_position-parts [] y (suc zero) x is = inr (refl, cc)
at_position-parts [] y (suc (suc i)) x is = absurd cc
at_position-parts (a ∷ xs) y (suc zero) x is = inl is
at_position-parts (a ∷ xs) y (suc (suc i)) x is = elim (at_position-parts xs y (suc i) x is) [
  | inl before ↦ inl before
  | inr last ↦ let place = last.0 in inr (omega arith, last.1)
]

-- a path leads only to later nodes
pub Leads-later : (nodes : List Node) (goal n path link : ℕ) → Leads nodes goal n path link → link ≤ goal
Leads-later nodes goal zero path link leads = omega arith
Leads-later nodes goal (suc n) path link leads =
    let more = Leads-later nodes goal n (path / 2) (child_of path leads.0) leads.3 in
    let step = leads.2 in
    omega arith

-- a path is unchanged if each of its steps is
pub Leads-keeps : (old new : List Node) → KeepsPaths old new → (goal n path link : ℕ) → goal ≤ length old → Leads old goal n path link
    → Leads new goal n path link
Leads-keeps old new keeps goal zero path link within leads = leads
Leads-keeps old new keeps goal (suc n) path link within leads =
    let step = leads.2 in
    let later = Leads-later old goal n (path / 2) (child_of path leads.0) leads.3 in
    let after = keeps path link leads.0 leads.1 leads.2 (omega arith) in
    let rest = Leads-keeps old new keeps goal n (path / 2) (child_of path leads.0) within leads.3 in
    (after.0, after.1, rw after.2 leads.2, rw after.2 rest)

-- no path leads on from a node at which it ends
pub no_way : (nodes : List Node) (goal n path link : ℕ) → EndsHere nodes path link → goal ≤ length nodes → ¬ (Leads nodes goal (suc n) path link)
no_way nodes goal n path link ends within leads =
    let later = Leads-later nodes goal n (path / 2) (child_of path leads.0) leads.3 in
    ends leads.0 leads.1 leads.2 (omega arith)

-- the path of a search, one step further
pub way_on : (nodes : List Node) (goal path link child : ℕ) → IsNextOnPath nodes path link child → goal ≢ link → IsReached nodes goal path link
    → IsReached nodes goal (path / 2) child
way_on nodes goal path link child on other (zero, leads) = absurd (other (sym leads))
way_on nodes goal path link child on other (suc n, leads) =
    let same : leads.0 ≡ on.node = same_Some leads.0 on.node (sym leads.1 ∙ on.here) in
    let child_is : child_of path leads.0 ≡ child = ap (child_of path) same ∙ sym on.is in
    (n, rw (← child_is) leads.3)

-- the path before that step
pub way_back : (old new : List Node) (goal path link child : ℕ) → KeepsPaths old new → IsNextOnPath old path link child → IsReached new goal (path / 2) child
    → IsReached new goal path link
way_back old new goal path link child keeps on reached =
    let later = on.later in
    let within = on.within in
    let child_is = on.is in
    let after = keeps path link on.node on.here (omega arith) (omega arith) in
    let same : child_of path after.0 ≡ child = after.2 ∙ sym on.is in
    (suc reached.0, (after.0, after.1, rw same on.later, rw same reached.1))

-- the child on one side of a node
abbrev on_side : Bool → Node → ℕ
on_side side node = cond side node.high node.low

-- the node with another child on one side
abbrev put_on_side : Bool → ℕ → Node → Node
put_on_side side child node = cond side (record node { high = child }) (record node { low = child })

-- the child that was put on one side
on_side-put : (side : Bool) (child : ℕ) (node : Node) → on_side side (put_on_side side child node) ≡ child
on_side-put true child node = refl
on_side-put false child node = refl

-- the other side is unchanged
on_side-other : (one side : Bool) (child : ℕ) (node : Node) → (on_side one (put_on_side side child node) ≡ on_side one node)
    ⊎ (on_side one node ≡ on_side side node)
on_side-other true true child node = inr refl
on_side-other true false child node = inl refl
on_side-other false true child node = inl refl
on_side-other false false child node = inr refl

-- the node's identity is unchanged
late-put : (side : Bool) (child : ℕ) (node : Node) → (put_on_side side child node).late ≡ node.late
late-put true child node = refl
late-put false child node = refl

-- the child that was put on the side of a path's first bit
pub child_of-with : (path child : ℕ) (node : Node) → child_of path (with_child path child node) ≡ child
child_of-with path child node = on_side-put (eqb (path % 2) 1) child node

-- writing a child changes no identity
pub SetsChild-lates : (place path child : ℕ) (old new : List Node) → SetsChild place path child old new → SameLates old new
SetsChild-lates place path child old new sets = record { same = sets.same; late = λ at node here. late_of at node here (cases_eq at place) }
  where
    late_of : (at : ℕ) (node : Node) → at_position old at ≡ Some node → (at ≡ place) ⊎ (at ≡ place → ⊥)
        → (after : Node) × (at_position new at ≡ Some after) × (after.late ≡ node.late)
    late_of at node here (inl same) = (
      with_child path child node,
      ap (at_position new) same
          ∙ sets.changed node (ap (at_position old) (sym same) ∙ here),
      late-put (eqb (path % 2) 1) child node,
    )
    late_of at node here (inr other) = (node, sets.others at other ∙ here, refl)

-- writing a child changes no other child
pub SetsChild-child : (place path child : ℕ) (old new : List Node) → SetsChild place path child old new → (other at : ℕ) (node : Node)
    → at_position old at ≡ Some node
    → ((after : Node) × (at_position new at ≡ Some after) × (child_of other after ≡ child_of other node))
    ⊎ ((at ≡ place) × (child_of other node ≡ child_of path node))
SetsChild-child place path child old new sets other at node here = by (cases_eq at place)
  where
    here_by : (at ≡ place) → (child_of other (with_child path child node) ≡ child_of other node) ⊎ (child_of other node ≡ child_of path node)
        → ((after : Node) × (at_position new at ≡ Some after) × (child_of other after ≡ child_of other node))
        ⊎ ((at ≡ place) × (child_of other node ≡ child_of path node))
    here_by same (inl stays) = inl (with_child path child node, ap (at_position new) same ∙ sets.changed node (ap (at_position old) (sym same) ∙ here), stays)
    here_by same (inr over) = inr (same, over)

    by : (at ≡ place) ⊎ (at ≡ place → ⊥)
        → ((after : Node) × (at_position new at ≡ Some after) × (child_of other after ≡ child_of other node))
        ⊎ ((at ≡ place) × (child_of other node ≡ child_of path node))
    by (inl same) = here_by same (on_side-other (eqb (other % 2) 1) (eqb (path % 2) 1) child node)
    by (inr differs) = inl (node, sets.others at differs ∙ here, refl)

-- paths that are unchanged stay so after a node is appended
pub KeepsPaths-push : (old new : List Node) (node : Node) → KeepsPaths old new → KeepsPaths old (new ++ node ∷ [])
KeepsPaths-push old new node keeps = λ path place n here later within.
    let after = keeps path place n here later within in
    (after.0, at_position-push new node place after.0 after.1, after.2)

-- a child written where a path ends extends it to the place after the nodes
pub hangs : (path rest end place : ℕ) (old new : List Node) → place ≡ length old + 1 → 0 < end → end ≤ length old → EndsHere old rest end
    → ((longer : List Node) (goal : ℕ) → KeepsPaths old longer → IsReached longer goal rest end → IsReached longer goal path 1)
    → SetsChild end rest place old new → Hangs place path old new
hangs path rest end place old new next some within ends goes_on sets = record {
  lates = SetsChild-lates end rest place old new sets;
  keeps = keeps;
  leads = λ node. goes_on (new ++ node ∷ []) place (KeepsPaths-push old new node keeps) (one_step node (at_position-some old end some within));
}
  where
    keeps_by : (other at : ℕ) (node : Node) → at_position old at ≡ Some node → at < child_of other node → child_of other node ≤ length old
        → ((after : Node) × (at_position new at ≡ Some after) × (child_of other after ≡ child_of other node))
        ⊎ ((at ≡ end) × (child_of other node ≡ child_of rest node))
        → (after : Node) × (at_position new at ≡ Some after) × (child_of other after ≡ child_of other node)
    keeps_by other at node here later inside (inl stays) = stays
    keeps_by other at node here later inside (inr over) =
        let same : at ≡ end = over.0 in
        let side : child_of other node ≡ child_of rest node = over.1 in
        let further : end < child_of rest node = omega arith in
        let reaches : child_of rest node ≤ length old = omega arith in
        absurd (ends node (ap (at_position old) (sym same) ∙ here) further reaches)

    keeps : KeepsPaths old new
    keeps = λ other at node here later inside. keeps_by other at node here later inside (SetsChild-child end rest place old new sets other at node here)

    one_step : (node : Node) → (before : Node) × (at_position old end ≡ Some before) → IsReached (new ++ node ∷ []) place rest end
    one_step node before =
        let child = child_of-with rest place before.0 in
        let later : end < place = omega arith in (
          1,
          (
            with_child rest place before.0,
            at_position-push new node end (with_child rest place before.0) (sets.changed before.0 before.1),
            rw child later,
            rw child refl,
          ),
        )

-- in an empty tree every path leads to the first place
pub hangs_first : (path place : ℕ) (old : List Node) → place ≡ length old + 1 → length old ≡ 0 → Hangs place path old old
hangs_first path place old next none = record {
  lates = record { same = refl; late = λ at node here. (node, here, refl) };
  keeps = λ other at node here later within. (node, here, refl);
  leads = λ node. (0, omega arith);
}

-- a removed child cuts no other path
pub cuts_off : (parent rest place : ℕ) (old new : List Node) → IsNextOnPath old rest parent place → SetsChild parent rest 0 old new → CutsOff place old new
cuts_off parent rest place old new on sets = record {
  lates = SetsChild-lates parent rest 0 old new sets;
  keeps = λ other at node here differs. by other at node here differs (SetsChild-child parent rest 0 old new sets other at node here);
}
  where
    by : (other at : ℕ) (node : Node) → at_position old at ≡ Some node → child_of other node ≢ place
        → ((after : Node) × (at_position new at ≡ Some after) × (child_of other after ≡ child_of other node))
        ⊎ ((at ≡ parent) × (child_of other node ≡ child_of rest node))
        → (after : Node) × (at_position new at ≡ Some after) × (child_of other after ≡ child_of other node)
    by other at node here differs (inl stays) = stays
    by other at node here differs (inr over) =
        let node_is : node ≡ on.node = same_Some node on.node (sym here ∙ ap (at_position old) over.0 ∙ on.here) in
        absurd (differs (over.1 ∙ ap (child_of rest) node_is ∙ sym on.is))

-- an unchanged tree has no path cut
pub cuts_nothing : (place : ℕ) (old : List Node) → CutsOff place old old
cuts_nothing place old = record {
  lates = record { same = refl; late = λ at node here. (node, here, refl) };
  keeps = λ other at node here differs. (node, here, refl);
}

-- an identity was at the same place before the change
back : (old new : List Node) → SameLates old new → (at : ℕ) (after : Node) → at_position new at ≡ Some after
    → (node : Node) × (at_position old at ≡ Some node) × (after.late ≡ node.late)
back old new lates at after here =
    let within = at_position-within new at after here in
    let same = lates.same in
    by (at_position-some old at within.0 (omega arith))
  where
    by : (node : Node) × (at_position old at ≡ Some node) → (node : Node) × (at_position old at ≡ Some node) × (after.late ≡ node.late)
    by found =
        let later = lates.late at found.0 found.1 in
        let same : after ≡ later.0 = same_Some after later.0 (sym here ∙ later.1) in
        (found.0, found.1, ap (λ (n : Node). n.late) same ∙ later.2)

-- a tree after a node is appended
pub tree_grows : (old new : List Node) (node : Node) → IsTree old → Hangs (length old + 1) (path_of node.late.identity) old new → IsTree (new ++ node ∷ [])
tree_grows old new node tree hangs = λ at found here. by at found (at_position-parts new node at found here)
  where
    by : (at : ℕ) (found : Node) → (at_position new at ≡ Some found) ⊎ ((at ≡ suc (length new)) × (found ≡ node))
        → IsReached (new ++ node ∷ []) at (path_of found.late.identity) 1
    by at found (inl here) =
        let before = back old new hangs.lates at found here in
        let within = at_position-within old at before.0 before.1 in
        let reached = tree at before.0 before.1 in
        let kept = Leads-keeps old (new ++ node ∷ []) (KeepsPaths-push old new node hangs.keeps) at reached.0 (path_of before.0.late.identity) 1 within.1
        reached.1 in
        rw before.2 (reached.0, kept)
    by at found (inr last) =
        let same = hangs.lates.same in
        let place : suc (length new) ≡ length old + 1 = omega arith in
        rw (last.0, last.1, place) (hangs.leads node)

-- a path to an earlier node is unchanged when the last node is cut off and removed
Leads-cut : (old new front : List Node) (last : Node) (place : ℕ) → CutsOff place old new → new ≡ front ++ last ∷ [] → place ≡ length new
    → (goal n path link : ℕ) → goal < place → Leads old goal n path link → Leads front goal n path link
Leads-cut old new front last place cuts parts place_is goal zero path link before leads = leads
Leads-cut old new front last place cuts parts place_is goal (suc n) path link before leads =
    let later = Leads-later old goal n (path / 2) (child_of path leads.0) leads.3 in
    let step = leads.2 in
    let differs : child_of path leads.0 ≢ place = λ same. absurd (omega arith) in
    let after = cuts.keeps path link leads.0 leads.1 differs in
    let rest = Leads-cut old new front last place cuts parts place_is goal n (path / 2) (child_of path leads.0) before leads.3 in
    let long : length new ≡ length front + 1 = ap length parts ∙ length-append front (last ∷ []) in (
      after.0,
      in_front (at_position-parts front last link after.0 (ap (λ (l : List Node). at_position l link) (sym parts) ∙ after.1)) (omega arith),
      rw after.2 leads.2,
      rw after.2 rest,
    )
  where
    in_front : {x : Node} → (at_position front link ≡ Some x) ⊎ ((link ≡ suc (length front)) × (x ≡ last)) → link ≤ length front
        → at_position front link ≡ Some x
    in_front (inl here) inside = here
    in_front (inr end) inside = let place = end.0 in absurd (omega arith)

-- a tree without its last node
pub tree_shrinks : (old new front : List Node) (last : Node) (place : ℕ) → IsTree old → CutsOff place old new → new ≡ front ++ last ∷ [] → place ≡ length old
    → IsTree front
tree_shrinks old new front last place tree cuts parts place_is = λ at found here.
    let in_new : at_position new at ≡ Some found = ap (λ (l : List Node). at_position l at) parts ∙ at_position-push front last at found here in
    let before = back old new cuts.lates at found in_new in
    let within = at_position-within front at found here in
    let reached = tree at before.0 before.1 in
    let same = cuts.lates.same in
    let long : length new ≡ length front + 1 = ap length parts ∙ length-append front (last ∷ []) in
    let cut = Leads-cut old new front last place cuts parts (omega arith) at reached.0 (path_of before.0.late.identity) 1 (omega arith) reached.1 in
    rw before.2 (reached.0, cut)

-- the late identities of changed nodes
pub lates_stay : (old new : List Node) → SameLates old new → map (λ node. node.late) new ≡ map (λ node. node.late) old
lates_stay old new lates = go old new lates.same (λ i node here. lates.late (suc i) node here)
  where
    go : (old new : List Node) → length new ≡ length old → ((i : ℕ) (node : Node) → slice_get old i ≡ Some node
        → (after : Node) × (slice_get new i ≡ Some after) × (after.late ≡ node.late))
        → map (λ node. node.late) new ≡ map (λ node. node.late) old
    go [] [] same each = refl
    go [] (y ∷ new) same each = absurd (omega arith)
    go (x ∷ old) [] same each = absurd (omega arith)
    go (x ∷ old) (y ∷ new) same each =
        let first = each 0 x refl in
        let head : y.late ≡ x.late = ap (λ (n : Node). n.late) (same_Some y first.0 first.1) ∙ first.2 in
        let rest = go old new (omega arith) (λ i. each (suc i)) in
        cc

-- a path that ends at a node leads to no other
pub ended : (nodes : List Node) (goal path link : ℕ) → EndsHere nodes path link → goal ≤ length nodes → goal ≢ link → ¬ (IsReached nodes goal path link)
ended nodes goal path link ends within other (zero, leads) = other (sym leads)
ended nodes goal path link ends within other (suc n, leads) = no_way nodes goal n path link ends within leads

-- no path leads from a place without a node
pub nowhere : (nodes : List Node) (goal path link : ℕ) (node : Node) → at_position nodes link ≡ None → at_position nodes goal ≡ Some node
    → ¬ (IsReached nodes goal path link)
nowhere nodes goal path link node none here (zero, leads) = let same = sym here ∙ ap (at_position nodes) (sym leads) ∙ none in cc
nowhere nodes goal path link node none here (suc n, leads) = let same = sym leads.1 ∙ none in cc

-- a node with another identity is another node
pub elsewhere : (nodes : List Node) (at place : ℕ) (node found : Node) (identity : Identity) → at_position nodes at ≡ Some node → node.late.identity ≡ identity
    → at_position nodes place ≡ Some found → found.late.identity ≢ identity → at ≢ place
elsewhere nodes at place node found identity here same there other equal =
    let one : found ≡ node = same_Some found node (sym there ∙ ap (at_position nodes) (sym equal) ∙ here) in
    other (ap (λ (n : Node). n.late.identity) one ∙ same)

-- an identity found among the nodes is found among their identities
pub lates_found : (nodes : List Node) (late : Late) (at : ℕ) (node : Node) → at_position nodes at ≡ Some node → node.late ≡ late
    → (i : ℕ) × (slice_get (map (λ n. n.late) nodes) i ≡ Some late)
lates_found nodes late zero node here is = absurd cc
lates_found nodes late (suc i) node here is = (i, slice_get-map (λ (n : Node). n.late) nodes i ∙ ap (option_map (λ (n : Node). n.late)) here ∙ ap Some is)

-- an identity that no node has is not among their identities
pub lates_none : (nodes : List Node) (identity : Identity) → ((at : ℕ) (node : Node) → at_position nodes at ≡ Some node → node.late.identity ≢ identity)
    → (i : ℕ) (late : Late) → slice_get (map (λ n. n.late) nodes) i ≡ Some late → late.identity ≢ identity
lates_none nodes identity none i late found same = by (slice_get nodes i) refl (sym (slice_get-map (λ (n : Node). n.late) nodes i) ∙ found)
  where
    by : (o : Option Node) → slice_get nodes i ≡ o → option_map (λ (n : Node). n.late) o ≡ Some late → ⊥
    by None here is = cc
    by (Some node) here is = none (suc i) node here (ap (λ (l : Late). l.identity) (same_Some node.late late is) ∙ same)

-- identities for which the test is false differ
pub differs_by : (a b : Identity) (r : Bool) → r ≡ (eqb a.handheld b.handheld && eqb a.number b.number) → r ≡ false → a ≢ b
differs_by a b r is fails same =
    let tested : (eqb a.handheld a.handheld && eqb a.number a.number) ≡ true = grind (arith, nat_tests) in
    let equal = is ∙ ap (λ (i : Identity). eqb a.handheld i.handheld && eqb a.number i.number) (sym same) ∙ tested in
    false≢true (sym fails ∙ equal)

-- what a write through the slice of a Vec leaves of it
pub written_back : {X : Type 0} (new items : List X) (len : ℕ) → length new ≡ length items → len ≡ length items
    → take len (new ++ drop (length new) items) ≡ new
written_back new items len same is =
    let rest : drop (length new) items ≡ [] = drop_all (length new) items (omega arith) in
    ap (λ (l : List _). take len (new ++ l)) rest ∙ ap (take len) (append-nil new) ∙ take_all len new (omega arith)

-- a list that is not empty, without its last element and with it
pub last_of : {X : Type 0} (xs : List X) → 0 < length xs → (x : X) × (xs ≡ take (length xs - 1) xs ++ x ∷ [])
last_of xs some =
    let found = slice_get-some xs (length xs - 1) (omega arith) in
    (found.0, last_is xs (length xs - 1) found.0 found.1 (omega arith))
  where
    last_is : {X : Type 0} (xs : List X) (i : ℕ) (x : X) → slice_get xs i ≡ Some x → length xs ≡ suc i → xs ≡ take i xs ++ x ∷ []
    last_is [] i x here long = absurd (omega arith)
    last_is (y ∷ []) zero x here long = ap (λ (z : _). z ∷ []) (same_Some y x here)
    last_is (y ∷ z ∷ xs) zero x here long = absurd (omega arith)
    last_is (y ∷ xs) (suc i) x here long = ap (λ (l : List _). y ∷ l) (last_is xs i x here (omega arith))
