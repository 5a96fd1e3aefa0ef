-- Going through the members of a struct, and of the structs that it holds, one member a turn.
use Rattle.std.specs.Prelude.{◌≡◌, ℕ, ◌-◌, List, [], ◌∷◌, ◌++◌, map, drop, length, slice_get, Option, Some, None, option_and_then}
use Rattle.ec_ctypes.specs.trees.Types.{MemberData, StructData}
use Rattle.ec_host_defs.specs.Leaves.{LeafData, Path, members_ways, ways_within}
use Rattle.ec_leaves.specs.declared.parts.Frame.{Frame}
use Rattle.ec_leaves.specs.declared.parts.Step.{Step}
use Rattle.ec_leaves.specs.declared.parts.Walk.{Walk}
use Rattle.ec_leaves.specs.declared.parts.Turn.{Turn}
use Rattle.ec_leaves.specs.declared.parts.Turn.TheVariants.{Goes, Ended, NoHost}
use Rattle.ec_leaves.specs.Adding.{behind}
use Rattle.ec_leaves.specs.Seen.{leaf_view}

abbrev pub step_view : Step → ℕ × List ℕ
step_view s = (s.id, s.name)

-- the members that lead into the struct that is gone through
abbrev pub path_of : List Step → Path
path_of outer = map step_view outer

abbrev pub members_of : List StructData → ℕ → List MemberData
members_of structs k = elim (slice_get structs k) [ None ↦ [] | Some d ↦ d.members ]

module _ (structs : List StructData) (frame : Frame) where
  -- the leaves so far, and those of these members of the struct of this number, which lies behind such members
  abbrev pub rest : ℕ → Path → ℕ → List MemberData → List LeafData → Option (List LeafData)
  rest depth front k ms ls =
      behind frame front ls (members_ways structs (ways_within depth structs) k ms)

  -- those of the members that a struct has left
  abbrev pub left_in : ℕ → Path → Step → List LeafData → Option (List LeafData)
  left_in depth front s ls = rest depth front s.id (drop s.next (members_of structs s.id)) ls

  -- then those that the structs have left that hold it, the innermost first
  abbrev pub onto : ℕ → Path → List Step → Option (List LeafData) → Option (List LeafData)
  onto depth front [] found = found
  onto depth front (s ∷ inner) found = option_and_then (left_in depth front s)
      (onto (depth - 1) (front ++ step_view s ∷ []) inner found)

  -- all leaves, once the walk is at its end
  abbrev pub whole : Walk → Option (List LeafData)
  whole w =
      onto (length structs - 1) [] w.outer (rest (length structs - 1 - length w.outer)
      (path_of w.outer) w.id (drop w.next (members_of structs w.id)) (map leaf_view w.leaves))

  -- a turn of the walk
  abbrev pub Turned : Turn → Walk → Walk → Type 0
  Turned Goes old new = whole new ≡ whole old
  Turned Ended old new = whole old ≡ Some (map leaf_view new.leaves)
  Turned NoHost old new = whole old ≡ None
