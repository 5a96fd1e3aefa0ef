-- Adding the leaves at the ends of ways that begin with the same members.
use Rattle.std.specs.Prelude.{Bool, true, false, List, ◌++◌, map, Option, Some, None, option_map}
use Rattle.ec_leaves.specs.declared.parts.Frame.{Frame}
use Rattle.ec_leaves.specs.Seen.{leaf_at}
use Rattle.ec_host_defs.specs.Leaves.{LeafData, Path, Way}

-- a way behind these members
abbrev pub under : Path → Way → Way
under front w = (front ++ w.0, w.1)

abbrev pub added : Bool → List LeafData → Option (List LeafData)
added true ls = Some ls
added false ls = None

abbrev pub leaf_under : Frame → Path → Way → LeafData
leaf_under frame front w = leaf_at frame (under front w)

-- the leaves so far, and those of these ways
abbrev pub behind : Frame → Path → List LeafData → Option (List Way) → Option (List LeafData)
behind frame front ls found = option_map (λ ws. ls ++ map (leaf_under frame front) ws) found
