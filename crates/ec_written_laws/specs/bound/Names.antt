-- Which names stand in an embedded statement and in the actions that hold at it, as tests that compute.
use Rattle.std.specs.Prelude.{Bool, true, false, ◌&&◌, List, [], ◌∷◌, Option, Some, None}
use Rattle.ec_ctypes.specs.trees.Embedded.{ActionData, goto_action, call_action}
use Rattle.ec_ctypes.specs.trees.Exprs.{ExprData, integer, character, identifier, index, member, arrow, ExprList, no_exprs, exprs}
use Rattle.ec_typing_defs.specs.statement_parts.References.{References}
use Rattle.ec_writing_defs.specs.Shapes.{is_plain_name, is_free_name, fits_type, is_character}

-- ---- what tokens of SQL make

-- an index: a name or a number
abbrev pub is_simple_index : ExprData → Bool
is_simple_index (identifier x) = true
is_simple_index (integer n t) = fits_type n t
is_simple_index _ = false

-- a name with indexes and members, or a constant
abbrev pub is_simple : ExprData → Bool
is_simple (integer n t) = fits_type n t
is_simple (character c) = is_character c
is_simple (identifier x) = true
is_simple (index a b) = is_simple a && is_simple_index b
is_simple (member e m) = is_simple e
is_simple (arrow e m) = is_simple e
is_simple _ = false

abbrev pub are_simple : ExprList → Bool
are_simple no_exprs = true
are_simple (exprs e es) = is_simple e && are_simple es

-- each member has a name
abbrev pub has_plain_members : ExprData → Bool
has_plain_members (index a b) = has_plain_members a
has_plain_members (member e m) = is_plain_name m && has_plain_members e
has_plain_members (arrow e m) = is_plain_name m && has_plain_members e
has_plain_members _ = true

abbrev pub have_plain_members : ExprList → Bool
have_plain_members no_exprs = true
have_plain_members (exprs e es) = has_plain_members e && have_plain_members es

-- The members in the arguments of an action are those of the communication area.
abbrev pub is_simple_action : ActionData → Bool
is_simple_action (call_action f es) = are_simple es && have_plain_members es
is_simple_action _ = true

abbrev pub have_simple_values : References → Bool
have_simple_values [] = true
have_simple_values (r ∷ rs) = is_simple r.value && have_simple_values rs

-- ---- what the checks know of the names in it

-- an expression can begin with each
abbrev pub has_free_names : ExprData → Bool
has_free_names (identifier x) = is_free_name x
has_free_names (index a b) = has_free_names a && has_free_names b
has_free_names (member e m) = has_free_names e
has_free_names (arrow e m) = has_free_names e
has_free_names _ = true

abbrev pub have_free_names : ExprList → Bool
have_free_names no_exprs = true
have_free_names (exprs e es) = has_free_names e && have_free_names es

abbrev pub has_known_names : ActionData → Bool
has_known_names (goto_action l) = is_plain_name l
has_known_names (call_action f es) = is_free_name f && have_free_names es
has_known_names _ = true

abbrev pub has_known_names_option : Option ActionData → Bool
has_known_names_option None = true
has_known_names_option (Some a) = has_known_names a

abbrev pub have_free_values : References → Bool
have_free_values [] = true
have_free_values (r ∷ rs) = has_free_names r.value && have_free_values rs
