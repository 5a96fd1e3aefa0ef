-- The table of WHENEVERs: those of one condition stand together, in the order of the text, so that the last one before a place is found by halves.
use Rattle.std.specs.Prelude.{◌≡◌, ℕ, Bool, true, ◌&&◌, ◌||◌, ◌==◌, nat_le, nat_lt, List, [], ◌∷◌, ◌++◌}
use Rattle.std.specs.List.{filter}
use Rattle.ec_ctypes.specs.declared.embedded.emb.Cond.{Cond}
use Rattle.ec_ctypes.specs.declared.embedded.emb.Cond.TheVariants.{NotFound, Warning, Error}
use Rattle.ec_ctypes.specs.trees.Checked.{MarkData}
use Rattle.ec_ctypes.specs.trees.Embedded.{EmbData}
use Rattle.ec_typing_defs.specs.statement_parts.Handlers.{same_cond, action_among, handler}

abbrev pub is_for : Cond → MarkData → Bool
is_for cond m = same_cond cond m.1

-- those for the condition, in the order of the text
abbrev pub marks_for : Cond → List MarkData → List MarkData
marks_for cond ms = filter (is_for cond) ms

-- condition by condition
abbrev pub table_of : List MarkData → List MarkData
table_of ms = marks_for NotFound ms ++ (marks_for Warning ms ++ marks_for Error ms)

abbrev pub cond_rank : Cond → ℕ
cond_rank NotFound = 0
cond_rank Warning = 1
cond_rank Error = 2

-- in a table this mark stands before the place among those for the condition, or before all these
abbrev pub comes_before : ℕ → Cond → MarkData → Bool
comes_before place cond m = nat_lt (cond_rank m.1) (cond_rank cond)
    || (cond_rank m.1 == cond_rank cond && nat_lt m.0 place)

-- of two marks the first comes no later in a table
abbrev pub is_no_later : MarkData → MarkData → Bool
is_no_later a b = nat_lt (cond_rank a.1) (cond_rank b.1)
    || (cond_rank a.1 == cond_rank b.1 && nat_le a.0 b.0)

abbrev pub is_no_later_than : MarkData → List MarkData → Bool
is_no_later_than m [] = true
is_no_later_than m (x ∷ xs) = is_no_later m x && is_no_later_than m xs

-- no mark comes before one that stands above it in the table
abbrev pub is_sorted : List MarkData → Bool
is_sorted [] = true
is_sorted (m ∷ ms) = is_no_later_than m ms && is_sorted ms

abbrev pub is_behind : ℕ → List EmbData → Bool
is_behind place [] = true
is_behind place (e ∷ es) = nat_lt place e.place && is_behind place es

-- the statements stand in the order of the text
abbrev pub are_in_order : List EmbData → Bool
are_in_order [] = true
are_in_order (e ∷ es) = is_behind e.place es && are_in_order es

-- the table answers for these statements: it is sorted, and has for each place and condition the action that holds there
pub record AnswersFor (table : List MarkData) (es : List EmbData) : Type 0 where
  pub sorted : is_sorted table ≡ true
  pub actions : (place : ℕ) (cond : Cond) → action_among table place cond ≡ handler es place cond
