-- The rules on the parts of a call of code, in the words of the definitions.
use Rattle.std.specs.Prelude.{ℕ, Bool, List}
use Rattle.ec_arguments.specs.Rules as rules
use Rattle.ec_cut.specs.declared.arguments.Member.{Member}
use Rattle.ec_cut.specs.declared.arguments.Statement.{Statement}
use Rattle.ec_cut.specs.Cases as cases
use Rattle.ec_cut.specs.Views.{member_view, members_view, statement_view}

module _ {L P D : Type 0} (bytes : L → List ℕ) (view : P → D) (is_text : D → Bool) where
  -- an input, which may be the last one
  abbrev pub keeps_input : Member L P → Bool → Bool
  keeps_input m last = cases.is_input is_text (member_view bytes view m) last

  abbrev pub keeps_only_output : Member L P → Bool
  keeps_only_output m = cases.is_only_output is_text (member_view bytes view m)

  abbrev pub keep_outputs : List (Member L P) → Bool
  keep_outputs ms = rules.are_outputs is_text (members_view bytes view ms)

  abbrev pub keeps_statement : Statement L P → Bool
  keeps_statement s = rules.is_statement is_text (statement_view bytes view s)
