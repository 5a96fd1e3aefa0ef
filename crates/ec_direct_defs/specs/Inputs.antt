-- What a statement reads before it does anything: its texts and the values that it sends, in order. The first trap ends the run.
use Rattle.std.specs.Prelude.{ℕ, List, [], ◌∷◌, Option, Some, None}
use Rattle.ec_arguments.specs.Arguments.{TextArg}
use Rattle.ec_ctypes.specs.declared.embedded.emb.Item.{Item}
use Rattle.ec_ctypes.specs.trees.Types.{StructData}
use Rattle.ec_transfer_defs.specs.Conversion.{parameter}
use Rattle.ec_meaning_defs.specs.evaluation.State.{State}
use Rattle.ec_call_defs.specs.Outcomes.{Text, Field, Outcome, gives, next, trying, present}
use Rattle.ec_direct_defs.specs.Texts.{text_wanted}
use Rattle.ec_direct_defs.specs.Leaves.{Leaf, leaf_data}
use Rattle.ec_direct_defs.specs.Statements.{Input, stored, constant}

module _ (structs : List StructData) where
  -- the value of a leaf: its text, or none for NULL
  abbrev pub leaf_read : Leaf ℕ → State → Outcome Field
  leaf_read l s = next (present (leaf_data structs l) s) (λ h t. trying (parameter t.memory h) t)

  abbrev pub input_read : Input ℕ → State → Outcome Field
  input_read (stored l) s = leaf_read l s
  input_read (constant bytes) s = gives (Some bytes) s

  abbrev pub values_read : List (Input ℕ) → State → Outcome (List Field)
  values_read [] s = gives [] s
  values_read (x ∷ xs) s =
      next (input_read x s) (λ field t.
      next (values_read xs t) (λ fields u.
      gives (field ∷ fields) u))

  abbrev pub items_read : List (Item × Input ℕ) → State → Outcome (List (Item × Field))
  items_read [] s = gives [] s
  items_read (i ∷ is) s =
      next (input_read i.1 s) (λ field t.
      next (items_read is t) (λ fields u.
      gives ((i.0, field) ∷ fields) u))

-- the name of the descriptor, if there is one
abbrev pub area_read : Option (TextArg ℕ) → State → Outcome (Option Text)
area_read None s = gives None s
area_read (Some name) s = next (text_wanted name s) (λ bytes t. gives (Some bytes) t)
