-- What is read from the front of a list of arguments, in the words of the definitions.
use Rattle.std.specs.Prelude.{◌≡◌, ℕ, List, Option, option_map}
use Rattle.ec_arguments.specs.Arguments.{Arg}
use Rattle.ec_arguments.specs.Reading.{Read, next_text}
use Rattle.ec_cut.specs.declared.arguments.Front.{Front}
use Rattle.ec_cut.specs.declared.arguments.Text.{Text}
use Rattle.ec_cut.specs.Views.{left_view, text_view}

abbrev pub same : {B : Type 0} → B → B
same b = b

module _ {L P D : Type 0} (bytes : L → List ℕ) (view : P → D) where
  -- A reader of the definitions reads this, as `f` sees it, and leaves these arguments; or it
  -- reads nothing
  abbrev pub Reads : {X Y : Type 0} → (X → Y) → (List (Arg D) → Read D Y)
      → Front L P → Option X → Front L P → Type 0
  Reads f p old result new =
      p (left_view bytes view old) ≡ option_map (λ x. (f x, left_view bytes view new)) result

  -- the next argument is read as a text
  abbrev pub ReadsText : Front L P → Option (Text L P) → Front L P → Type 0
  ReadsText old result new = Reads (text_view bytes view) next_text old result new
