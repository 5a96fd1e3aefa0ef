-- Places and steps, in the words of the definitions.
use Rattle.ec_call_defs.specs.Marks.{Where, between, behind_e, in_word, in_number, quoted, escaped, dashed, commented}
use Rattle.ec_marks.specs.declared.place.Place.{Place}
use Rattle.ec_marks.specs.declared.place.Place.TheVariants as places
use Rattle.ec_marks.specs.declared.step.Step.{Step}
use Rattle.ec_marks.specs.declared.step.Step.TheVariants as steps
use Rattle.ec_marks.specs.Steps.{Taken, mark, one, two}

abbrev pub place_view : Place → Where
place_view places.Between = between
place_view places.BehindE = behind_e
place_view places.InWord = in_word
place_view places.InNumber = in_number
place_view (places.Quoted quote) = quoted quote
place_view places.Escaped = escaped
place_view places.Dashed = dashed
place_view (places.Commented deep) = commented deep

abbrev pub step_view : Step → Taken
step_view steps.Mark = mark
step_view (steps.One behind) = one (place_view behind)
step_view (steps.Two next behind) = two next (place_view behind)
