-- A run that was made, against what a program means.
use Rattle.std.specs.Prelude.{◌≡◌, ℕ, List, Option}
use Rattle.ec_base.specs.Putting.{Puts, Took}
use Rattle.ec_meaning_defs.specs.evaluation.State.{Ending}
use Rattle.ec_meaning_defs.specs.evaluation.Whole.{Observed}
use Rattle.ec_link.specs.declared.logged.Logged.{Logged}
use Rattle.ec_meaning_defs.specs.observed.Run.{IsFront}

module _ {O E : Type 0} (held : O → Option (List ℕ))
    (puts : O → ℕ) (told : E → Option (List ℕ)) (tells : E → ℕ) where
  -- The whole of it: the program ends so, what was said is what the log grew by, and the outputs took all that it prints.
  pub record Runs (meaning : Observed) (growth : List Logged)
      (ending : Ending) (out out' : O) (err err' : E) : Type 0 where
    pub ends : meaning.ending ≡ ending
    pub conversation : meaning.conversation ≡ growth
    pub output : Puts held puts out out' meaning.output
    pub errors : Puts told tells err err' meaning.errors

  -- A part of it: the log grew by the front of what is said, and the outputs took fronts of what is printed. Either may have
  -- failed behind its front.
  pub record RunsPart (meaning : Observed) (growth : List Logged)
      (out out' : O) (err err' : E) : Type 0 where
    pub printed : List ℕ
    pub complained : List ℕ
    pub conversation : IsFront growth meaning.conversation
    pub output_front : IsFront printed meaning.output
    pub errors_front : IsFront complained meaning.errors
    pub output : Took held puts out out' printed
    pub errors : Took told tells err err' complained
