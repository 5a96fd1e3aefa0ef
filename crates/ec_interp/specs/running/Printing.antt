-- What two outputs take of a text that is put on one of them. `held` and `faults` are the members of their sinks.
use Rattle.std.specs.Prelude.{◌≡◌, ◌⊎◌, ℕ, List, [], ◌++◌, Option}
use Rattle.ec_base.specs.Causes.{Rose}
use Rattle.ec_base.specs.Putting.{Puts, Took}
use Rattle.ec_printf.specs.declared.formats.known.Channel.{Channel}
use Rattle.ec_printf.specs.declared.formats.known.Channel.TheVariants as channel

abbrev pub on_output : Channel → List ℕ → List ℕ
on_output channel.StandardOutput text = text
on_output channel.StandardError text = []

abbrev pub on_errors : Channel → List ℕ → List ℕ
on_errors channel.StandardOutput text = []
on_errors channel.StandardError text = text

module _ {O E : Type 0} (held : O → Option (List ℕ)) (faults : O → ℕ)
    (held' : E → Option (List ℕ)) (faults' : E → ℕ) where
  -- both outputs took what was put on them
  pub record Prints (out out' : O) (err err' : E) (printed complained : List ℕ) : Type 0 where
    pub output : Puts held faults out out' printed
    pub errors : Puts held' faults' err err' complained

  -- what was put on both outputs, of which one failed behind it
  pub record PrintsLast (out out' : O) (err err' : E) (printed complained : List ℕ) : Type 0 where
    pub output : Took held faults out out' printed
    pub errors : Took held' faults' err err' complained
    pub failed : Rose (faults out) (faults out') ⊎ Rose (faults' err) (faults' err')

  -- the output took the front of a text, and failed
  pub record PrintsPart (out out' : O) (err err' : E)
      (channel : Channel) (text : List ℕ) : Type 0 where
    pub front : List ℕ
    pub rest : List ℕ
    pub split : text ≡ front ++ rest
    pub last : PrintsLast out out' err err' (on_output channel front) (on_errors channel front)
