-- What a call of the tool does, the last line on standard error aside: a translation, a run, or nothing, where the words
-- name neither.
use Rattle.std.specs.Prelude.{◌≡◌, ℕ, ◌⊎◌, List, Option, String}
use Rattle.std.specs.declared.alloc.Global.{Global as Allocator}
use Rattle.std.specs.declared.dyn_box.DynBox.{DynBox}
use Rattle.ec_link.specs.declared.rack.Rack.{Rack}
use Rattle.ec_link.specs.Logged.{Talk}
use Rattle.ec_cli.specs.declared.ending.Ending.{Ending}
use Rattle.ec_cli.specs.declared.ending.Ending.TheVariants.{Usage, OutOfMemory}
use Rattle.ec_cli.specs.declared.form.Form.{Form}
use Rattle.ec_cli.specs.Executing.{Executes, Untouched}
use Rattle.ec_cli.specs.Tasks.{IsUnnamed, IsTranslating, HasTurns}
use Rattle.ec_cli.specs.Translating.{Translates}

module _ {I O E X : Type 0} {F : X → Type 0} (left : I → Option (List ℕ)) (reads : I → ℕ)
    (held : O → Option (List ℕ)) (puts : O → ℕ) (told : E → Option (List ℕ)) (tells : E → ℕ)
    (talk : DynBox X Allocator F → Option Talk) (faults : DynBox X Allocator F → ℕ) where
  -- a translation leaves the rack as it was, and says nothing on standard error
  pub record HasTranslated (words : List (String Allocator)) (input input' : I) (out out' : O)
      (err err' : E) (rack rack' : Rack X F) (ending : Ending) : Type 0 where
    pub named : IsTranslating words
    pub silent : err' ≡ err
    pub unlinked : rack' ≡ rack
    pub translates : Translates left reads held puts input input' out out' ending

  pub record HasExecuted (words : List (String Allocator)) (input input' : I) (out out' : O)
      (err err' : E) (rack rack' : Rack X F) (ending : Ending) : Type 0 where
    pub form : Form
    pub turns : ℕ
    pub named : HasTurns words form turns
    pub executes : Executes held puts told tells talk faults left reads form turns
        input input' out out' err err' rack rack' ending

  pub record HasDeclined (words : List (String Allocator)) (input input' : I) (out out' : O)
      (err err' : E) (rack rack' : Rack X F) (ending : Ending) : Type 0 where
    pub unnamed : IsUnnamed words
    pub declines : (ending ≡ Usage) ⊎ (ending ≡ OutOfMemory)
    pub unread : input' ≡ input
    pub untouched : Untouched held puts told tells talk faults out out' err err' rack rack'

  abbrev pub Does : List (String Allocator) → I → I → O → O → E → E → Rack X F → Rack X F → Ending
      → Type 0
  Does words input input' out out' err err' rack rack' ending =
      HasTranslated words input input' out out' err err' rack rack' ending
      ⊎ HasExecuted words input input' out out' err err' rack rack' ending
      ⊎ HasDeclined words input input' out out' err err' rack rack' ending
