-- What is put of the transcript of a recording, by the ending of its run.
use Rattle.std.specs.Prelude.{◌≡◌, ◌⊎◌, ℕ, Bool, true, false, List, Option}
use Rattle.ec_base.specs.Putting.{Puts, PutsPart}
use Rattle.ec_cli.specs.declared.ending.Ending.{Ending}
use Rattle.ec_cli.specs.declared.ending.Ending.TheVariants.{WriteFault, OutOfMemory}

module _ {E : Type 0} (told : E → Option (List ℕ)) (tells : E → ℕ) where
  -- Where the run came to its end the text was put, and the ending stays; or its front was, and the output failed; or there
  -- was no memory for it. Else nothing was put.
  abbrev pub Records : Bool → List ℕ → E → E → Ending → Ending → Type 0
  Records false text err err' ending ending' = (err' ≡ err) × (ending' ≡ ending)
  Records true text err err' ending ending' =
      (Puts told tells err err' text × (ending' ≡ ending))
      ⊎ (PutsPart told tells err err' text × (ending' ≡ WriteFault))
      ⊎ ((err' ≡ err) × (ending' ≡ OutOfMemory))
