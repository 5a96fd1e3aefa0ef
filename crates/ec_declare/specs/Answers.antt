-- What an answer is: want of memory alone is free.
use Rattle.std.specs.Prelude.{◌≡◌, ◌⊎◌, Result, Ok, Err}
use Rattle.ec_base.specs.declared.stop.Stop.{Stop}
use Rattle.ec_base.specs.declared.stop.Stop.TheVariants.{OutOfMemory}

-- the answer, by what is seen of its value, or no memory was left
abbrev pub Told : {A B : Type 0} → (A → B) → Result A Stop → Result B Stop → Type 0
Told view (Ok a) wanted = wanted ≡ Ok (view a)
Told view (Err stop) wanted = (stop ≡ OutOfMemory) ⊎ (wanted ≡ Err stop)
