-- The state of a run: its memory, what it printed, its connections to servers, what was said to them, the answers that are still to come, and the turns that are left.
use Rattle.std.specs.Prelude.{ℕ, ℤ, Bool, List, Option}
use Rattle.ec_base.specs.declared.stop.Trap.{Trap}
use Rattle.ec_link.specs.declared.logged.Logged.{Logged}
use Rattle.ec_link.specs.declared.reply.Tx.{Tx}
use Rattle.ec_link.specs.declared.request.Request.{Request}
use Rattle.ec_memory_defs.specs.Memory.{Memory}
pub use Rattle.ec_meaning_defs.specs.observed.Observed.{Answer}

-- a connection: its name, its slot, whether autocommit is on, the transaction state that was told last, and the texts that are prepared, each with its name
pub record Connection : Type 0 where
  pub name : List ℕ
  pub slot : ℕ
  pub autocommit : Bool
  pub told : Tx
  pub prepared : List (List ℕ × List ℕ)

-- an item of a descriptor: its content, or none for NULL, its name, and the code of its type
pub record Item : Type 0 where
  pub content : Option (List ℕ)
  pub label : List ℕ
  pub code : ℤ

pub record State : Type 0 where
  pub memory : Memory
  -- the bytes printed on standard output and on standard error
  pub output : List ℕ
  pub errors : List ℕ
  -- the open connections in order of opening, and the name of the current one
  pub connections : List Connection
  pub current : Option (List ℕ)
  -- the descriptors, each with its name
  pub descriptors : List (List ℕ × List Item)
  pub conversation : List Logged
  pub answers : List Answer
  pub turns : ℕ

-- how a run ends: with a status; with a trap and its line; without a turn that it needs; with a request that has no answer yet, and the slot of its connection. What has a fault, and is never run, is stuck
pub data Ending : Type 0 where
  exited : ℕ → Ending
  trapped : Trap → ℕ → Ending
  turns_spent : Ending
  waits : Option ℕ → Request → Ending
  stuck : Ending
