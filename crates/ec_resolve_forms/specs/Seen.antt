-- What the resolver stands for, and what a function of it ensures.
use Rattle.std.specs.Prelude.{◌≡◌, List, map, Result, IfOk}
use Rattle.ec_base.specs.declared.stop.OutOfMemory.{OutOfMemory}
use Rattle.ec_code.specs.Views.{expression_view}
use Rattle.ec_resolving_defs.specs.Operands as of
use Rattle.ec_resolving_defs.specs.Storage.{Reached, Resolving}
use Rattle.ec_rules.specs.Seen.{operand_view}
use Rattle.ec_scopes.specs.Seen.{world_of}
use Rattle.ec_resolve_values.specs.storage.Stored.{storage_of}
use Rattle.ec_resolve_forms.specs.declared.found.Found.{Found}
use Rattle.ec_resolve_forms.specs.declared.resolver.Resolver.{Resolver}

abbrev pub found_view : Found → of.Found
found_view f = record {
  operand = operand_view f.operand;
  exp = expression_view f.exp;
  is_address = f.is_address;
}

abbrev pub founds_view : List Found → List of.Found
founds_view fs = map found_view fs

-- what a rule finds from here on
abbrev pub from : {A : Type 0} → Resolving A → Resolver → Reached A
from m r = m (storage_of r.storage) (world_of r.checker)

-- The code answered this and went to this state, as the rule says.
pub record IsReached {A : Type 0} (r : Reached A) (new : Resolver) (answer : A) : Type 0 where
  pub answer_is : answer ≡ r.answer
  pub storage_is : storage_of new.storage ≡ r.storage
  pub world_is : world_of new.checker ≡ r.world

-- the same, with the answer as `view` shows it, unless memory ran out
abbrev pub Reaches : {A B : Type 0} → (B → A) → Reached A → Result B OutOfMemory → Resolver → Type 0
Reaches view r result new = IfOk result (λ b. IsReached r new (view b))

-- the same, with the answer put into another
abbrev pub mapped : {A B : Type 0} → (A → B) → Reached A → Reached B
mapped f r = record { answer = f r.answer; storage = r.storage; world = r.world }
