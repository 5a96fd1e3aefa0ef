-- Embedded statements, as plain data.
use Rattle.std.specs.Prelude.{ℕ, Bool, List, Option}
use Rattle.ec_base.specs.declared.line.Line.{Line}
use Rattle.ec_ctypes.specs.declared.embedded.emb.Item.{Item}
use Rattle.ec_ctypes.specs.declared.embedded.emb.Cond.{Cond}
use Rattle.ec_ctypes.specs.trees.Exprs.{ExprData, ExprList}

-- a reference to a host variable, with its indicator
pub record HostData : Type 0 where
  pub value : ExprData
  pub indicator : Option ExprData

-- a name or a text that a statement is given
pub data TextArgData : Type 0 where
  word_arg : List ℕ → TextArgData
  host_arg : ExprData → TextArgData
  -- with an indicator, which is a fault
  host_with_indicator : ExprData → ExprData → TextArgData

-- a value that a statement sends
pub data InputData : Type 0 where
  host_input : HostData → InputData
  const_input : List ℕ → InputData

-- the values of a USING list, or the descriptor that has them
pub data InsData : Type 0 where
  listed_ins : List InputData → InsData
  area_ins : TextArgData → InsData

-- where an answer is stored
pub data OutsData : Type 0 where
  no_outs : OutsData
  listed_outs : List HostData → OutsData
  area_outs : TextArgData → OutsData

-- a part of a text that is sent
pub data PartData : Type 0 where
  bytes_part : List ℕ → PartData
  host_part : HostData → PartData

-- an action of WHENEVER
pub data ActionData : Type 0 where
  continue_action : ActionData
  goto_action : List ℕ → ActionData
  print_action : ActionData
  stop_action : ActionData
  break_action : ActionData
  -- DO CONTINUE
  next_action : ActionData
  call_action : List ℕ → ExprList → ActionData

-- what an embedded statement does
pub data EmbKindData : Type 0 where
  -- target, name, user and password
  connect : TextArgData → Option TextArgData → Option TextArgData → Option TextArgData → EmbKindData
  set_connection : TextArgData → EmbKindData
  disconnect : TextArgData → EmbKindData
  -- SET AUTOCOMMIT, to ON or not
  autocommit : Bool → EmbKindData
  -- transaction control, by its text
  trans : List ℕ → EmbKindData
  -- a statement that passes to the server
  server_text : List PartData → OutsData → EmbKindData
  -- a cursor for a statement, or for a prepared name
  declare_cursor : List ℕ → List PartData → Option (List ℕ) → EmbKindData
  open_cursor : List ℕ → InsData → EmbKindData
  execute_immediate : TextArgData → EmbKindData
  prepare : List ℕ → TextArgData → EmbKindData
  execute : List ℕ → InsData → OutsData → EmbKindData
  deallocate : List ℕ → EmbKindData
  allocate_area : TextArgData → EmbKindData
  free_area : TextArgData → EmbKindData
  get_count : TextArgData → HostData → EmbKindData
  -- the descriptor, the index and the items
  get_items : TextArgData → InputData → List (Item × HostData) → EmbKindData
  set_count : TextArgData → InputData → EmbKindData
  set_items : TextArgData → InputData → List (Item × InputData) → EmbKindData
  whenever : Cond → ActionData → EmbKindData
  include_sqlca : EmbKindData

-- an embedded statement or directive: its line, the place of its token, and the connection that AT names
pub record EmbData : Type 0 where
  pub line : Line
  pub place : ℕ
  pub at : Option TextArgData
  pub kind : EmbKindData
