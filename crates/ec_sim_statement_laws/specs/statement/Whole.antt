-- When a program is what is written for a source: a block stands in the place of each embedded statement.
use Rattle.std.specs.Prelude.{◌≡◌, ℕ, true, false, List, Some, slice_get}
use Rattle.ec_arguments.specs.Arguments.{name_of}
use Rattle.ec_arguments.specs.Writing.{arguments}
use Rattle.ec_ctypes.specs.trees.Checked.{TypedData}
use Rattle.ec_ctypes.specs.trees.Embedded.{EmbData}
use Rattle.ec_meaning_defs.specs.resolved.Resolved.{Exp, Stm}
use Rattle.ec_resolving_defs.specs.Storage.{LibraryCall, StatementForm}
use Rattle.ec_direct_defs.specs.Direct.{form_of, statement_at}
use Rattle.ec_direct_defs.specs.Statements.{Statement}
use Rattle.ec_sim_statement_laws.specs.statement.Calls.{call_of, cut_of, keeps_rules, HasTargets}
use Rattle.ec_sim_statement_laws.specs.statement.Blocks.{block_stm, any_calls_library}

-- the forms of a source's embedded statements, the calls of the library in what is written, and the statement in the place of each
module _ (t : TypedData) (forms : List StatementForm) (calls : List LibraryCall)
    (text : ℕ → Stm) where
  -- The embedded statement of this number stands on this line, and in its place its block
  pub record IsWrittenAt (line n : ℕ) : Type 0 where
    pub emb : EmbData
    pub form : StatementForm
    pub statement : Statement Exp
    pub number : ℕ
    pub is_emb : slice_get t.unit.embs n ≡ Some emb
    pub is_form : form_of n forms ≡ Some form
    pub is_statement : statement_at t forms n emb form ≡ Some statement
    pub stands : emb.line.0 ≡ line
    pub is_call : slice_get calls number
        ≡ Some (name_of (call_of t.structs statement), arguments (cut_of t.structs line statement))
    pub is_text : text n ≡ block_stm line number form.actions
    pub rules : keeps_rules t.structs statement ≡ true
    pub targets : HasTargets statement
    pub silent : any_calls_library form.actions ≡ false
