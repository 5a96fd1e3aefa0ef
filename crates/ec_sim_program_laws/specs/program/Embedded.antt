-- What is taken of one embedded statement.
use Rattle.std.specs.Prelude.{◌≡◌, ℕ, Bool, true, false, List, [], ◌∷◌, Option, Some, None, slice_get}
use Rattle.ec_ctypes.specs.trees.Embedded.{EmbData}
use Rattle.ec_ctypes.specs.trees.Stmts.{StmtKindData}
use Rattle.ec_ctypes.specs.trees.Types.{TyData}
use Rattle.ec_ctypes.specs.trees.Units.{TopData}
use Rattle.ec_typing_defs.specs.statement_parts.Handlers.{is_directive}
use Rattle.ec_typing_defs.specs.Tables.{Named}
use Rattle.ec_typing_defs.specs.Worlds.{Place}
use Rattle.ec_typing_defs.specs.Embedded as checked_embedded
use Rattle.ec_typing_defs.specs.Statements as checked
use Rattle.ec_typing_defs.specs.Statements.{Around, labels_in_kind}
use Rattle.ec_resolving_defs.specs.Embedded.{embedded_rule}
use Rattle.ec_resolving_defs.specs.Statements.{objects_in_kind, statement_kind}
use Rattle.ec_resolving_defs.specs.Agreement.{around_of}
use Rattle.ec_sim_program_laws.specs.program.Copied.{Whole, in_function, IsCopied, IsGone}

-- what stands round a statement of a program with these embedded statements
abbrev pub inside : List EmbData → Bool → Bool → Named (Unit {0}) → Option TyData → Around
inside es body loop labels result =
    record { embs = es; is_body = body; in_loop = loop; labels = labels; result = result }

module _ (g : Whole) (es : List EmbData) (embedded : ℕ → Option StmtKindData) where
  -- a statement that is executed, and what is written in its place, wherever both stand
  pub record ExecutedIsCopied (n : ℕ) (e : EmbData) : Type 0 where
    pub kind : StmtKindData
    pub is_written : embedded n ≡ Some kind
    -- no label stands in it, and no object of the block round it
    pub no_labels : (ls : Named (Unit {0})) → labels_in_kind kind ls ≡ ls
    pub no_objects : objects_in_kind kind ≡ 0
    pub copied : (body loop : Bool) (labels : Named (Unit {0})) (result : Option TyData)
        (at there : Place) (behind : List ℕ)
        → IsCopied g (λ x y. g.Stands e.line.0 n y) (in_function (n ∷ behind)) (in_function behind)
        (checked_embedded.embedded_rule es body loop labels at n e)
        (checked.statement_kind (inside [] body loop labels result) there kind)
        (embedded_rule es labels at n e)
        (statement_kind (around_of (inside [] body loop labels result)) there kind)

  -- a directive, wherever it stands: nothing is written
  pub record DirectiveIsGone (n : ℕ) (e : EmbData) : Type 0 where
    pub is_written : embedded n ≡ None
    pub gone : (body loop : Bool) (labels : Named (Unit {0})) (at : Place) (behind : List ℕ)
        (tops : Option (List TopData))
        → IsGone g (record { numbers = n ∷ behind; tops = tops })
        (record { numbers = behind; tops = tops })
        (checked_embedded.embedded_rule es body loop labels at n e) (embedded_rule es labels at n e)

  pub record EmbeddedAreCopied : Type 0 where
    pub executed : (n : ℕ) (e : EmbData) → slice_get es n ≡ Some e → is_directive e ≡ false
        → ExecutedIsCopied n e
    pub directives : (n : ℕ) (e : EmbData) → slice_get es n ≡ Some e → is_directive e ≡ true
        → DirectiveIsGone n e
