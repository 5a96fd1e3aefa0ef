-- Programs in which statements stand as the grammar has them: no declaration is a body or has a label, each embedded statement has its line, and each VARCHAR ends in a length.
use Rattle.std.specs.Prelude.{◌≡◌, ℕ, true, List, [], ◌∷◌, Option, Some, None, slice_get}
use Rattle.ec_base.specs.declared.line.Line.{Line}
use Rattle.ec_ctypes.specs.trees.Embedded.{EmbData}
use Rattle.ec_ctypes.specs.trees.Exprs.{ExprData}
use Rattle.ec_ctypes.specs.trees.Stmts.{StmtData, stmt, StmtKindData, empty_stmt, expr_stmt, block_stmt, if_stmt, while_stmt, do_stmt, for_stmt, break_stmt, continue_stmt, return_stmt, goto_stmt, label_stmt, decl_stmt, emb_stmt, mark_stmt, StmtList, no_stmts, stmts, StmtOption, no_stmt, some_stmt}
use Rattle.ec_ctypes.specs.trees.Units.{ParamData, TopData, include_top, directive_top, decl_top, func_top, mark_top}
use Rattle.ec_typing_defs.specs.statement_parts.Handlers.{is_directive}
use Rattle.ec_sim_statement_laws.specs.expression.Lengths.{HaveLengths, BaseHasLengths, DimsHaveLengths, DeclHasLengths}

abbrev pub OptionHasLengths : Option ExprData → Type 0
OptionHasLengths None = Unit {0}
OptionHasLengths (Some e) = HaveLengths e

abbrev pub ParamsHaveLengths : List ParamData → Type 0
ParamsHaveLengths [] = Unit {0}
ParamsHaveLengths (p ∷ ps) =
    BaseHasLengths p.base × DimsHaveLengths p.dims × ParamsHaveLengths ps

-- by the embedded statements of the program
module _ (es : List EmbData) where
  -- the embedded statement of this number is there, and has this line
  pub record IsThere (line : Line) (n : ℕ) : Type 0 where
    pub emb : EmbData
    pub is : slice_get es n ≡ Some emb
    pub on : emb.line ≡ line

  abbrev mutual
    -- a statement that stands alone
    pub StandsAlone : StmtData → Type 0
    StandsAlone (stmt line kind) = KindStandsAlone line kind

    pub KindStandsAlone : Line → StmtKindData → Type 0
    KindStandsAlone line empty_stmt = Unit {0}
    KindStandsAlone line (expr_stmt e) = HaveLengths e
    KindStandsAlone line (block_stmt ss) = ItemsStand ss
    KindStandsAlone line (if_stmt e s other) = HaveLengths e × StandsAlone s × OtherStands other
    KindStandsAlone line (while_stmt e s) = HaveLengths e × StandsAlone s
    KindStandsAlone line (do_stmt s e) = StandsAlone s × HaveLengths e
    KindStandsAlone line (for_stmt x y z s) =
        OptionHasLengths x × OptionHasLengths y × OptionHasLengths z × StandsAlone s
    KindStandsAlone line break_stmt = Unit {0}
    KindStandsAlone line continue_stmt = Unit {0}
    KindStandsAlone line (return_stmt e) = OptionHasLengths e
    KindStandsAlone line (goto_stmt l) = Unit {0}
    KindStandsAlone line (label_stmt l s) = StandsAlone s
    KindStandsAlone line (decl_stmt d) = ⊥
    KindStandsAlone line (emb_stmt n) = IsThere line n
    KindStandsAlone line (mark_stmt opens) = Unit {0}

    -- the items of a block
    pub ItemsStand : StmtList → Type 0
    ItemsStand no_stmts = Unit {0}
    ItemsStand (stmts s ss) = ItemStands s × ItemsStand ss

    pub ItemStands : StmtData → Type 0
    ItemStands (stmt line (decl_stmt d)) = DeclHasLengths d
    ItemStands (stmt line kind) = KindStandsAlone line kind

    pub OtherStands : StmtOption → Type 0
    OtherStands no_stmt = Unit {0}
    OtherStands (some_stmt s) = StandsAlone s

  abbrev pub BodyStands : Option StmtList → Type 0
  BodyStands None = Unit {0}
  BodyStands (Some ss) = ItemsStand ss

  -- outside of functions an embedded statement is a directive
  pub record IsDirective (n : ℕ) : Type 0 where
    pub emb : EmbData
    pub is : slice_get es n ≡ Some emb
    pub directive : is_directive emb ≡ true

  abbrev pub TopStands : TopData → Type 0
  TopStands (include_top bytes) = Unit {0}
  TopStands (directive_top n) = IsDirective n
  TopStands (decl_top d) = DeclHasLengths d
  TopStands (func_top f) = BaseHasLengths f.base × ParamsHaveLengths f.params × BodyStands f.body
  TopStands (mark_top opens line) = Unit {0}

  abbrev pub TopsStand : List TopData → Type 0
  TopsStand [] = Unit {0}
  TopsStand (t ∷ ts) = TopStands t × TopsStand ts
