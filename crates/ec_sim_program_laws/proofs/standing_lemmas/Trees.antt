-- What holds of the embedded tokens of a source holds of the statements of its tree that they stand for.
use Rattle.std.proofs.Common.{◌≡◌, ℕ, Bool, true, false, List, [], ◌∷◌, ◌++◌, sym, ap, ◌∙◌, subst, Option, Some, None, Ok}
use Rattle.std.proofs.lemmas.Bool.{false≢true}
use Rattle.ec_base.specs.declared.line.Line.{Line}
use Rattle.ec_ctypes.specs.trees.Embedded.{EmbData}
use Rattle.ec_ctypes.specs.trees.Exprs.{ExprData, BaseData}
use Rattle.ec_ctypes.specs.trees.Tokens.{TokData, emb_token, TokenData}
use Rattle.ec_ctypes.specs.trees.Units.{UnitData}
use Rattle.ec_language.specs.Grammar.{PlacedTokens, no_counts}
use Rattle.ec_language.specs.Letters.{Text}
use Rattle.ec_language.specs.Productions.{Placed, placed_from, section_behind, placed, Start, start_of, Terminal, is, number_in, Sym, Value, Rank, rank_operators, operators, more_operands, more_operand, Element, tok, count, sym as ofs, nest, whole, own, Row, Node, Nodes, Follows, Production, productions, OpenStatement, ForStart, for_expression, for_declaration, BehindName, function, object, External, external_top, with_else, for_loop}
use Rattle.ec_language.specs.Productions as g
use Rattle.ec_language.specs.Syntax.{limits, TreeOrStop, tree}
use Rattle.ec_language.proofs.Classes.{turn_not}
use Rattle.ec_sim_program_laws.specs.program.Shape.{IsThere, IsDirective}
use Rattle.ec_sim_program_laws.specs.standing.There.{StmtIsThere, StmtsAreThere, BodyIsThere, TopIsThere, TopsAreThere}
use Rattle.ec_sim_program_laws.proofs.standing_lemmas.Derived.{Each, OfElement, OfRow, Keeps, holds}

-- by the embedded statements of the program
module _ (es : List EmbData) where
  -- ---- tokens, and what symbols stand for

  -- of a token on this line
  abbrev pub TokenIsThere : Line → TokData → Type 0
  TokenIsThere line (emb_token n executed) = IsThere es line n × (executed ≡ false → IsDirective es n)
  TokenIsThere line _ = Unit {0}

  abbrev PlacedAreThere : PlacedTokens → Type 0
  PlacedAreThere [] = Unit {0}
  PlacedAreThere (t ∷ w) = TokenIsThere t.token.line t.token.tok × PlacedAreThere w

  abbrev BehindIsThere : BehindName → Type 0
  BehindIsThere (function params body) = BodyIsThere es body
  BehindIsThere (object lengths init others) = Unit {0}

  abbrev TailIsThere : Option (ℕ × Text × BehindName) → Type 0
  TailIsThere None = Unit {0}
  TailIsThere (Some x) = BehindIsThere x.2

  abbrev ElseIsThere : Option OpenStatement → Type 0
  ElseIsThere None = Unit {0}
  ElseIsThere (Some s) = StmtIsThere es s.statement

  abbrev ValueIsThere : (s : Sym) → Value s → Type 0
  ValueIsThere g.unit v = TopsAreThere es v.tops
  ValueIsThere g.items v = TopsAreThere es v
  ValueIsThere g.item v = TopIsThere es v
  ValueIsThere g.external v = TailIsThere v.tail
  ValueIsThere g.external_tail v = TailIsThere v
  ValueIsThere g.behind_name v = BehindIsThere v
  ValueIsThere g.body v = BodyIsThere es v
  ValueIsThere g.block v = StmtsAreThere es v
  ValueIsThere g.block_items v = StmtsAreThere es v
  ValueIsThere g.block_item v = StmtIsThere es v
  ValueIsThere g.statement v = StmtIsThere es v.statement
  ValueIsThere g.else_option v = ElseIsThere v
  ValueIsThere _ v = Unit {0}

  -- If the tokens of a symbol are there, so is what it stands for.
  abbrev There : (s : Sym) → PlacedTokens → Value s → Type 0
  There s w v = PlacedAreThere w → ValueIsThere s v

  parted : (u w : PlacedTokens) → PlacedAreThere (u ++ w) → PlacedAreThere u × PlacedAreThere w
  parted [] w h = (tt, h)
  parted (t ∷ u) w h = let p = parted u w h.1 in ((h.0, p.0), p.1)

  -- ---- rows

  abbrev TerminalIsThere : Terminal → Line → TokData → Type 0
  TerminalIsThere g.executable line k = IsThere es line (number_in k)
  TerminalIsThere g.directive line k = IsThere es line (number_in k) × IsDirective es (number_in k)
  TerminalIsThere _ line k = Unit {0}

  abbrev ElementIsThere : (i : Element) → Node i → Type 0
  ElementIsThere (tok t) v = TerminalIsThere t v.token.line v.token.tok
  ElementIsThere (count k t) v = TerminalIsThere t v.token.line v.token.tok
  ElementIsThere (ofs s) v = ValueIsThere s v
  ElementIsThere (nest s) v = ValueIsThere s v
  ElementIsThere (whole s) v = ValueIsThere s v
  ElementIsThere (own s) v = ValueIsThere s v

  abbrev RowIsThere : (r : Row) → Nodes r → Type 0
  RowIsThere [] vs = Unit {0}
  RowIsThere (i ∷ r) vs = ElementIsThere i vs.0 × RowIsThere r vs.1

  terminal_is : (t : Terminal) (line : Line) (k : TokData) → is t k ≡ true → TokenIsThere line k → TerminalIsThere t line k
  terminal_is g.executable line (emb_token n e) h j = j.0
  terminal_is g.directive line (emb_token n e) h j = (j.0, j.1 (turn_not e h))
  terminal_is g.executable line _ h j = absurd (false≢true h)
  terminal_is g.directive line _ h j = absurd (false≢true h)
  terminal_is _ line _ h j = tt

  token_is : (t : Terminal) (w : PlacedTokens) (v : Placed) → w ≡ v ∷ [] → is t v.token.tok ≡ true → PlacedAreThere w → TerminalIsThere t v.token.line v.token.tok
  token_is t w v e h j = let k : PlacedAreThere (v ∷ []) = subst (λ x. PlacedAreThere x) e j in terminal_is t v.token.line v.token.tok h k.0

  element_is : (i : Element) (w : PlacedTokens) (v : Node i) → OfElement There i w v → PlacedAreThere w → ElementIsThere i v
  element_is (tok t) w v h j = token_is t w v h.0 h.1 j
  element_is (count k t) w v h j = token_is t w v h.0 h.1 j
  element_is (ofs s) w v h j = h j
  element_is (nest s) w v h j = h j
  element_is (whole s) w v h j = h j
  element_is (own s) w v h j = h j

  row_is : (follows : Follows) (r : Row) (w : PlacedTokens) (vs : Nodes r) → OfRow There follows r w vs → PlacedAreThere w → RowIsThere r vs
  row_is follows [] w vs h j = tt
  row_is follows (i ∷ r) w vs h j =
      let p = parted h.0 h.1 (subst (λ x. PlacedAreThere x) h.2 j) in
      (element_is i h.0 vs.0 h.3 p.0, row_is follows r h.1 vs.1 h.4 p.1)

  -- a row that begins with a token begins on its line
  abbrev BeginsOn : (i : Element) → Line → Node i → Type 0
  BeginsOn (tok t) line v = line ≡ v.token.line
  BeginsOn (count k t) line v = Unit {0}
  BeginsOn (ofs s) line v = Unit {0}
  BeginsOn (nest s) line v = Unit {0}
  BeginsOn (whole s) line v = Unit {0}
  BeginsOn (own s) line v = Unit {0}

  abbrev RowBeginsOn : (r : Row) → Line → Nodes r → Type 0
  RowBeginsOn [] line vs = Unit {0}
  RowBeginsOn (i ∷ r) line vs = BeginsOn i line vs.0

  element_begins : (i : Element) (w u rest : PlacedTokens) (v : Node i) → w ≡ u ++ rest → OfElement There i u v → BeginsOn i (start_of w).line v
  element_begins (tok t) w u rest v e h = ap (λ x. (start_of x).line) (e ∙ ap (λ x. x ++ rest) h.0)
  element_begins (count k t) w u rest v e h = tt
  element_begins (ofs s) w u rest v e h = tt
  element_begins (nest s) w u rest v e h = tt
  element_begins (whole s) w u rest v e h = tt
  element_begins (own s) w u rest v e h = tt

  row_begins : (follows : Follows) (r : Row) (w : PlacedTokens) (vs : Nodes r) → OfRow There follows r w vs → RowBeginsOn r (start_of w).line vs
  row_begins follows [] w vs h = tt
  row_begins follows (i ∷ r) w vs h = element_begins i w h.0 h.1 vs.0 h.2 h.3

  -- What the production makes is there, if its row is.
  abbrev Made : (s : Sym) → Production (Value s) → Type 0
  Made s a = (start : Start) (vs : Nodes a.row) → RowBeginsOn a.row start.line vs → RowIsThere a.row vs → ValueIsThere s (a.make start vs)

  keeps : (s : Sym) (a : Production (Value s)) → Made s a → Keeps There s a
  keeps s a f w vs h j = f (start_of w) vs (row_begins a.follows a.row w vs h) (row_is a.follows a.row w vs h j)

  abbrev AllMade : (s : Sym) → List (Production (Value s)) → Type 0
  AllMade s [] = Unit {0}
  AllMade s (a ∷ rest) = Made s a × AllMade s rest

  all_keep : (s : Sym) (ps : List (Production (Value s))) → AllMade s ps → Each (Keeps There s) ps
  all_keep s [] h = tt
  all_keep s (a ∷ rest) h = (keeps s a h.0, all_keep s rest h.1)

  -- ---- productions

  -- a symbol that stands for no statements
  none : (s : Sym) → ((v : Value s) → ValueIsThere s v) → (ps : List (Production (Value s))) → AllMade s ps
  none s f [] = tt
  none s f (a ∷ rest) = ((λ start x b h. f (a.make start x)), none s f rest)

  external_is : (start : Start) (b : BaseData) (tail : Option (ℕ × Text × BehindName)) → TailIsThere tail → TopIsThere es (external_top start b tail)
  external_is start b None h = tt
  external_is start b (Some (n, x, function params body)) h = h
  external_is start b (Some (n, x, object lengths init others)) h = tt

  else_is : (start : Start) (e : ExprData) (s : OpenStatement) (o : Option OpenStatement) → StmtIsThere es s.statement → ElseIsThere o → StmtIsThere es (with_else start e s o).statement
  else_is start e s None h k = (h, tt)
  else_is start e s (Some other) h k = (h, k)

  loop_is : (start : Start) (first : ForStart) (condition step : Option ExprData) (s : OpenStatement) → StmtIsThere es s.statement → StmtIsThere es (for_loop start first condition step s).statement
  loop_is start (for_expression e) condition step s h = h
  loop_is start (for_declaration d) condition step s h = (tt, (h, tt))

  all_made : (s : Sym) → AllMade s (productions s)
  all_made g.unit = ((λ start x b h. h.0), tt)
  all_made g.items = ((λ start x b h. tt), ((λ start x b h. (h.0, h.1.0)), tt))
  all_made g.item = (
    (λ start x b h. tt),
    (
      (λ start x b h. h.0.1),
      ((λ start x b h. tt), ((λ start x b h. tt), ((λ start x b h. external_is start x.0.base x.0.tail h.0), ((λ start x b h. external_is start x.1.0.base x.1.0.tail h.1.0), tt)))),
    ),
  )
  all_made g.external = ((λ start x b h. h.1.0), tt)
  all_made g.external_tail = ((λ start x b h. tt), ((λ start x b h. h.1.1.0), tt))
  all_made g.behind_name = ((λ start x b h. h.1.0), ((λ start x b h. tt), tt))
  all_made g.body = ((λ start x b h. tt), ((λ start x b h. h.0), tt))
  all_made g.block = ((λ start x b h. h.1.0), tt)
  all_made g.block_items = ((λ start x b h. tt), ((λ start x b h. (h.0, h.1.0)), tt))
  all_made g.block_item = ((λ start x b h. tt), ((λ start x b h. tt), ((λ start x b h. tt), ((λ start x b h. h.0), tt))))
  all_made g.statement = (
    (λ start x b h. tt),
    (
      (λ start x b h. tt),
      (
        (λ start x b h. h.0),
        (
          (λ start x b h. h.1.1.0),
          (
            (λ start x b h. subst (λ line. IsThere es line (number_in x.0.token.tok)) (sym b) h.0),
            (
              (λ start x b h. subst (λ line. IsThere es line (number_in x.0.token.tok)) (sym b) h.0.0),
              (
                (λ start x b h. else_is start x.1.0 x.1.1.0 x.1.1.1.0 h.1.1.0 h.1.1.1.0),
                (
                  (λ start x b h. h.1.1.0),
                  (
                    (λ start x b h. h.1.0),
                    (
                      (λ start x b h. loop_is start x.1.0.first x.1.0.condition x.1.0.step x.1.1.0 h.1.1.0),
                      ((λ start x b h. tt), ((λ start x b h. tt), ((λ start x b h. tt), ((λ start x b h. tt), tt)))),
                    ),
                  ),
                ),
              ),
            ),
          ),
        ),
      ),
    ),
  )
  all_made g.else_option = ((λ start x b h. tt), ((λ start x b h. h.1.0), tt))
  all_made g.parameter_part = none g.parameter_part (λ v. tt) (productions g.parameter_part)
  all_made g.parameters = none g.parameters (λ v. tt) (productions g.parameters)
  all_made g.more_parameters = none g.more_parameters (λ v. tt) (productions g.more_parameters)
  all_made g.parameter = none g.parameter (λ v. tt) (productions g.parameter)
  all_made g.parameter_name = none g.parameter_name (λ v. tt) (productions g.parameter_name)
  all_made g.specifiers = none g.specifiers (λ v. tt) (productions g.specifiers)
  all_made g.base = none g.base (λ v. tt) (productions g.base)
  all_made g.more_words = none g.more_words (λ v. tt) (productions g.more_words)
  all_made g.constants = none g.constants (λ v. tt) (productions g.constants)
  all_made g.tag_or_members = none g.tag_or_members (λ v. tt) (productions g.tag_or_members)
  all_made g.members_option = none g.members_option (λ v. tt) (productions g.members_option)
  all_made g.members = none g.members (λ v. tt) (productions g.members)
  all_made g.more_members = none g.more_members (λ v. tt) (productions g.more_members)
  all_made g.member_declaration = none g.member_declaration (λ v. tt) (productions g.member_declaration)
  all_made g.stars = none g.stars (λ v. tt) (productions g.stars)
  all_made g.declarator_part = none g.declarator_part (λ v. tt) (productions g.declarator_part)
  all_made g.declarators_option = none g.declarators_option (λ v. tt) (productions g.declarators_option)
  all_made g.more_declarators = none g.more_declarators (λ v. tt) (productions g.more_declarators)
  all_made g.lengths = none g.lengths (λ v. tt) (productions g.lengths)
  all_made g.length_part = none g.length_part (λ v. tt) (productions g.length_part)
  all_made g.length_option = none g.length_option (λ v. tt) (productions g.length_option)
  all_made g.initializer_option = none g.initializer_option (λ v. tt) (productions g.initializer_option)
  all_made g.initializer = none g.initializer (λ v. tt) (productions g.initializer)
  all_made g.initializer_list = none g.initializer_list (λ v. tt) (productions g.initializer_list)
  all_made g.more_initializers = none g.more_initializers (λ v. tt) (productions g.more_initializers)
  all_made g.declaration = none g.declaration (λ v. tt) (productions g.declaration)
  all_made g.for_head = none g.for_head (λ v. tt) (productions g.for_head)
  all_made g.for_start = none g.for_start (λ v. tt) (productions g.for_start)
  all_made g.expression_option = none g.expression_option (λ v. tt) (productions g.expression_option)
  all_made g.parenthesized = none g.parenthesized (λ v. tt) (productions g.parenthesized)
  all_made g.assignment = none g.assignment (λ v. tt) (productions g.assignment)
  all_made g.assignment_option = none g.assignment_option (λ v. tt) (productions g.assignment_option)
  all_made g.assignment_operator = none g.assignment_operator (λ v. tt) (productions g.assignment_operator)
  all_made (operators r) = none (operators r) (λ v. tt) (productions (operators r))
  all_made (more_operands r) = none (more_operands r) (λ v. tt) (productions (more_operands r))
  all_made (more_operand r) = none (more_operand r) (λ v. tt) (productions (more_operand r))
  all_made g.cast_part = none g.cast_part (λ v. tt) (productions g.cast_part)
  all_made g.type_in_parentheses = none g.type_in_parentheses (λ v. tt) (productions g.type_in_parentheses)
  all_made g.type_name = none g.type_name (λ v. tt) (productions g.type_name)
  all_made g.unary_part = none g.unary_part (λ v. tt) (productions g.unary_part)
  all_made g.unary_operator = none g.unary_operator (λ v. tt) (productions g.unary_operator)
  all_made g.size_operand = none g.size_operand (λ v. tt) (productions g.size_operand)
  all_made g.postfix = none g.postfix (λ v. tt) (productions g.postfix)
  all_made g.postfix_parts = none g.postfix_parts (λ v. tt) (productions g.postfix_parts)
  all_made g.postfix_part = none g.postfix_part (λ v. tt) (productions g.postfix_part)
  all_made g.index_part = none g.index_part (λ v. tt) (productions g.index_part)
  all_made g.argument_part = none g.argument_part (λ v. tt) (productions g.argument_part)
  all_made g.arguments = none g.arguments (λ v. tt) (productions g.arguments)
  all_made g.more_arguments = none g.more_arguments (λ v. tt) (productions g.more_arguments)
  all_made g.primary = none g.primary (λ v. tt) (productions g.primary)

  -- ---- trees

  abbrev pub TokensAreThere : List TokenData → Type 0
  TokensAreThere [] = Unit {0}
  TokensAreThere (t ∷ ts) = TokenIsThere t.line t.tok × TokensAreThere ts

  placed_are : (section : Bool) (ts : List TokenData) → TokensAreThere ts → PlacedAreThere (placed_from section ts)
  placed_are section [] h = tt
  placed_are section (t ∷ ts) h = (h.0, placed_are (section_behind section t.tok) ts h.1)

  pub tree_is : (ts : List TokenData) (u : UnitData) → TokensAreThere ts → TreeOrStop ts (Ok u) → TopsAreThere es u.tops
  tree_is ts u h (tree v d) =
      holds There limits (λ s. all_keep s (productions s) (all_made s)) d.0 limits.nesting no_counts g.unit (placed ts) v d.1 d.2 (placed_are false ts h)
