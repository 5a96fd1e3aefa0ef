-- Which tokens may go on with a symbol where a shorter list of it ends, and where `else` may.
use Rattle.std.proofs.Common.{Bool, true, false, Option, Some, None}
use Rattle.ec_language.specs.Productions.{OpenStatement, Sym, Value, Rank, or_rank, and_rank, bit_or_rank, bit_xor_rank, bit_and_rank, equal_rank, relation_rank, shift_rank, add_rank, multiply_rank, Element, tok, count, sym as ofs, nest, whole, own, Node}
use Rattle.ec_language.specs.Productions as g
use Rattle.ec_grammar.specs.declared.kind.Kind.{Kind}
use Rattle.ec_ctypes.specs.declared.text.token.Punct.TheVariants as p
use Rattle.ec_grammar.specs.declared.kind.Kind.TheVariants as k
use Rattle.ec_grammar.specs.Starts.{is_star, is_comma, is_left_bracket, is_left_brace, is_const, is_name, is_else, begins_type, begins_postfix_part, begins_expression, begins_initializer, begins_declarator, begins_block_item, begins_item}
use Rattle.ec_grammar.specs.ReadExpressions.{binary_operator, assignment_operator}

abbrev pub either : Bool → Bool → Bool
either a b = elim a [ true ↦ true | false ↦ b ]

abbrev pub is_there : {A : Type 0} → Option A → Bool
is_there None = false
is_there (Some a) = true

-- an operator of the rank
abbrev pub is_operator : Rank → Kind → Bool
is_operator r j = is_there (binary_operator r j)

abbrev pub sets : Kind → Bool
sets j = is_there (assignment_operator j)

-- what goes on with an operand of the rank
abbrev pub behind_multiply : Kind → Bool
behind_multiply j = begins_postfix_part j

abbrev pub behind_add : Kind → Bool
behind_add j = either (is_operator multiply_rank j) (behind_multiply j)

abbrev pub behind_shift : Kind → Bool
behind_shift j = either (is_operator add_rank j) (behind_add j)

abbrev pub behind_relation : Kind → Bool
behind_relation j = either (is_operator shift_rank j) (behind_shift j)

abbrev pub behind_equal : Kind → Bool
behind_equal j = either (is_operator relation_rank j) (behind_relation j)

abbrev pub behind_bit_and : Kind → Bool
behind_bit_and j = either (is_operator equal_rank j) (behind_equal j)

abbrev pub behind_bit_xor : Kind → Bool
behind_bit_xor j = either (is_operator bit_and_rank j) (behind_bit_and j)

abbrev pub behind_bit_or : Kind → Bool
behind_bit_or j = either (is_operator bit_xor_rank j) (behind_bit_xor j)

abbrev pub behind_and : Kind → Bool
behind_and j = either (is_operator bit_or_rank j) (behind_bit_or j)

abbrev pub behind_or : Kind → Bool
behind_or j = either (is_operator and_rank j) (behind_and j)

abbrev pub behind_operand : Rank → Kind → Bool
behind_operand or_rank j = behind_or j
behind_operand and_rank j = behind_and j
behind_operand bit_or_rank j = behind_bit_or j
behind_operand bit_xor_rank j = behind_bit_xor j
behind_operand bit_and_rank j = behind_bit_and j
behind_operand equal_rank j = behind_equal j
behind_operand relation_rank j = behind_relation j
behind_operand shift_rank j = behind_shift j
behind_operand add_rank j = behind_add j
behind_operand multiply_rank j = behind_multiply j

abbrev pub behind_operators : Rank → Kind → Bool
behind_operators r j = either (is_operator r j) (behind_operand r j)

abbrev pub behind_expression : Kind → Bool
behind_expression j = either (sets j) (behind_operators or_rank j)

-- the words and braces of a type
abbrev pub behind_type : Kind → Bool
behind_type k.Const = true
behind_type k.TypeWord = true
behind_type (k.Mark p.LeftBrace) = true
behind_type _ = false

abbrev pub behind_words : Kind → Bool
behind_words k.Const = true
behind_words k.TypeWord = true
behind_words _ = false

abbrev pub behind_stars : Kind → Bool
behind_stars j = either (is_star j) (is_const j)

abbrev pub behind_parameter : Kind → Bool
behind_parameter j = either (behind_type j) (either (behind_stars j) (either (is_name j) (is_left_bracket j)))

abbrev pub extends : Sym → Kind → Bool
extends g.items j = begins_item j
extends g.parameters j = either (begins_type j) (either (is_comma j) (behind_parameter j))
extends g.more_parameters j = either (is_comma j) (behind_parameter j)
extends g.parameter j = behind_parameter j
extends g.parameter_name j = is_name j
extends g.specifiers j = behind_type j
extends g.base j = behind_type j
extends g.more_words j = behind_words j
extends g.constants j = is_const j
extends g.tag_or_members j = is_left_brace j
extends g.members_option j = is_left_brace j
extends g.more_members j = begins_type j
extends g.stars j = behind_stars j
extends g.declarator_part j = behind_expression j
extends g.declarators_option j = either (begins_declarator j) (either (is_comma j) (behind_expression j))
extends g.more_declarators j = either (is_comma j) (behind_expression j)
extends g.lengths j = is_left_bracket j
extends g.length_option j = either (begins_expression j) (behind_operators or_rank j)
extends g.initializer_option j = behind_expression j
extends g.initializer j = behind_expression j
extends g.more_initializers j = either (is_comma j) (either (begins_initializer j) (behind_expression j))
extends g.block_items j = either (begins_block_item j) (is_else j)
extends g.block_item j = is_else j
extends g.statement j = is_else j
extends g.else_option j = is_else j
extends g.expression_option j = either (begins_expression j) (behind_expression j)
extends g.assignment j = behind_expression j
extends g.assignment_option j = behind_expression j
extends (g.operators r) j = behind_operators r j
extends (g.more_operands r) j = behind_operators r j
extends (g.more_operand r) j = behind_operand r j
extends g.cast_part j = begins_postfix_part j
extends g.type_name j = either (behind_type j) (behind_stars j)
extends g.unary_part j = begins_postfix_part j
extends g.size_operand j = begins_postfix_part j
extends g.postfix j = begins_postfix_part j
extends g.postfix_parts j = begins_postfix_part j
extends g.arguments j = either (begins_expression j) (either (is_comma j) (behind_expression j))
extends g.more_arguments j = either (is_comma j) (behind_expression j)
extends _ j = false

abbrev pub open_other : Option OpenStatement → Bool
open_other None = true
open_other (Some s) = s.is_open

-- an `else` may go on with this tree
abbrev pub opens : (s : Sym) → Value s → Bool
opens g.statement v = v.is_open
opens g.else_option v = open_other v
opens _ v = true

abbrev pub plain : Sym → Bool
plain g.statement = false
plain g.else_option = false
plain _ = true

-- where the symbol extends so, and `else` may only at such a tree
abbrev pub at_tree : Bool → Bool → Bool → Bool
at_tree a e o = elim a [ true ↦ elim e [ true ↦ o | false ↦ true ] | false ↦ false ]

abbrev pub ext : (i : Element) → Node i → Kind → Bool
ext (tok t) v j = false
ext (count n t) v j = false
ext (ofs s) v j = at_tree (extends s j) (is_else j) (opens s v)
ext (nest s) v j = at_tree (extends s j) (is_else j) (opens s v)
ext (whole s) v j = at_tree (extends s j) (is_else j) (opens s v)
ext (own s) v j = at_tree (extends s j) (is_else j) (opens s v)

-- whatever the tree
abbrev pub ext_most : Element → Kind → Bool
ext_most (tok t) j = false
ext_most (count n t) j = false
ext_most (ofs s) j = extends s j
ext_most (nest s) j = extends s j
ext_most (whole s) j = extends s j
ext_most (own s) j = extends s j

abbrev pub ext_sure : Sym → Kind → Bool
ext_sure s j = at_tree (extends s j) (is_else j) (plain s)
