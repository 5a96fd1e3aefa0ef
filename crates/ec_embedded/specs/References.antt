-- References to host variables, names, values and lists of them: what the forms of embedded statements are made of.
use Rattle.std.specs.Prelude.{◌-◌, ◌^◌, true, false, nat_lt, List, [], ◌∷◌, ◌++◌, take, drop, length, fold, codes, ◌⊎◌, Option, Some, None, if◌then◌else◌, ◌==◌}
use Rattle.std.proofs.Common.{inl, inr}
use Rattle.ec_ctypes.specs.declared.types.arith.Arith.TheVariants.{Int, Long}
use Rattle.ec_ctypes.specs.trees.Embedded.{HostData, TextArgData, word_arg, host_arg, host_with_indicator, InputData, host_input, const_input, InsData, listed_ins, area_ins, OutsData, listed_outs, area_outs}
use Rattle.ec_ctypes.specs.trees.Exprs.{ExprData, integer, identifier, index, member, arrow}
use Rattle.ec_ctypes.specs.trees.Types.{arithmetic}
use Rattle.ec_embedded.specs.shapes.Shapes.{Shape, nothing, one, both, either, many, Tree}
use Rattle.ec_language.specs.Constants.{digits_value}
use Rattle.ec_language.specs.Letters.{Text, single_quote}
use Rattle.ec_language.specs.SqlTokens.{SqlToken}
use Rattle.ec_embedded.specs.Terminals.{Terminal, Begins, input, reference, keyword, any_word, glued_word, sign, colon, suffix_sign, glued_sign, glued_number, whole_number, input_number, input_minus, input_quote, plain_quote}

abbrev pub Form : Type 0
Form = Shape Terminal

abbrev pub Of : Form → Type 0
Of s = Tree SqlToken s

-- ---- forms that are made of others

abbrev pub row : List Form → Form
row [] = nothing
row (a ∷ []) = a
row (a ∷ b ∷ r) = both a (row (b ∷ r))

abbrev pub choice : Form → List Form → Form
choice a [] = a
choice a (b ∷ r) = either a (choice b r)

abbrev pub optional : Form → Form
optional a = either a nothing

-- more of them, each behind a comma
abbrev pub further : Form → Form
further a = many (both (one (sign (codes ","))) a)

-- with commas between
abbrev pub listed : Form → Form
listed a = both a (further a)

-- what is made of each of them
abbrev pub gathered : {A B : Type 0} → (A → B) → A → List (SqlToken × A) → List B
gathered f v vs = fold (λ bs p. bs ++ f p.1 ∷ []) (f v ∷ []) vs

abbrev pub word : Text → Form
word w = one (keyword w)

-- ---- texts

-- a doubled quote as one
abbrev pub undoubled : Text → Text
undoubled [] = []
undoubled (b ∷ []) = b ∷ []
undoubled (b ∷ c ∷ bs) =
    elim (b == single_quote) [ true ↦ b ∷ undoubled bs | false ↦ b ∷ undoubled (c ∷ bs) ]

-- what stands in a quote
abbrev pub unquoted : Text → Text
unquoted t = undoubled (take (length t - 2) (drop 1 t))

-- a decimal constant, of the first type that has it (ISO/IEC 9899:1999, 6.4.4.1). Leading zeros don't make it octal
abbrev pub decimal_constant : Text → ExprData
decimal_constant b = integer (digits_value 10 b)
    (arithmetic (if nat_lt (digits_value 10 b) (2 ^ 31) then Int else Long))

-- ---- references

-- `.m`, `->m`, `[1]` or `[i]`
unfoldable pub suffix_form : Form
suffix_form = choice (row (one (suffix_sign (codes ".")) ∷ one glued_word ∷ [])) (
    row (one (suffix_sign (codes "->")) ∷ one glued_word ∷ [])
    ∷ row (one (suffix_sign (codes "[")) ∷ either (one glued_word) (one glued_number)
    ∷ one (glued_sign (codes "]")) ∷ [])
    ∷ []
    )

abbrev pub index_of : SqlToken ⊎ SqlToken → ExprData
index_of (inl t) = identifier t.bytes
index_of (inr t) = decimal_constant t.bytes

abbrev pub with_suffix : ExprData → Of suffix_form → ExprData
unfolding suffix_form
with_suffix e (inl v) = member e v.1.bytes
with_suffix e (inr (inl v)) = arrow e v.1.bytes
with_suffix e (inr (inr v)) = index e (index_of v.1.0)

-- a word with its suffixes
unfoldable pub name_form : Form
name_form = both (one glued_word) (many suffix_form)

abbrev pub named : Of name_form → ExprData
unfolding name_form
named v = fold with_suffix (identifier v.0.bytes) v.1

abbrev pub reference_form : Begins → Form
reference_form b = both (one (colon b)) name_form

abbrev pub spelled_form : Form
spelled_form = both (word (codes "INDICATOR")) (reference_form reference)

-- the indicator of a host
unfoldable pub indicator_form : Form
indicator_form = choice (reference_form reference) (spelled_form ∷ nothing ∷ [])

abbrev pub indicator_of : Of indicator_form → Option ExprData
unfolding indicator_form
indicator_of (inl v) = Some (named v.1)
indicator_of (inr (inl v)) = Some (named v.1.1)
indicator_of (inr (inr v)) = None

-- the indicator of a host behind which a `:` begins another host
unfoldable pub spelled_indicator_form : Form
spelled_indicator_form = optional spelled_form

abbrev pub spelled_indicator_of : Of spelled_indicator_form → Option ExprData
unfolding spelled_indicator_form
spelled_indicator_of (inl v) = Some (named v.1.1)
spelled_indicator_of (inr v) = None

abbrev pub host_form : Begins → Form
host_form b = both (reference_form b) indicator_form

abbrev pub host_of : (b : Begins) → Of (host_form b) → HostData
host_of b v = record { value = named v.0.1; indicator = indicator_of v.1 }

abbrev pub spelled_host_form : Begins → Form
spelled_host_form b = both (reference_form b) spelled_indicator_form

abbrev pub spelled_host_of : (b : Begins) → Of (spelled_host_form b) → HostData
spelled_host_of b v = record { value = named v.0.1; indicator = spelled_indicator_of v.1 }

-- ---- names

abbrev pub text_of_host : HostData → TextArgData
text_of_host h =
    elim h.indicator [ None ↦ host_arg h.value | Some i ↦ host_with_indicator h.value i ]

-- a word, a quote or a host
unfoldable pub text_form : Form
text_form = choice (one any_word) (one plain_quote ∷ host_form reference ∷ [])

abbrev pub text_of : Of text_form → TextArgData
unfolding text_form
text_of (inl t) = word_arg t.bytes
text_of (inr (inl t)) = word_arg (unquoted t.bytes)
text_of (inr (inr h)) = text_of_host (host_of reference h)

unfoldable pub spelled_text_form : Form
spelled_text_form = choice (one any_word) (one plain_quote ∷ spelled_host_form reference ∷ [])

abbrev pub spelled_text_of : Of spelled_text_form → TextArgData
unfolding spelled_text_form
spelled_text_of (inl t) = word_arg t.bytes
spelled_text_of (inr (inl t)) = word_arg (unquoted t.bytes)
spelled_text_of (inr (inr h)) = text_of_host (spelled_host_of reference h)

-- a quote or a host: the text of a statement
unfoldable pub statement_text_form : Form
statement_text_form = either (one plain_quote) (host_form reference)

abbrev pub statement_text_of : Of statement_text_form → TextArgData
unfolding statement_text_form
statement_text_of (inl t) = word_arg (unquoted t.bytes)
statement_text_of (inr h) = text_of_host (host_of reference h)

-- ---- values

-- a number with or without `-`, or a quote
unfoldable pub constant_form : Form
constant_form =
    choice (one input_number) (both (one input_minus) (one whole_number) ∷ one input_quote ∷ [])

abbrev pub constant_of : Of constant_form → InputData
unfolding constant_form
constant_of (inl t) = const_input t.bytes
constant_of (inr (inl v)) = const_input (codes "-" ++ v.1.bytes)
constant_of (inr (inr t)) = const_input (unquoted t.bytes)

unfoldable pub value_form : Form
value_form = either (host_form input) constant_form

abbrev pub value_of : Of value_form → InputData
unfolding value_form
value_of (inl h) = host_input (host_of input h)
value_of (inr c) = constant_of c

unfoldable pub spelled_value_form : Form
spelled_value_form = either (spelled_host_form input) constant_form

abbrev pub spelled_value_of : Of spelled_value_form → InputData
unfolding spelled_value_form
spelled_value_of (inl h) = host_input (spelled_host_of input h)
spelled_value_of (inr c) = constant_of c

-- ---- lists

abbrev pub area_form : Form
area_form = row (word (codes "SQL") ∷ word (codes "DESCRIPTOR") ∷ text_form ∷ [])

unfoldable pub ins_form : Form
ins_form = either area_form (listed value_form)

abbrev pub ins_of : Of ins_form → InsData
unfolding ins_form
ins_of (inl v) = area_ins (text_of v.1.1)
ins_of (inr v) = listed_ins (gathered value_of v.0 v.1)

unfoldable pub outs_form : Form
outs_form = either area_form (listed (host_form reference))

abbrev pub outs_of : Of outs_form → OutsData
unfolding outs_form
outs_of (inl v) = area_outs (text_of v.1.1)
outs_of (inr v) = listed_outs (gathered (host_of reference) v.0 v.1)

-- USING with its list, or nothing
unfoldable pub using_form : Form
using_form = optional (both (word (codes "USING")) ins_form)

abbrev pub using_of : Of using_form → InsData
unfolding using_form
using_of (inl v) = ins_of v.1
using_of (inr v) = listed_ins []
