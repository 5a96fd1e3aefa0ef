-- References, names, values and lists of them, read token by token: the same as the forms, in the steps that code takes.
use Rattle.std.specs.Prelude.{◌≡◌, ◌≢◌, ◌^◌, nat_lt, if◌then◌else◌, ℕ, zero, suc, Bool, true, false, List, [], ◌∷◌, ◌++◌, length, codes, Option, Some, None, Result, Ok, Err}
use Rattle.ec_ctypes.specs.trees.Embedded.{HostData, TextArgData, word_arg, InputData, host_input, const_input, InsData, listed_ins, area_ins, OutsData, listed_outs, area_outs}
use Rattle.ec_ctypes.specs.trees.Exprs.{ExprData, integer, identifier, index, member, arrow}
use Rattle.ec_ctypes.specs.declared.types.arith.Arith.TheVariants.{Int, Long}
use Rattle.ec_ctypes.specs.trees.Types.{arithmetic}
use Rattle.ec_language.specs.Constants.{digits_value}
use Rattle.ec_embedded.specs.declared.shapes.failure.Failure.{Failure}
use Rattle.ec_embedded.specs.declared.shapes.failure.Failure.TheVariants.{OutOfMemory}
use Rattle.ec_embedded.specs.shapes.ReadShapes.{done, stopped, and_then, is_next_among, read_one}
use Rattle.ec_language.specs.Letters.{Text}
use Rattle.ec_language.specs.SqlTokens.{SqlToken}
use Rattle.ec_embedded.specs.Terminals.{Counts, Terminal, alphabet, Begins, reference, input, keyword, any_word, glued_word, glued_number, sign, colon, suffix_sign, glued_sign, plain_quote, input_number, input_minus, whole_number, input_quote}
use Rattle.ec_embedded.specs.References.{unquoted, decimal_constant, text_of_host}
use Rattle.ec_embedded.specs.ServerText.{Tokens, Reading}

-- the tokens that are left, and what is counted
pub record State : Type 0 where
  pub tokens : Tokens
  pub counts : Counts

abbrev pub Reader : Type 0 → Type 0
Reader A = Counts → Tokens → Reading A

abbrev pub returns : {A : Type 0} → A → Reader A
returns v = λ n w. done v n w

infixl 10 ◌>>=◌
abbrev pub ◌>>=◌ : {A B : Type 0} → Reader A → (A → Reader B) → Reader B
p >>= f = λ n w. and_then (p n w) f

infixl 10 ◌>>◌
abbrev pub ◌>>◌ : {A B : Type 0} → Reader A → Reader B → Reader B
p >> q = p >>= (λ _. q)

-- whether the next token is such a one
abbrev pub next_is : Terminal → Tokens → Bool
next_is t w = is_next_among alphabet (t ∷ []) w

abbrev pub taken : Terminal → Reader SqlToken
taken t = read_one alphabet t

abbrev pub if_next : {A : Type 0} → Terminal → Reader A → Reader A → Reader A
if_next t p q = λ n w. elim (next_is t w) [ true ↦ p n w | false ↦ q n w ]

-- turns that go on with what the ones before have made
abbrev pub turns_from : {A : Type 0} → (Tokens → Bool) → (A → Reader A) → ℕ → A → Reader A
turns_from goes f zero a n w = done a n w
turns_from goes f (suc k) a n w =
    elim (goes w) [
      | true ↦ and_then (f a n w) (λ b m r. turns_from goes f k b m r)
      | false ↦ done a n w
    ]

-- what code that reads ensures, unless memory fails
abbrev pub Reads : {A B : Type 0} → (B → A) → Reading A → Result B Failure → State → Type 0
Reads view o (Ok b) new = o ≡ done (view b) new.counts new.tokens
Reads view o (Err e) new = e ≢ OutOfMemory → o ≡ stopped e

-- by this reader, from one state to another
abbrev pub ReadsBy : {A B : Type 0} → (B → A) → Reader A → State → Result B Failure → State
    → Type 0
ReadsBy view p old result new = Reads view (p old.counts old.tokens) result new

-- The next token is taken, whatever it is, and nothing is counted; of none, all stays.
abbrev pub TakesAny : State → Option SqlToken → State → Type 0
TakesAny old (Some t) new = (old.tokens ≡ t ∷ new.tokens) × (new.counts ≡ old.counts)
TakesAny old None new = (old.tokens ≡ []) × (new ≡ old)

-- ---- numbers

-- the constant of this value, of the first type that has it
abbrev pub integer_constant : ℕ → ExprData
integer_constant n = integer n (arithmetic (if nat_lt n (2 ^ 31) then Int else Long))

-- digits with a value that a long has
abbrev pub FitsLong : Text → Type 0
FitsLong digits = nat_lt (digits_value 10 digits) (2 ^ 63) ≡ true

-- ---- references

abbrev pub place : Reader ExprData
place = if_next glued_word (taken glued_word >>= (λ t. returns (identifier t.bytes)))
    (taken glued_number >>= (λ t. returns (decimal_constant t.bytes)))

abbrev pub member_behind : ExprData → Reader ExprData
member_behind e =
    taken (suffix_sign (codes ".")) >> (taken glued_word >>= (λ t. returns (member e t.bytes)))

abbrev pub arrow_behind : ExprData → Reader ExprData
arrow_behind e =
    taken (suffix_sign (codes "->")) >> (taken glued_word >>= (λ t. returns (arrow e t.bytes)))

abbrev pub index_behind : ExprData → Reader ExprData
index_behind e = taken (suffix_sign (codes "[")) >>
    (place >>= (λ i. taken (glued_sign (codes "]")) >> returns (index e i)))

unfoldable pub suffix_behind : ExprData → Reader ExprData
suffix_behind e = if_next (suffix_sign (codes ".")) (member_behind e)
    (if_next (suffix_sign (codes "->")) (arrow_behind e) (index_behind e))

abbrev pub begins_suffix : Tokens → Bool
begins_suffix w = is_next_among alphabet
    (suffix_sign (codes ".") ∷ suffix_sign (codes "->") ∷ suffix_sign (codes "[") ∷ []) w

unfoldable pub suffixes_behind : ExprData → Reader ExprData
suffixes_behind e = λ n w. turns_from begins_suffix suffix_behind (length w) e n w

-- the name of a variable with its suffixes
unfoldable pub named_place : Reader ExprData
named_place = taken glued_word >>= (λ t. suffixes_behind (identifier t.bytes))

unfoldable pub referenced : Begins → Reader ExprData
referenced b = taken (colon b) >> named_place

unfoldable pub spelled_indicator : Reader (Option ExprData)
spelled_indicator =
    if_next (keyword (codes "INDICATOR")) (taken (keyword (codes "INDICATOR")) >>
    (referenced reference >>= (λ i. returns (Some i)))) (returns None)

unfoldable pub indicator : Reader (Option ExprData)
indicator =
    if_next (colon reference) (referenced reference >>= (λ i. returns (Some i))) spelled_indicator

unfoldable pub hosted : Begins → Reader HostData
hosted b =
    referenced b >>= (λ e. indicator >>= (λ i. returns (record { value = e; indicator = i })))

-- before a `:` that begins another host
unfoldable pub spelled_host : Begins → Reader HostData
spelled_host b =
    referenced b >>=
    (λ e. spelled_indicator >>= (λ i. returns (record { value = e; indicator = i })))

-- ---- names and texts

unfoldable pub quote_or_host : Reader TextArgData
quote_or_host =
    if_next plain_quote (taken plain_quote >>= (λ t. returns (word_arg (unquoted t.bytes))))
    (hosted reference >>= (λ h. returns (text_of_host h)))

unfoldable pub text_argument : Reader TextArgData
text_argument =
    if_next any_word (taken any_word >>= (λ t. returns (word_arg t.bytes))) quote_or_host

unfoldable pub spelled_text : Reader TextArgData
spelled_text =
    if_next any_word (taken any_word >>= (λ t. returns (word_arg t.bytes)))
    (if_next plain_quote (taken plain_quote >>= (λ t. returns (word_arg (unquoted t.bytes))))
    (spelled_host reference >>= (λ h. returns (text_of_host h))))

abbrev pub begins_text : Tokens → Bool
begins_text w = is_next_among alphabet (any_word ∷ plain_quote ∷ colon reference ∷ []) w

abbrev pub if_text : {A : Type 0} → Reader A → Reader A → Reader A
if_text p q = λ n w. elim (begins_text w) [ true ↦ p n w | false ↦ q n w ]

-- a connection by its name, with these words in upper case
unfoldable pub named_connection : (Text → Text) → Reader TextArgData
named_connection upper =
    if_next any_word (taken any_word >>= (λ t. returns (word_arg (upper t.bytes)))) quote_or_host

-- ---- values

unfoldable pub constant : Reader InputData
constant =
    if_next input_number (taken input_number >>= (λ t. returns (const_input t.bytes)))
    (if_next input_minus
    (taken input_minus >>
    (taken whole_number >>= (λ t. returns (const_input (codes "-" ++ t.bytes)))))
    (taken input_quote >>= (λ t. returns (const_input (unquoted t.bytes)))))

unfoldable pub value : Reader InputData
value = if_next (colon input) (hosted input >>= (λ h. returns (host_input h))) constant

unfoldable pub spelled_value : Reader InputData
spelled_value =
    if_next (colon input) (spelled_host input >>= (λ h. returns (host_input h))) constant

-- ---- lists

abbrev pub one_further : {A : Type 0} → Reader A → List A → Reader (List A)
one_further p vs = taken (sign (codes ",")) >> (p >>= (λ u. returns (vs ++ u ∷ [])))

-- behind these, and behind commas, more
unfoldable pub further : {A : Type 0} → Reader A → List A → Reader (List A)
further p vs = λ n w. turns_from (next_is (sign (codes ","))) (one_further p) (length w) vs n w

abbrev pub separated : {A : Type 0} → Reader A → Reader (List A)
separated p = p >>= (λ v. further p (v ∷ []))

abbrev pub area : Reader TextArgData
area = taken (keyword (codes "SQL")) >> (taken (keyword (codes "DESCRIPTOR")) >> text_argument)

unfoldable pub inputs : Reader InsData
inputs = if_next (keyword (codes "SQL")) (area >>= (λ a. returns (area_ins a)))
    (separated value >>= (λ vs. returns (listed_ins vs)))

unfoldable pub outputs : Reader OutsData
outputs = if_next (keyword (codes "SQL")) (area >>= (λ a. returns (area_outs a)))
    (separated (hosted reference) >>= (λ hs. returns (listed_outs hs)))

-- USING with its list, or nothing
unfoldable pub using_or_none : Reader InsData
using_or_none = if_next (keyword (codes "USING"))
    (taken (keyword (codes "USING")) >> inputs) (returns (listed_ins []))
