-- What a cursor stands for.
use Rattle.std.specs.Prelude.{List, [], ◌∷◌, codes, Result}
use Rattle.std.specs.Borrow.{Bor}
use Rattle.ec_clex.specs.declared.sql.SqlToken.{SqlToken}
use Rattle.ec_clex.specs.Sql.{sql_view, sql_views}
use Rattle.ec_embedded.specs.declared.shapes.failure.Failure.{Failure}
use Rattle.ec_embedded.specs.Terminals as spec
use Rattle.ec_references.specs.declared.class.Class.{Class}
use Rattle.ec_references.specs.declared.class.Class.TheVariants as class
use Rattle.ec_references.specs.declared.cursor.Counts.{Counts}
use Rattle.ec_references.specs.Readers.{State, Reader, ReadsBy, taken}

abbrev pub counts_view : Counts → spec.Counts
counts_view c = record { inputs = c.inputs; suffixes = c.suffixes }

pub record Left : Type 0 where
  pub tokens : List SqlToken
  pub counts : Counts

unfoldable pub seen : Left → State
seen l = record { tokens = sql_views l.tokens; counts = counts_view l.counts }

-- What a call that reads with a cursor ensures: its result is that of this reader, from where the cursor stood to where it stands now, unless memory fails.
abbrev pub CursorReads : {A B : Type 0} → (B → A) → Reader A → Left → Result B Failure → Left
    → Type 0
CursorReads view p old result new = ReadsBy view p (seen old) result (seen new)

-- of a call that takes the next token, where it is this terminal
abbrev pub CursorTakes : spec.Terminal → Left → Result (Bor SqlToken) Failure → Left → Type 0
CursorTakes t old result new = CursorReads (λ x. sql_view x.now) (taken t) old result new

abbrev pub terminal_view : Class → spec.Terminal
terminal_view class.AnyWord = spec.any_word
terminal_view class.GluedWord = spec.glued_word
terminal_view class.NotTo = spec.word_but (codes "TO")
terminal_view class.NotImmediate = spec.word_but (codes "IMMEDIATE")
terminal_view class.NotPrepare = spec.word_but (codes "PREPARE")
terminal_view class.NotBreakOrContinue = spec.other_word (codes "BREAK" ∷ codes "CONTINUE" ∷ [])
terminal_view class.NotPrepareOrDescriptor =
    spec.other_word (codes "PREPARE" ∷ codes "DESCRIPTOR" ∷ [])
terminal_view class.GluedNumber = spec.glued_number
terminal_view class.FittingNumber = spec.fitting_number
terminal_view class.WholeNumber = spec.whole_number
terminal_view class.Quote = spec.plain_quote
terminal_view class.Character = spec.character_constant
terminal_view class.InputNumber = spec.input_number
terminal_view class.InputQuote = spec.input_quote
terminal_view class.InputMinus = spec.input_minus
terminal_view class.InputColon = spec.colon spec.input
terminal_view class.Colon = spec.colon spec.reference
terminal_view class.TargetStart = spec.target_start
terminal_view class.TargetMore = spec.target_more
terminal_view class.TargetBehind = spec.target_behind
