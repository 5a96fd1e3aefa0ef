-- What an embedded statement is, or why it is none, by the cases of the rules (PostgreSQL manual, "Embedded SQL Commands"): the connection that AT names, a statement that is left out, the form that the first words decide, the first token with which no form goes on, and the limit.
use Rattle.std.specs.Prelude.{◌≡◌, ℕ, ◌+◌, Bool, true, false, [], ◌∷◌, ◌++◌, length, codes, Option, Some, None, is_some, Result, Ok, Err}
use Rattle.ec_base.specs.declared.fault.FaultKind.TheVariants.{F9}
use Rattle.ec_base.specs.declared.line.Line.{Line}
use Rattle.ec_base.specs.declared.stop.Stop.{Stop}
use Rattle.ec_base.specs.declared.stop.Stop.TheVariants.{Refused}
use Rattle.ec_ctypes.specs.declared.text.piece.Piece.{Piece}
use Rattle.ec_ctypes.specs.trees.Embedded.{TextArgData, EmbKindData, EmbData}
use Rattle.ec_embedded.specs.shapes.Beginnings.{Beginning, Begins}
use Rattle.ec_embedded.specs.shapes.Shapes.{Judged, tree, dead, short, over, Judges}
use Rattle.ec_language.specs.Line.{newlines}
use Rattle.ec_language.specs.SqlTokens.{SqlToken}
use Rattle.ec_language.specs.Tokens.{SqlTokens}
use Rattle.ec_embedded.specs.Directives.{cursor_form, cursor_name}
use Rattle.ec_embedded.specs.Findings.{Found, kind, stops, passes, found_in, word_line, Answer, answer_of}
use Rattle.ec_embedded.specs.LeftOut.{is_first, first_is_among, is_left_out}
use Rattle.ec_embedded.specs.References.{Form, Of}
use Rattle.ec_embedded.specs.ServerText.{Tokens, server_at, transaction_at}
use Rattle.ec_embedded.specs.Statements.{Made, Entry, entries, chosen, transaction_words, declared_for, at_form, at_of}
use Rattle.ec_embedded.specs.Terminals.{alphabet, Counts, no_counts}

-- ---- what is found out

-- by the verdict of a form
abbrev pub found_by : {A : Type 0} → (A → EmbKindData) → Judged A SqlToken → Found
found_by make (tree v) = kind (make v)
found_by make (dead x after) = stops (x ∷ after)
found_by make short = stops []
found_by make (over x after) = passes

-- how tokens begin by a form
abbrev pub Beginnings : Form → Type 0
Beginnings form = Judged (Beginning (Of form) SqlToken Counts) SqlToken

-- where they don't begin with a list of the form
abbrev pub found_without : {A : Type 0} → Judged A SqlToken → Option Found
found_without (tree b) = None
found_without (dead x after) = Some (stops (x ∷ after))
found_without short = Some (stops [])
found_without (over x after) = Some passes

-- ---- what is done

-- DECLARE of a cursor: its head, up to FOR, and what it is for.
pub data IsCursor (n : Counts) (w : Tokens) : Found → Type 0 where
  headless : (b : Beginnings cursor_form) (found : Found) → Begins alphabet cursor_form n w b
      → found_without b ≡ Some found → IsCursor n w found
  headed : (b : Beginning (Of cursor_form) SqlToken Counts)
      → Begins alphabet cursor_form n w (tree b)
      → IsCursor n w (found_in w (declared_for (cursor_name b.tree) w b.count b.rest))

-- the form of an entry, where AT stands before it or doesn't
abbrev pub form_of : Bool → Entry → Option Made
form_of true e = e.behind_at
form_of false e = Some e.alone

-- What is done by tokens that aren't left out, with AT before them or not.
pub data IsKind (at : Bool) (n : Counts) : Tokens → Found → Type 0 where
  empty : IsKind at n [] (stops [])
  -- The first words decide a form.
  formed : (w : Tokens) (e : Entry) (m : Made) (j : Judged (Of m.form) SqlToken)
      → chosen entries w ≡ Some e → form_of at e ≡ Some m → Judges alphabet m.form n w j
      → IsKind at n w (found_by m.make j)
  -- They decide one that AT can't stand before: with the last of them no form goes on.
  without_at : (before after : Tokens) (x : SqlToken) (e : Entry)
      → chosen entries (before ++ x ∷ after) ≡ Some e → form_of at e ≡ None
      → length (before ++ x ∷ []) ≡ length e.words
      → IsKind at n (before ++ x ∷ after) (stops (x ∷ after))
  cursor : (w : Tokens) (found : Found) → at ≡ false → chosen entries w ≡ None
      → is_first (codes "DECLARE") w ≡ true → IsCursor n w found → IsKind at n w found
  cursor_behind_at : (w : Tokens) → at ≡ true → chosen entries w ≡ None
      → is_first (codes "DECLARE") w ≡ true → IsKind at n w (stops w)
  transaction : (w : Tokens) → chosen entries w ≡ None → is_first (codes "DECLARE") w ≡ false
      → first_is_among transaction_words w ≡ true
      → IsKind at n w (found_in w (transaction_at n w))
  -- All else passes to the server.
  server : (t : SqlToken) (w : Tokens) → chosen entries (t ∷ w) ≡ None
      → is_first (codes "DECLARE") (t ∷ w) ≡ false
      → first_is_among transaction_words (t ∷ w) ≡ false
      → IsKind at n (t ∷ w) (found_in (t ∷ w) (server_at n (t ∷ w)))

-- ---- the answer

-- What is said of all tokens, or of those behind the connection that AT names.
pub data IsSaid (end : ℕ) (at : Option TextArgData) (n : Counts) (w : Tokens)
    : Answer → Type 0 where
  -- A statement that is left out is refused at its first word, whatever stands behind.
  left_out : is_left_out w ≡ true
      → IsSaid end at n w (Err (Refused F9 (record { 0 = word_line end w })))
  taken : (found : Found) → is_left_out w ≡ false → IsKind (is_some at) n w found
      → IsSaid end at n w (answer_of end at found)

-- What the tokens of a statement are, whose `;` stands on the line `end`.
pub data IsAnswer (end : ℕ) (w : Tokens) : Answer → Type 0 where
  alone : (a : Answer) → is_first (codes "AT") w ≡ false → IsSaid end None no_counts w a
      → IsAnswer end w a
  behind_at : (b : Beginning (Of at_form) SqlToken Counts) (a : Answer)
      → is_first (codes "AT") w ≡ true → Begins alphabet at_form no_counts w (tree b)
      → IsSaid end (Some (at_of b.tree)) b.count b.rest a → IsAnswer end w a
  -- AT with no name of a connection.
  nameless : (b : Beginnings at_form) (found : Found) → is_first (codes "AT") w ≡ true
      → Begins alphabet at_form no_counts w b → found_without b ≡ Some found
      → IsAnswer end w (answer_of end None found)

abbrev pub placed : Line → ℕ → Answer → Result EmbData Stop
placed line place (Ok s) = Ok (record { line = line; place = place; at = s.at; kind = s.kind })
placed line place (Err stop) = Err stop

-- the line of the `;` of a piece
abbrev pub end_line : Piece → ℕ
end_line p = p.line.0 + newlines p.bytes

-- What the statement of a piece is, whose token has this place, or why it is none.
pub record StatementOrStop (p : Piece) (place : ℕ) (result : Result EmbData Stop) : Type 0 where
  pub tokens : Tokens
  pub lexed : SqlTokens p.line.0 p.bytes tokens
  pub answer : Answer
  pub is_answer : IsAnswer (end_line p) tokens answer
  pub is : result ≡ placed p.line place answer
