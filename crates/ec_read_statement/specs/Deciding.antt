-- Which form the first words decide, in the steps that code takes.
use Rattle.std.specs.Prelude.{ℕ, Bool, true, false, List, [], ◌∷◌, drop, codes}
use Rattle.ec_ctypes.specs.trees.Embedded.{EmbKindData}
use Rattle.ec_embedded.specs.shapes.ReadShapes.{stuck, and_then}
use Rattle.ec_language.specs.Letters.{Text}
use Rattle.ec_embedded.specs.LeftOut.{begin_with, is_first, first_is_among}
use Rattle.ec_embedded.specs.ServerText.{Tokens, Reading}
use Rattle.ec_embedded.specs.Statements.{transaction_words}
use Rattle.ec_embedded.specs.Terminals.{Counts, is, any_word}
use Rattle.ec_references.specs.Readers.{Reader}
use Rattle.ec_server_text.specs.Readers.{sending, controlling, declaring, declaring_prepared}
use Rattle.ec_statement_readers.specs.Readers as form

-- by whether the tokens begin with these words
abbrev pub by_words : {A : Type 0} → List Text → Reader A → Reader A → Reader A
by_words ks p q = λ n w. elim (begin_with ks w) [ true ↦ p n w | false ↦ q n w ]

-- AT stands before a form that doesn't take it: it is dead at the last of so many words
abbrev pub dead_at_word : ℕ → Reader EmbKindData
dead_at_word k = λ n w. stuck (drop k w)

-- DECLARE of a cursor, read from its first token, where these stand behind FOR: a word alone is the name of a prepared statement
unfoldable pub declaring_for : Text → Tokens → Counts → Tokens → Reading EmbKindData
declaring_for name all n [] = stuck []
declaring_for name all n (t ∷ []) =
    elim (is any_word t) [
      | true ↦ declaring_prepared name t.bytes n all
      | false ↦ declaring name n
          all
    ]
declaring_for name all n (t ∷ u ∷ w) = declaring name n all

unfoldable pub declared : Reader EmbKindData
declared = λ n w. and_then (form.cursor_head n w) (λ name m r. declaring_for name w m r)

-- without a form: DECLARE, transaction control, and all else is for the server
unfoldable pub formless : Reader EmbKindData
formless = λ n w. elim (is_first (codes "DECLARE") w) [
  | true ↦ declared n w
  | false ↦
      elim (first_is_among transaction_words w) [ true ↦ controlling n w | false ↦ sending n w ]
]

unfoldable pub formless_at : Reader EmbKindData
formless_at = λ n w. elim (is_first (codes "DECLARE") w) [
  | true ↦ stuck w
  | false ↦
      elim (first_is_among transaction_words w) [ true ↦ controlling n w | false ↦ sending n w ]
]

-- the forms, in the order of the table
unfoldable pub other_forms : Reader EmbKindData
other_forms =
    by_words (codes "PREPARE" ∷ []) form.preparing
    (by_words (codes "DEALLOCATE" ∷ []) form.deallocating
    (by_words (codes "ALLOCATE" ∷ []) form.allocating
    (by_words (codes "GET" ∷ []) form.getting
    (by_words (codes "WHENEVER" ∷ []) form.setting_handler
    (by_words (codes "INCLUDE" ∷ []) form.including formless)))))

unfoldable pub decided : Reader EmbKindData
decided =
    by_words (codes "CONNECT" ∷ []) form.connecting
    (by_words (codes "SET" ∷ codes "CONNECTION" ∷ []) form.setting_connection
    (by_words (codes "SET" ∷ codes "AUTOCOMMIT" ∷ []) form.setting_autocommit
    (by_words (codes "SET" ∷ codes "DESCRIPTOR" ∷ []) form.setting_area
    (by_words (codes "DISCONNECT" ∷ []) form.disconnecting
    (by_words (codes "OPEN" ∷ []) form.opening
    (by_words (codes "EXECUTE" ∷ []) form.executing other_forms))))))

-- behind AT
unfoldable pub other_forms_at : Reader EmbKindData
other_forms_at =
    by_words (codes "PREPARE" ∷ []) form.preparing
    (by_words (codes "DEALLOCATE" ∷ []) form.deallocating_at
    (by_words (codes "ALLOCATE" ∷ []) (dead_at_word 0)
    (by_words (codes "GET" ∷ []) (dead_at_word 0)
    (by_words (codes "WHENEVER" ∷ []) (dead_at_word 0)
    (by_words (codes "INCLUDE" ∷ []) (dead_at_word 0) formless_at)))))

unfoldable pub decided_at : Reader EmbKindData
decided_at =
    by_words (codes "CONNECT" ∷ []) (dead_at_word 0)
    (by_words (codes "SET" ∷ codes "CONNECTION" ∷ []) (dead_at_word 1)
    (by_words (codes "SET" ∷ codes "AUTOCOMMIT" ∷ []) form.setting_autocommit
    (by_words (codes "SET" ∷ codes "DESCRIPTOR" ∷ []) (dead_at_word 1)
    (by_words (codes "DISCONNECT" ∷ []) (dead_at_word 0)
    (by_words (codes "OPEN" ∷ []) form.opening
    (by_words (codes "EXECUTE" ∷ []) form.executing other_forms_at))))))

abbrev pub none_left : Tokens → Bool
none_left [] = true
none_left (t ∷ w) = false

-- any statement that isn't left out; whether AT stands before it
unfoldable pub any_statement : Bool → Reader EmbKindData
any_statement at = λ n w. elim (none_left w) [
  | true ↦ stuck []
  | false ↦ elim at [ true ↦ decided_at n w | false ↦ decided n w ]
]
