-- Embedded statements: the connection that AT names, the form that the first words decide, and a plain reading of both.
use Rattle.std.specs.Prelude.{ℕ, ◌-◌, Bool, true, false, List, [], ◌∷◌, ◌++◌, drop, length, codes, Option, Some, None, is_some, Err, if◌then◌else◌}
use Rattle.ec_base.specs.declared.fault.FaultKind.TheVariants.{F9}
use Rattle.ec_base.specs.declared.stop.Stop.TheVariants.{Refused}
use Rattle.ec_ctypes.specs.trees.Embedded.{TextArgData, bytes_part, EmbKindData, declare_cursor}
use Rattle.ec_embedded.specs.shapes.Shapes.{both}
use Rattle.ec_embedded.specs.shapes.ReadShapes.{Outcome, done, stopped, stuck, and_then, read}
use Rattle.ec_language.specs.Letters.{Text}
use Rattle.ec_embedded.specs.Terminals.{alphabet, Counts, no_counts, is, any_word}
use Rattle.ec_embedded.specs.References.{Form, Of, word, text_form}
use Rattle.ec_embedded.specs.Connections.{connection_of, connect_form, connect_of, set_connection_form, set_connection_of, disconnect_form, disconnect_of, autocommit_form, autocommit_of}
use Rattle.ec_embedded.specs.Descriptors.{allocate_form, allocate_of, get_form, get_of, set_form, set_of}
use Rattle.ec_embedded.specs.Directives.{whenever_form, whenever_of, include_form, include_of, cursor_form, cursor_name}
use Rattle.ec_embedded.specs.Dynamic.{prepare_form, prepare_of, execute_form, execute_of, deallocate_form, deallocate_of, deallocate_at_form, deallocate_at_of, open_form, open_of}
use Rattle.ec_embedded.specs.Findings.{found_in, word_line, Answer, answer_of}
use Rattle.ec_embedded.specs.LeftOut.{begin_with, is_first, first_is_among, is_left_out}
use Rattle.ec_embedded.specs.ServerText.{Tokens, Reading, cuts, parts, server_at, transaction_at, bytes_in}

abbrev pub made : {A B K S : Type 0} → (A → B) → Outcome A K S → Outcome B K S
made f o = and_then o (λ v n w. done (f v) n w)

-- ---- forms that the first words decide

-- a form, with what is made of its trees
pub record Made : Type 0 where
  pub form : Form
  pub make : Of form → EmbKindData

-- the words that decide a form, the form, and its form behind AT, if AT may stand before it
pub record Entry : Type 0 where
  pub words : List Text
  pub alone : Made
  pub behind_at : Option Made

abbrev pub without_at : List Text → (form : Form) → (Of form → EmbKindData) → Entry
without_at words form make =
    record { words = words; alone = record { form = form; make = make }; behind_at = None }

abbrev pub with_at : List Text → (form : Form) → (Of form → EmbKindData) → Entry
with_at words form make = record {
  words = words;
  alone = record { form = form; make = make };
  behind_at = Some (record { form = form; make = make });
}

abbrev pub entries : List Entry
entries =
    without_at (codes "CONNECT" ∷ []) connect_form connect_of
    ∷ without_at (codes "SET" ∷ codes "CONNECTION" ∷ []) set_connection_form set_connection_of
    ∷ with_at (codes "SET" ∷ codes "AUTOCOMMIT" ∷ []) autocommit_form autocommit_of
    ∷ without_at (codes "SET" ∷ codes "DESCRIPTOR" ∷ []) set_form set_of
    ∷ without_at (codes "DISCONNECT" ∷ []) disconnect_form disconnect_of
    ∷ with_at (codes "OPEN" ∷ []) open_form open_of
    ∷ with_at (codes "EXECUTE" ∷ []) execute_form execute_of
    ∷ with_at (codes "PREPARE" ∷ []) prepare_form prepare_of
    ∷ record {
      words = codes "DEALLOCATE" ∷ [];
      alone = record { form = deallocate_form; make = deallocate_of };
      behind_at = Some (record { form = deallocate_at_form; make = deallocate_at_of });
    }
    ∷ without_at (codes "ALLOCATE" ∷ []) allocate_form allocate_of
    ∷ without_at (codes "GET" ∷ []) get_form get_of
    ∷ without_at (codes "WHENEVER" ∷ []) whenever_form whenever_of
    ∷ without_at (codes "INCLUDE" ∷ []) include_form include_of
    ∷ []

abbrev pub chosen : List Entry → Tokens → Option Entry
chosen [] w = None
chosen (e ∷ es) w = elim (begin_with e.words w) [ true ↦ Some e | false ↦ chosen es w ]

abbrev pub by_form : Counts → Tokens → Made → Reading EmbKindData
by_form n w m = made m.make (read alphabet m.form n w)

-- AT before a form that doesn't take it: no form goes on with the last of the words that decide it.
abbrev pub by_entry : Bool → Counts → Tokens → Entry → Reading EmbKindData
by_entry at n w e = elim at [
  | true ↦ elim e.behind_at [ None ↦ stuck (drop (length e.words - 1) w) | Some m ↦ by_form n w m ]
  | false ↦ by_form n w e.alone
]

-- ---- DECLARE

-- a word alone behind FOR is the name of a prepared statement
abbrev pub prepared_in : Tokens → Option Text
prepared_in (t ∷ []) = if is any_word t then Some t.bytes else None
prepared_in _ = None

-- Of a cursor for a prepared statement the text up to FOR is sent, and a blank; else the whole text.
abbrev pub declared_for : Text → Tokens → Counts → Tokens → Reading EmbKindData
declared_for name all n [] = stuck []
declared_for name all n (t ∷ w) = elim (prepared_in (t ∷ w)) [
  | Some p ↦
      and_then (cuts (length all - 1) 0 false n all)
      (λ cs m r. done (declare_cursor name
      (bytes_part (bytes_in (parts true false cs) ++ codes " ") ∷ []) (Some p)) m [])
  | None ↦
      made (λ cs. declare_cursor name (parts true false cs) None) (cuts (length all) 0 false n all)
]

unfoldable pub declare_at : Counts → Tokens → Reading EmbKindData
declare_at n w =
    and_then (read alphabet cursor_form n w) (λ v m r. declared_for (cursor_name v) w m r)

-- ---- all statements

abbrev pub transaction_words : List Text
transaction_words = codes "BEGIN" ∷ codes "START" ∷ codes "COMMIT" ∷ codes "END"
    ∷ codes "ROLLBACK" ∷ codes "ABORT" ∷ codes "SAVEPOINT" ∷ codes "RELEASE" ∷ []

abbrev pub by_first : Bool → Counts → Tokens → Reading EmbKindData
by_first at n w = elim (is_first (codes "DECLARE") w) [
  | true ↦ elim at [ true ↦ stuck w | false ↦ declare_at n w ]
  | false ↦ elim (first_is_among transaction_words w) [
    | true ↦ transaction_at n w
    | false ↦ server_at n w
  ]
]

-- what is done; whether AT stands before it
abbrev pub kind_at : Bool → Counts → Tokens → Reading EmbKindData
kind_at at n [] = stuck []
kind_at at n (t ∷ w) =
    elim (chosen entries (t ∷ w)) [
      | Some e ↦ by_entry at n (t ∷ w) e
      | None ↦ by_first at n (t ∷ w)
    ]

unfoldable pub at_form : Form
at_form = both (word (codes "AT")) text_form

abbrev pub at_of : Of at_form → TextArgData
unfolding at_form
at_of v = connection_of v.1

-- ---- the plain reading of a whole statement

-- A statement that is left out is refused at its first word, whatever stands behind.
abbrev pub said : ℕ → Option TextArgData → Counts → Tokens → Answer
said end at n w = elim (is_left_out w) [
  | true ↦ Err (Refused F9 (record { 0 = word_line end w }))
  | false ↦ answer_of end at (found_in w (kind_at (is_some at) n w))
]

abbrev pub named_at : ℕ → Tokens → Reading TextArgData → Answer
named_at end all (done a n w) = said end (Some a) n w
named_at end all (stopped e) = answer_of end None (found_in all (stopped e))

-- what the tokens of a statement are, whose `;` stands on the line `end`
abbrev pub answer : ℕ → Tokens → Answer
answer end w = elim (is_first (codes "AT") w) [
  | true ↦ named_at end w (made at_of (read alphabet at_form no_counts w))
  | false ↦ said end None no_counts w
]
