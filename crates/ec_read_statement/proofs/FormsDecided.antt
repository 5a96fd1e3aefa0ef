-- The form that the table has is the one that the code decides.
use Rattle.std.specs.Prelude.{if◌then◌else◌}
use Rattle.std.proofs.Common.{◌≡◌, ◌-◌, ◌++◌, Bool, true, false, [], ◌∷◌, length, refl, ap, sym, ◌∙◌, codes, Option, Some, None}
use Rattle.ec_ctypes.specs.trees.Embedded.{EmbKindData, declare_cursor, bytes_part}
use Rattle.ec_embedded.specs.shapes.ReadShapes.{done, stuck, and_then, read}
use Rattle.ec_embedded.proofs.shapes_lemmas.Made.{made, made_first, same_next}
use Rattle.ec_language.specs.Letters.{Text}
use Rattle.ec_language.specs.SqlTokens.{SqlToken}
use Rattle.ec_embedded.specs.Directives.{cursor_form, cursor_name}
use Rattle.ec_embedded.specs.LeftOut.{begin_with, is_first, first_is_among}
use Rattle.ec_embedded.specs.ServerText.{Tokens, Reading, cuts, parts, bytes_in}
use Rattle.ec_embedded.specs.Statements.{Entry, by_entry, by_first, kind_at, declare_at, declared_for, transaction_words}
use Rattle.ec_embedded.specs.Terminals.{Counts, alphabet, is, any_word}
use Rattle.ec_statement_readers.specs.Readers as form
use Rattle.ec_statement_readers.proofs.Forms as law
use Rattle.ec_server_text.specs.Readers.{declaring, declaring_prepared}
use Rattle.ec_server_text.proofs.CutSteps.{control_is, server_is, declare_is, prepared_is}
use Rattle.ec_read_statement.specs.Deciding.{declaring_for, declared, any_statement, formless, formless_at, other_forms, other_forms_at, decided, decided_at}

module _ (at : Bool) (n : Counts) (v : Tokens) where
  abbrev pick : Option Entry → Reading EmbKindData
  pick o = elim o as (λ _. Reading EmbKindData) [ Some e ↦ by_entry at n v e | None ↦ by_first at n v ]

  step : (b : Bool) (e : Entry) (o : Option Entry) (p q : Reading EmbKindData) → pick (Some e) ≡ p → pick o ≡ q
      → pick (elim b as (λ _. Option Entry) [ true ↦ Some e | false ↦ o ]) ≡ elim b as (λ _. Reading EmbKindData) [ true ↦ p | false ↦ q ]
  step true e o p q f g = f
  step false e o p q f g = g

for_is : (name : Text) (all : Tokens) (n : Counts) (w : Tokens) → declared_for name all n w ≡ declaring_for name all n w
unfolding declaring_for
for_is name all n [] = refl
for_is name all n (t ∷ []) = go (is any_word t)
  where
    go : (x : Bool) → elim (if x then Some t.bytes else None) as (λ _. Reading EmbKindData) [
      | Some p ↦ and_then (cuts (length all - 1) 0 false n all) (λ cs m r. done (declare_cursor name (bytes_part (bytes_in (parts true false cs) ++ codes " ") ∷ []) (Some p)) m [])
      | None ↦ made (λ cs. declare_cursor name (parts true false cs) None) (cuts (length all) 0 false n all)
    ]
        ≡ elim x as (λ _. Reading EmbKindData) [ true ↦ declaring_prepared name t.bytes n all | false ↦ declaring name n all ]
    go true = prepared_is name t.bytes n all
    go false = declare_is name n all
for_is name all n (t ∷ u ∷ w) = declare_is name n all

declared_is : (n : Counts) (v : Tokens) → declare_at n v ≡ declared n v
unfolding declare_at declared
declared_is n v =
    sym (made_first (read alphabet cursor_form n v) cursor_name (λ name m r. declared_for name v m r))
    ∙ ap (λ o. and_then o (λ name m r. declared_for name v m r)) (law.cursor_read.is n v)
    ∙ same_next (form.cursor_head n v) _ _ (λ name m r. for_is name v m r)

formless_is : (n : Counts) (v : Tokens) → by_first false n v ≡ formless n v
unfolding formless
formless_is n v = λ i. elim (is_first (codes "DECLARE") v) as (λ _. Reading EmbKindData) [
  | true ↦ declared_is n v i
  | false ↦ elim (first_is_among transaction_words v) as (λ _. Reading EmbKindData) [ true ↦ control_is n v i | false ↦ server_is n v i ]
]

formless_at_is : (n : Counts) (v : Tokens) → by_first true n v ≡ formless_at n v
unfolding formless_at
formless_at_is n v = λ i. elim (is_first (codes "DECLARE") v) as (λ _. Reading EmbKindData) [
  | true ↦ stuck v
  | false ↦ elim (first_is_among transaction_words v) as (λ _. Reading EmbKindData) [ true ↦ control_is n v i | false ↦ server_is n v i ]
]

decided_is : (n : Counts) (t : SqlToken) (w : Tokens) → kind_at false n (t ∷ w) ≡ decided n (t ∷ w)
unfolding decided other_forms
decided_is n t w =
    let v : Tokens = t ∷ w in
    step false n v (begin_with (codes "CONNECT" ∷ []) v) _ _ _ _ (law.connect_read.is n v)
    (step false n v (begin_with (codes "SET" ∷ codes "CONNECTION" ∷ []) v) _ _ _ _ (law.set_connection_read.is n v)
    (step false n v (begin_with (codes "SET" ∷ codes "AUTOCOMMIT" ∷ []) v) _ _ _ _ (law.autocommit_read.is n v)
    (step false n v (begin_with (codes "SET" ∷ codes "DESCRIPTOR" ∷ []) v) _ _ _ _ (law.set_read.is n v)
    (step false n v (begin_with (codes "DISCONNECT" ∷ []) v) _ _ _ _ (law.disconnect_read.is n v)
    (step false n v (begin_with (codes "OPEN" ∷ []) v) _ _ _ _ (law.open_read.is n v)
    (step false n v (begin_with (codes "EXECUTE" ∷ []) v) _ _ _ _ (law.execute_read.is n v)
    (step false n v (begin_with (codes "PREPARE" ∷ []) v) _ _ _ _ (law.prepare_read.is n v)
    (step false n v (begin_with (codes "DEALLOCATE" ∷ []) v) _ _ _ _ (law.deallocate_read.is n v)
    (step false n v (begin_with (codes "ALLOCATE" ∷ []) v) _ _ _ _ (law.allocate_read.is n v)
    (step false n v (begin_with (codes "GET" ∷ []) v) _ _ _ _ (law.get_read.is n v)
    (step false n v (begin_with (codes "WHENEVER" ∷ []) v) _ _ _ _ (law.whenever_read.is n v)
    (step false n v (begin_with (codes "INCLUDE" ∷ []) v) _ _ _ _ (law.include_read.is n v)
    (formless_is n v)))))))))))))

decided_at_is : (n : Counts) (t : SqlToken) (w : Tokens) → kind_at true n (t ∷ w) ≡ decided_at n (t ∷ w)
unfolding decided_at other_forms_at
decided_at_is n t w =
    let v : Tokens = t ∷ w in
    step true n v (begin_with (codes "CONNECT" ∷ []) v) _ _ _ _ refl
    (step true n v (begin_with (codes "SET" ∷ codes "CONNECTION" ∷ []) v) _ _ _ _ refl
    (step true n v (begin_with (codes "SET" ∷ codes "AUTOCOMMIT" ∷ []) v) _ _ _ _ (law.autocommit_read.is n v)
    (step true n v (begin_with (codes "SET" ∷ codes "DESCRIPTOR" ∷ []) v) _ _ _ _ refl
    (step true n v (begin_with (codes "DISCONNECT" ∷ []) v) _ _ _ _ refl
    (step true n v (begin_with (codes "OPEN" ∷ []) v) _ _ _ _ (law.open_read.is n v)
    (step true n v (begin_with (codes "EXECUTE" ∷ []) v) _ _ _ _ (law.execute_read.is n v)
    (step true n v (begin_with (codes "PREPARE" ∷ []) v) _ _ _ _ (law.prepare_read.is n v)
    (step true n v (begin_with (codes "DEALLOCATE" ∷ []) v) _ _ _ _ (law.deallocate_at_read.is n v)
    (step true n v (begin_with (codes "ALLOCATE" ∷ []) v) _ _ _ _ refl
    (step true n v (begin_with (codes "GET" ∷ []) v) _ _ _ _ refl
    (step true n v (begin_with (codes "WHENEVER" ∷ []) v) _ _ _ _ refl
    (step true n v (begin_with (codes "INCLUDE" ∷ []) v) _ _ _ _ refl
    (formless_at_is n v)))))))))))))

pub all_decided : (at : Bool) (n : Counts) (w : Tokens) → kind_at at n w ≡ any_statement at n w
unfolding any_statement
all_decided at n [] = refl
all_decided true n (t ∷ w) = decided_at_is n t w
all_decided false n (t ∷ w) = decided_is n t w
