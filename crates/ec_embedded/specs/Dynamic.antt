-- Statements on prepared statements and cursors: PREPARE, EXECUTE, DEALLOCATE and OPEN (PostgreSQL manual, "Dynamic SQL" and "Using Cursors"), as shapes, with the tree that each makes.
use Rattle.std.specs.Prelude.{[], ◌∷◌, codes}
use Rattle.std.proofs.Common.{inl, inr}
use Rattle.ec_ctypes.specs.trees.Embedded.{listed_ins, OutsData, no_outs, EmbKindData, open_cursor, execute_immediate, prepare, execute, deallocate, free_area}
use Rattle.ec_embedded.specs.shapes.Shapes.{nothing, one, both, either}
use Rattle.ec_language.specs.Letters.{Text}
use Rattle.ec_embedded.specs.Terminals.{any_word, other_word, word_but}
use Rattle.ec_embedded.specs.References.{Form, Of, row, choice, optional, word, text_form, text_of, statement_text_form, statement_text_of, ins_form, ins_of, outs_form, outs_of, using_form, using_of}

-- ---- PREPARE

unfoldable pub prepare_form : Form
prepare_form =
    row (word (codes "PREPARE") ∷ one any_word ∷ word (codes "FROM") ∷ statement_text_form ∷ [])

abbrev pub prepare_of : Of prepare_form → EmbKindData
unfolding prepare_form
prepare_of (p, (n, (f, v))) = prepare n.bytes (statement_text_of v)

-- ---- EXECUTE

-- INTO and USING, each once at most, in either order
unfoldable pub lists_form : Form
lists_form = choice (row (word (codes "INTO") ∷ outs_form ∷ using_form ∷ [])) (
    row (word (codes "USING") ∷ ins_form ∷ optional (both (word (codes "INTO")) outs_form) ∷ [])
    ∷ nothing ∷ []
    )

abbrev pub outs_or_none : Of (optional (both (word (codes "INTO")) outs_form)) → OutsData
outs_or_none (inl v) = outs_of v.1
outs_or_none (inr v) = no_outs

abbrev pub executed : Text → Of lists_form → EmbKindData
unfolding lists_form
executed name (inl v) = execute name (using_of v.1.1) (outs_of v.1.0)
executed name (inr (inl v)) = execute name (ins_of v.1.0) (outs_or_none v.1.1)
executed name (inr (inr v)) = execute name (listed_ins []) no_outs

-- `EXECUTE IMMEDIATE` with a text, or of the statement of that name
unfoldable pub execute_form : Form
execute_form = both (word (codes "EXECUTE")) (either
    (both (word (codes "IMMEDIATE")) (either statement_text_form lists_form))
    (both (one (word_but (codes "IMMEDIATE"))) lists_form))

abbrev pub execute_of : Of execute_form → EmbKindData
unfolding execute_form
execute_of (e, inl (n, inl v)) = execute_immediate (statement_text_of v)
execute_of (e, inl (n, inr v)) = executed n.bytes v
execute_of (e, inr v) = executed v.0.bytes v.1

-- ---- DEALLOCATE

-- of a prepared statement, or of a descriptor; PREPARE and DESCRIPTOR alone are names
unfoldable pub deallocate_form : Form
deallocate_form = both (word (codes "DEALLOCATE"))
    (choice (both (word (codes "PREPARE")) (optional (one any_word))) (
    both (word (codes "DESCRIPTOR")) (optional text_form)
    ∷ one (other_word (codes "PREPARE" ∷ codes "DESCRIPTOR" ∷ [])) ∷ []
    ))

abbrev pub deallocate_of : Of deallocate_form → EmbKindData
unfolding deallocate_form
deallocate_of (d, inl (p, inl n)) = deallocate n.bytes
deallocate_of (d, inl (p, inr v)) = deallocate p.bytes
deallocate_of (d, inr (inl (t, inl v))) = free_area (text_of v)
deallocate_of (d, inr (inl (t, inr v))) = deallocate t.bytes
deallocate_of (d, inr (inr n)) = deallocate n.bytes

-- behind AT, where descriptors have no place
unfoldable pub deallocate_at_form : Form
deallocate_at_form =
    both (word (codes "DEALLOCATE")) (either
    (both (word (codes "PREPARE")) (optional (one any_word))) (one (word_but (codes "PREPARE"))))

abbrev pub deallocate_at_of : Of deallocate_at_form → EmbKindData
unfolding deallocate_at_form
deallocate_at_of (d, inl (p, inl n)) = deallocate n.bytes
deallocate_at_of (d, inl (p, inr v)) = deallocate p.bytes
deallocate_at_of (d, inr n) = deallocate n.bytes

-- ---- OPEN

unfoldable pub open_form : Form
open_form = row (word (codes "OPEN") ∷ one any_word ∷ using_form ∷ [])

abbrev pub open_of : Of open_form → EmbKindData
unfolding open_form
open_of (o, (n, v)) = open_cursor n.bytes (using_of v)
