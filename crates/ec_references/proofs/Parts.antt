-- What is read step by step is what the forms have.
use Rattle.std.proofs.Common.{[], ◌∷◌}
use Rattle.ec_embedded.specs.shapes.Shapes.{one, either}
use Rattle.ec_ctypes.specs.trees.Exprs.{ExprData, identifier}
use Rattle.ec_embedded.specs.Connections.{connection_of, ended_of, or_default, or_special}
use Rattle.ec_embedded.specs.Terminals.{Begins, reference, input, glued_word, glued_number}
use Rattle.ec_embedded.specs.References.{Form, Of, listed, gathered, index_of, suffix_form, with_suffix, name_form, named, reference_form, indicator_form, indicator_of, spelled_indicator_form, spelled_indicator_of, host_form, host_of, spelled_host_form, spelled_host_of, text_form, text_of, spelled_text_form, spelled_text_of, statement_text_form, statement_text_of, constant_form, constant_of, value_form, value_of, spelled_value_form, spelled_value_of, area_form, ins_form, ins_of, outs_form, outs_of, using_form, using_of}
use Rattle.ec_references.specs.Readers as r
use Rattle.ec_references.specs.Readers.{Reader}
use Rattle.ec_references.proofs.Steps.{Is, of_either, of_both, of_one, of_last, of_nothing, of_made, of_many}

place_read : Is (either (one glued_word) (one glued_number)) index_of r.place
place_read = of_either of_last of_last

pub suffix_read : (e : ExprData) → Is suffix_form (with_suffix e) (r.suffix_behind e)
unfolding suffix_form r.suffix_behind
suffix_read e = of_either (of_both _ of_one (λ v. of_last)) (of_either (of_both _ of_one (λ v. of_last)) (of_both _ of_one (λ v. of_both _ place_read (λ u. of_last))))

pub name_read : Is name_form named r.named_place
unfolding name_form r.named_place r.suffixes_behind suffix_form
name_read = of_both _ of_one (λ t. of_many (identifier t.bytes) suffix_read)

pub referenced_read : (b : Begins) → Is (reference_form b) (λ v. named v.1) (r.referenced b)
unfolding r.referenced
referenced_read b = of_both _ of_one (λ t. name_read)

pub spelled_indicator_read : Is spelled_indicator_form spelled_indicator_of r.spelled_indicator
unfolding spelled_indicator_form r.spelled_indicator
spelled_indicator_read = of_either (of_both _ of_one (λ t. of_made _ (referenced_read reference))) of_nothing

pub indicator_read : Is indicator_form indicator_of r.indicator
unfolding indicator_form r.indicator r.spelled_indicator
indicator_read = of_either (of_made _ (referenced_read reference)) (of_either (of_both _ of_one (λ t. of_made _ (referenced_read reference))) of_nothing)

pub host_read : (b : Begins) → Is (host_form b) (host_of b) (r.hosted b)
unfolding r.hosted
host_read b = of_both _ (referenced_read b) (λ v. of_made _ indicator_read)

pub spelled_host_read : (b : Begins) → Is (spelled_host_form b) (spelled_host_of b) (r.spelled_host b)
unfolding r.spelled_host
spelled_host_read b = of_both _ (referenced_read b) (λ v. of_made _ spelled_indicator_read)

pub text_read : Is text_form text_of r.text_argument
unfolding text_form r.text_argument r.quote_or_host
text_read = of_either of_last (of_either of_last (of_made _ (host_read reference)))

pub spelled_text_read : Is spelled_text_form spelled_text_of r.spelled_text
unfolding spelled_text_form r.spelled_text
spelled_text_read = of_either of_last (of_either of_last (of_made _ (spelled_host_read reference)))

pub statement_text_read : Is statement_text_form statement_text_of r.quote_or_host
unfolding statement_text_form r.quote_or_host
statement_text_read = of_either of_last (of_made _ (host_read reference))

pub connection_read : Is text_form connection_of (r.named_connection or_default)
unfolding text_form r.named_connection r.quote_or_host
connection_read = of_either of_last (of_either of_last (of_made _ (host_read reference)))

pub ended_read : Is text_form ended_of (r.named_connection or_special)
unfolding text_form r.named_connection r.quote_or_host
ended_read = of_either of_last (of_either of_last (of_made _ (host_read reference)))

pub constant_read : Is constant_form constant_of r.constant
unfolding constant_form r.constant
constant_read = of_either of_last (of_either (of_both _ of_one (λ m. of_last)) of_last)

pub value_read : Is value_form value_of r.value
unfolding value_form r.value
value_read = of_either (of_made _ (host_read input)) constant_read

pub spelled_value_read : Is spelled_value_form spelled_value_of r.spelled_value
unfolding spelled_value_form r.spelled_value
spelled_value_read = of_either (of_made _ (spelled_host_read input)) constant_read

area_read : Is area_form (λ v. text_of v.1.1) r.area
area_read = of_both _ of_one (λ s. of_both _ of_one (λ d. text_read))

pub separated_read : {A : Type 0} {a : Form} {f : Of a → A} {p : Reader A} → Is a f p → Is (listed a) (λ v. gathered f v.0 v.1) (r.separated p)
unfolding r.further
separated_read {A} {a} {f} {p} e = of_both _ e (λ v. of_many (f v ∷ []) (λ vs. of_both _ of_one (λ t. of_made _ e)))

pub ins_read : Is ins_form ins_of r.inputs
unfolding ins_form r.inputs
ins_read = of_either (of_made _ area_read) (of_made _ (separated_read value_read))

pub outs_read : Is outs_form outs_of r.outputs
unfolding outs_form r.outputs
outs_read = of_either (of_made _ area_read) (of_made _ (separated_read (host_read reference)))

pub using_read : Is using_form using_of r.using_or_none
unfolding using_form r.using_or_none
using_read = of_either (of_both _ of_one (λ t. ins_read)) of_nothing
