-- What is known of the parts of a statement by how it is read: its references are names with their suffixes.
use Rattle.std.proofs.Common.{◌≡◌, Bool, true, false, List, [], ◌∷◌, ◌++◌, Option, Some, None}
use Rattle.ec_arguments.specs.Rules.{is_settable}
use Rattle.ec_ctypes.specs.declared.embedded.emb.Item.{Item}
use Rattle.ec_ctypes.specs.trees.Embedded.{HostData, TextArgData, word_arg, host_arg, host_with_indicator, InputData, host_input, const_input, InsData, listed_ins, area_ins, OutsData, no_outs, listed_outs, area_outs, PartData, bytes_part, host_part, EmbKindData, connect, set_connection, disconnect, autocommit, trans, server_text, declare_cursor, open_cursor, execute_immediate, prepare, execute, deallocate, allocate_area, free_area, get_count, get_items, set_count, set_items, whenever, include_sqlca, EmbData}
use Rattle.ec_ctypes.specs.trees.Exprs.{ExprData, integer, identifier, index, member, arrow}
use Rattle.ec_typing_defs.specs.statement_parts.References.{References, of_option, of_host, of_text, of_text_option, of_input, of_part, of_get_item, of_set_item, of_all, of_ins, of_outs, of_kind, references}
use Rattle.ec_sim_program_laws.specs.directive.References.{MakesNothing, MakeNothing}
use Rattle.ec_sim_world_laws.specs.place.References.{IsIndex, IsReference}
use Rattle.ec_sim_host_laws.specs.pointer.Pointers.{HasHosts, OutputsAreSome, AreSettable, ItemsAreSet}
use Rattle.ec_sim_host_laws.specs.reference.Found.{AreReferences}
use Rattle.ec_sim_world_laws.specs.test.Plain.{IsPlainAction}

-- ---- parts

abbrev pub OfList : {A : Type 0} → (A → Type 0) → List A → Type 0
OfList P [] = Unit {0}
OfList P (x ∷ xs) = P x × OfList P xs

pub list_both : {A : Type 0} (P : A → Type 0) (xs ys : List A) → OfList P xs → OfList P ys → OfList P (xs ++ ys)
list_both P [] ys h k = k
list_both P (x ∷ xs) ys h k = (h.0, list_both P xs ys h.1 k)

abbrev pub IsReferenceOption : Option ExprData → Type 0
IsReferenceOption None = Unit {0}
IsReferenceOption (Some e) = IsReference e

abbrev pub IsHost : HostData → Type 0
IsHost h = IsReference h.value × IsReferenceOption h.indicator

abbrev pub IsText : TextArgData → Type 0
IsText (word_arg b) = Unit {0}
IsText (host_arg e) = IsReference e
IsText (host_with_indicator e i) = IsReference e × IsReference i

abbrev pub IsTextOption : Option TextArgData → Type 0
IsTextOption None = Unit {0}
IsTextOption (Some a) = IsText a

abbrev pub IsInput : InputData → Type 0
IsInput (host_input h) = IsHost h
IsInput (const_input b) = Unit {0}

abbrev pub IsPart : PartData → Type 0
IsPart (bytes_part b) = Unit {0}
IsPart (host_part h) = IsHost h

abbrev pub IsGot : Item × HostData → Type 0
IsGot i = IsHost i.1

-- an item that can be set
abbrev pub IsSet : Item × InputData → Type 0
IsSet i = (is_settable i.0 ≡ true) × IsInput i.1

abbrev pub AreIns : InsData → Type 0
AreIns (listed_ins is) = OfList IsInput is
AreIns (area_ins a) = IsText a

-- a list has a host at least
abbrev pub AreOuts : OutsData → Type 0
AreOuts no_outs = Unit {0}
AreOuts (listed_outs hs) = HasHosts (listed_outs hs) × OfList IsHost hs
AreOuts (area_outs a) = IsText a

-- what is done, where AT stands before it or doesn't: AT stands before no DECLARE
abbrev pub IsMade : Bool → EmbKindData → Type 0
IsMade at (connect target name user password) = IsText target × IsTextOption name × IsTextOption user × IsTextOption password
IsMade at (set_connection name) = IsText name
IsMade at (disconnect name) = IsText name
IsMade at (autocommit on) = Unit {0}
IsMade at (trans text) = Unit {0}
IsMade at (server_text parts outs) = OfList IsPart parts × AreOuts outs
IsMade at (declare_cursor cursor parts prepared) = (at ≡ false) × OfList IsPart parts
IsMade at (open_cursor cursor ins) = AreIns ins
IsMade at (execute_immediate text) = IsText text
IsMade at (prepare name text) = IsText text
IsMade at (execute name ins outs) = AreIns ins × AreOuts outs
IsMade at (deallocate name) = Unit {0}
IsMade at (allocate_area area) = IsText area
IsMade at (free_area area) = IsText area
IsMade at (get_count area host) = IsText area × IsHost host
IsMade at (get_items area at' items) = IsText area × IsInput at' × OfList IsGot items
IsMade at (set_count area value) = IsText area × IsInput value
IsMade at (set_items area at' items) = IsText area × IsInput at' × OfList IsSet items
IsMade at (whenever condition action) = IsPlainAction action
IsMade at include_sqlca = Unit {0}

-- ---- the references of a statement, as a list

two : (rs qs : References) → AreReferences rs → AreReferences qs → AreReferences (rs ++ qs)
two [] qs h k = k
two (r ∷ rs) qs h k = (h.0, two rs qs h.1 k)

option_list : (e : Option ExprData) → IsReferenceOption e → AreReferences (of_option e)
option_list None h = tt
option_list (Some e) h = (h, tt)

host_list : (h : HostData) → IsHost h → AreReferences (of_host h)
host_list h p = (p.0, option_list h.indicator p.1)

text_list : (a : TextArgData) → IsText a → AreReferences (of_text a)
text_list (word_arg b) h = tt
text_list (host_arg e) h = (h, tt)
text_list (host_with_indicator e i) h = (h.0, (h.1, tt))

pub text_option_list : (a : Option TextArgData) → IsTextOption a → AreReferences (of_text_option a)
text_option_list None h = tt
text_option_list (Some a) h = text_list a h

input_list : (i : InputData) → IsInput i → AreReferences (of_input i)
input_list (host_input h) p = host_list h p
input_list (const_input b) p = tt

part_list : (p : PartData) → IsPart p → AreReferences (of_part p)
part_list (bytes_part b) h = tt
part_list (host_part x) h = host_list x h

all_list : {A : Type 0} (P : A → Type 0) (f : A → References) → ((a : A) → P a → AreReferences (f a)) → (xs : List A) → OfList P xs → AreReferences (of_all f xs)
all_list P f k [] h = tt
all_list P f k (x ∷ xs) h = two (f x) (of_all f xs) (k x h.0) (all_list P f k xs h.1)

ins_list : (i : InsData) → AreIns i → AreReferences (of_ins i)
ins_list (listed_ins is) h = all_list IsInput of_input input_list is h
ins_list (area_ins a) h = text_list a h

outs_list : (o : OutsData) → AreOuts o → AreReferences (of_outs o)
outs_list no_outs h = tt
outs_list (listed_outs hs) h = all_list IsHost of_host host_list hs h.1
outs_list (area_outs a) h = text_list a h

kind_list : (at : Bool) (e : EmbData) → IsMade at e.kind → AreReferences (of_kind e)
kind_list at e h = go e.kind h
  where
    go : (kind : EmbKindData) → IsMade at kind → AreReferences (of_kind (record e { kind = kind }))
    go (connect target name user password) h =
        two (of_text target) (of_text_option name ++ (of_text_option user ++ of_text_option password)) (text_list target h.0)
        (two (of_text_option name) (of_text_option user ++ of_text_option password) (text_option_list name h.1)
        (two (of_text_option user) (of_text_option password) (text_option_list user h.2) (text_option_list password h.3)))
    go (set_connection name) h = text_list name h
    go (disconnect name) h = text_list name h
    go (autocommit on) h = tt
    go (trans text) h = tt
    go (server_text parts outs) h = two (of_all of_part parts) (of_outs outs) (all_list IsPart of_part part_list parts h.0) (outs_list outs h.1)
    go (declare_cursor cursor parts prepared) h = all_list IsPart of_part part_list parts h.1
    go (open_cursor cursor ins) h = ins_list ins h
    go (execute_immediate text) h = text_list text h
    go (prepare name text) h = text_list text h
    go (execute name ins outs) h = two (of_ins ins) (of_outs outs) (ins_list ins h.0) (outs_list outs h.1)
    go (deallocate name) h = tt
    go (allocate_area area) h = text_list area h
    go (free_area area) h = text_list area h
    go (get_count area host) h = two (of_text area) (of_host host) (text_list area h.0) (host_list host h.1)
    go (get_items area at' items) h =
        two (of_text area) (of_input at' ++ of_all of_get_item items) (text_list area h.0)
        (two (of_input at') (of_all of_get_item items) (input_list at' h.1) (all_list IsGot of_get_item (λ i. host_list i.1) items h.2))
    go (set_count area value) h = two (of_text area) (of_input value) (text_list area h.0) (input_list value h.1)
    go (set_items area at' items) h =
        two (of_text area) (of_input at' ++ of_all of_set_item items) (text_list area h.0)
        (two (of_input at') (of_all of_set_item items) (input_list at' h.1) (all_list IsSet of_set_item (λ i s. input_list i.1 s.1) items h.2))
    go (whenever condition action) h = tt
    go include_sqlca h = tt

pub statement_list : (at : Bool) (e : EmbData) → IsTextOption e.at → IsMade at e.kind → AreReferences (references e)
statement_list at e h k = two (of_text_option e.at) (of_kind e) (text_option_list e.at h) (kind_list at e k)

-- ---- they make nothing

index_makes : (e : ExprData) → IsIndex e → MakesNothing e
index_makes (integer n t) h = tt
index_makes (identifier x) h = tt
index_makes _ h = absurd h

reference_makes : (e : ExprData) → IsReference e → MakesNothing e
reference_makes (identifier x) h = tt
reference_makes (index a b) h = (reference_makes a h.0, index_makes b h.1)
reference_makes (member e m) h = reference_makes e h
reference_makes (arrow e m) h = reference_makes e h
reference_makes _ h = absurd h

pub references_make : (rs : References) → AreReferences rs → MakeNothing rs
references_make [] h = tt
references_make (r ∷ rs) h = (reference_makes r.value h.0, references_make rs h.1)

-- ---- what is stored, and what is set

outs_some : (o : OutsData) → AreOuts o → HasHosts o
outs_some no_outs h = tt
outs_some (listed_outs hs) h = h.0
outs_some (area_outs a) h = tt

pub outputs_some : (at : Bool) (e : EmbData) → IsMade at e.kind → OutputsAreSome e
outputs_some at e h = go e.kind h
  where
    go : (kind : EmbKindData) → IsMade at kind → OutputsAreSome (record e { kind = kind })
    go (server_text parts outs) h = outs_some outs h.1
    go (execute name ins outs) h = outs_some outs h.1
    go _ h = tt

all_settable : (is : List (Item × InputData)) → OfList IsSet is → AreSettable is
all_settable [] h = tt
all_settable (i ∷ is) h = (h.0.0, all_settable is h.1)

pub items_set : (at : Bool) (e : EmbData) → IsMade at e.kind → ItemsAreSet e
items_set at e h = go e.kind h
  where
    go : (kind : EmbKindData) → IsMade at kind → ItemsAreSet (record e { kind = kind })
    go (set_items area at' items) h = all_settable items h.2
    go _ h = tt
