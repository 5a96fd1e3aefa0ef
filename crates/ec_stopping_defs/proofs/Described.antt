-- The calls on descriptors, which say nothing at all.
use Rattle.std.proofs.Common.{ℕ, List, [], ◌∷◌, length, Option, Some, None, Bool}
use Rattle.std.specs.Prelude.{ℤ, slice_set, ◌-◌}
use Rattle.std.specs.Fmt.{decimal}
use Rattle.ec_arguments.specs.Arguments.{TextArg, Member, host, constant, descriptor, ItemMember}
use Rattle.ec_ctypes.specs.declared.embedded.emb.Item.{Item as Kind}
use Rattle.ec_ctypes.specs.declared.types.arith.Arith.TheVariants.{Long}
use Rattle.ec_transfer_defs.specs.declared.finding.Finding.TheVariants as found
use Rattle.ec_meaning_defs.specs.evaluation.State.{Item}
use Rattle.ec_call_defs.specs.Areas.{with_area, without_area, resized, raised_to, number_as, within, item_at, item_text, set_item}
use Rattle.ec_call_defs.specs.Descriptors.{with_descriptor, allocate_call, deallocate_descriptor_call, found_number, in_range, index_of, stored_in, get_count_call, set_count_call, has_indicator, asks_indicator, item_stored, items_stored, get_items_call, values_read, or_new, item_set, items_set, set_items_call}
use Rattle.ec_call_defs.specs.Inputs.{host_data}
use Rattle.ec_call_defs.specs.Outcomes.{Text, Field, gives}
use Rattle.ec_stopping_defs.proofs.Silent.{IsSilent, gives_silent, stuck_silent, next_silent, bool_silent, present_silent, descriptors_silent, raised_silent, begun_area_silent, given_silent, member_silent, field_silent, area_silent}

with_descriptor_silent : (name : Text) (items : List Item) → IsSilent (λ s. gives (tt {0}) (with_descriptor name items s))
with_descriptor_silent name items = descriptors_silent tt (λ ds. with_area name items ds)

pub allocate_silent : (n : ℕ) (name : TextArg ℕ) → IsSilent (λ s. allocate_call n name s)
allocate_silent n name = next_silent (given_silent name) (λ called. next_silent begun_area_silent (λ _. with_descriptor_silent called []))

pub free_silent : (n : ℕ) (name : TextArg ℕ) → IsSilent (λ s. deallocate_descriptor_call n name s)
free_silent n name =
    next_silent (given_silent name) (λ called.
    next_silent begun_area_silent (λ _.
    next_silent (area_silent n called) (λ items.
    descriptors_silent tt (λ ds. without_area called ds))))

found_number_silent : (n : ℕ) (x : Option ℤ) → IsSilent (λ s. found_number n x s)
found_number_silent n None = raised_silent n found.NotAnInteger
found_number_silent n (Some z) = gives_silent z

in_range_silent : (n : ℕ) (x : Option ℕ) → IsSilent (λ s. in_range n x s)
in_range_silent n None = raised_silent n found.DescriptorIndex
in_range_silent n (Some k) = gives_silent k

index_silent : (n low high : ℕ) (field : Field) → IsSilent (λ s. index_of n low high field s)
index_silent n low high field = next_silent (found_number_silent n (number_as Long field)) (λ z. in_range_silent n (within low high z))

stored_in_silent : (n : ℕ) (m : Member ℕ) (field : Field) → IsSilent (λ s. stored_in n m field s)
stored_in_silent n (host p) field = next_silent (present_silent (host_data p)) (λ h. field_silent n h 0 field)
stored_in_silent n (constant bytes) field = stuck_silent
stored_in_silent n (descriptor name) field = stuck_silent

pub get_count_silent : (n : ℕ) (name : TextArg ℕ) (target : Member ℕ) → IsSilent (λ s. get_count_call n name target s)
get_count_silent n name target =
    next_silent (given_silent name) (λ called.
    next_silent begun_area_silent (λ _.
    next_silent (area_silent n called) (λ items.
    stored_in_silent n target (Some (decimal (length items))))))

pub set_count_silent : (n : ℕ) (name : TextArg ℕ) (source : Member ℕ) → IsSilent (λ s. set_count_call n name source s)
set_count_silent n name source =
    next_silent (given_silent name) (λ called.
    next_silent (member_silent source) (λ field.
    next_silent begun_area_silent (λ _.
    next_silent (area_silent n called) (λ items.
    next_silent (index_silent n 0 1000 field) (λ k.
    with_descriptor_silent called (resized k items))))))

item_silent : (n : ℕ) (indicated : Bool) (target : Member ℕ) (field : Field) → IsSilent (λ s. item_stored n indicated target field s)
item_silent n indicated target (Some bytes) = stored_in_silent n target (Some bytes)
item_silent n indicated target None =
    bool_silent (has_indicator target) (stored_in_silent n target None) (bool_silent indicated (gives_silent tt) (stored_in_silent n target None))

items_silent : (n : ℕ) (indicated : Bool) (it : Item) (is : List (ItemMember ℕ)) → IsSilent (λ s. items_stored n indicated it is s)
items_silent n indicated it [] = gives_silent tt
items_silent n indicated it (i ∷ is) = next_silent (item_silent n indicated i.1 (item_text i.0 it)) (λ _. items_silent n indicated it is)

pub get_items_silent : (n : ℕ) (name : TextArg ℕ) (index : Member ℕ) (is : List (ItemMember ℕ)) → IsSilent (λ s. get_items_call n name index is s)
get_items_silent n name index is =
    next_silent (given_silent name) (λ called.
    next_silent (member_silent index) (λ field.
    next_silent begun_area_silent (λ _.
    next_silent (area_silent n called) (λ items.
    next_silent (index_silent n 1 (length items) field) (λ k.
    next_silent (present_silent (item_at k items)) (λ it.
    items_silent n (asks_indicator is) it is))))))

values_silent : (is : List (ItemMember ℕ)) → IsSilent (λ s. values_read is s)
values_silent [] = gives_silent []
values_silent (i ∷ is) = next_silent (member_silent i.1) (λ field. next_silent (values_silent is) (λ rest. gives_silent ((i.0, field) ∷ rest)))

item_set_silent : (n : ℕ) (name : Text) (k : ℕ) (items : List Item) (x : Option Item) → IsSilent (λ s. item_set n name k items x s)
item_set_silent n name k items None = raised_silent n found.NotAnInteger
item_set_silent n name k items (Some it) = with_descriptor_silent name (slice_set (raised_to k items) (k - 1) it)

items_set_silent : (n : ℕ) (name : Text) (k : ℕ) (vs : List (Kind × Field)) → IsSilent (λ s. items_set n name k vs s)
items_set_silent n name k [] = gives_silent tt
items_set_silent n name k (v ∷ vs) =
    next_silent (area_silent n name) (λ items.
    next_silent (item_set_silent n name k items (set_item v.0 v.1 (or_new (item_at k items)))) (λ _.
    items_set_silent n name k vs))

pub set_items_silent : (n : ℕ) (name : TextArg ℕ) (index : Member ℕ) (is : List (ItemMember ℕ)) → IsSilent (λ s. set_items_call n name index is s)
set_items_silent n name index is =
    next_silent (given_silent name) (λ called.
    next_silent (member_silent index) (λ field.
    next_silent (values_silent is) (λ values.
    next_silent begun_area_silent (λ _.
    next_silent (area_silent n called) (λ items.
    next_silent (index_silent n 1 1000 field) (λ k.
    items_set_silent n called k values))))))
