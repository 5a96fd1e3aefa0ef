-- The calls on descriptors, which need no connection.
use Rattle.std.specs.Prelude.{ℕ, Bool, true, false, ◌||◌, ℤ, List, [], ◌∷◌, length, slice_set, ◌-◌, Option, Some, None}
use Rattle.std.specs.Fmt.{decimal}
use Rattle.ec_arguments.specs.Arguments.{TextArg, Member, host, constant, descriptor, ItemMember}
use Rattle.ec_ctypes.specs.declared.embedded.emb.Item.{Item as Kind}
use Rattle.ec_ctypes.specs.declared.embedded.emb.Item.TheVariants as item
use Rattle.ec_ctypes.specs.declared.types.arith.Arith.TheVariants.{Long}
use Rattle.ec_transfer_defs.specs.declared.finding.Finding.TheVariants as found
use Rattle.ec_meaning_defs.specs.evaluation.State.{Item, State}
use Rattle.ec_call_defs.specs.Outcomes.{Text, Field, stuck, Outcome, gives, over, next, present, begun_area, raised}
use Rattle.ec_call_defs.specs.Inputs.{host_data, given_read, member_read}
use Rattle.ec_call_defs.specs.Storing.{field_kept}
use Rattle.ec_call_defs.specs.Areas.{with_area, without_area, resized, raised_to, number_as, within, item_at, item_text, set_item, new_item}
use Rattle.ec_call_defs.specs.Running.{area_found}

abbrev pub with_descriptor : Text → List Item → State → State
with_descriptor name items s = record s { descriptors = with_area name items s.descriptors }

-- ---- whole descriptors

-- an empty descriptor, in the place of one that is there
abbrev pub allocate_call : ℕ → TextArg ℕ → State → Outcome (Unit {0})
allocate_call line name s = next (given_read name s)
    (λ called s. next (begun_area s) (λ _ s. gives tt (with_descriptor called [] s)))

abbrev pub deallocate_descriptor_call : ℕ → TextArg ℕ → State → Outcome (Unit {0})
deallocate_descriptor_call line name s =
    next (given_read name s) (λ called s.
    next (begun_area s) (λ _ s.
    next (area_found line called s) (λ items s.
    gives tt (record s { descriptors = without_area called s.descriptors }))))

-- ---- numbers

abbrev pub found_number : ℕ → Option ℤ → State → Outcome ℤ
found_number line None s = raised line found.NotAnInteger s
found_number line (Some z) s = gives z s

abbrev pub in_range : ℕ → Option ℕ → State → Outcome ℕ
in_range line None s = raised line found.DescriptorIndex s
in_range line (Some n) s = gives n s

-- a text as a number from the first to the second
abbrev pub index_of : ℕ → ℕ → ℕ → Field → State → Outcome ℕ
index_of line low high text s =
    next (found_number line (number_as Long text) s) (λ z t. in_range line (within low high z) t)

-- ---- COUNT

-- a field is stored in a host
abbrev pub stored_in : ℕ → Member ℕ → Field → State → Outcome (Unit {0})
stored_in line (host p) field s =
    next (present (host_data p) s) (λ h t. field_kept line h 0 field t)
stored_in line (constant bytes) field s = over stuck s
stored_in line (descriptor name) field s = over stuck s

abbrev pub get_count_call : ℕ → TextArg ℕ → Member ℕ → State → Outcome (Unit {0})
get_count_call line name target s =
    next (given_read name s) (λ called s.
    next (begun_area s) (λ _ s.
    next (area_found line called s) (λ items s.
    stored_in line target (Some (decimal (length items))) s)))

abbrev pub set_count_call : ℕ → TextArg ℕ → Member ℕ → State → Outcome (Unit {0})
set_count_call line name value s =
    next (given_read name s) (λ called s.
    next (member_read value s) (λ text s.
    next (begun_area s) (λ _ s.
    next (area_found line called s) (λ items s.
    next (index_of line 0 1000 text s) (λ n s.
    gives tt (with_descriptor called (resized n items) s))))))

-- ---- items that are got

-- whether a statement asks for the indicator
abbrev pub is_indicator : Kind → Bool
is_indicator item.Indicator = true
is_indicator item.Content = false
is_indicator item.Label = false
is_indicator item.Code = false
is_indicator item.Octets = false

abbrev pub asks_indicator : List (ItemMember ℕ) → Bool
asks_indicator [] = false
asks_indicator (i ∷ is) = is_indicator i.0 || asks_indicator is

abbrev pub has_indicator : Member ℕ → Bool
has_indicator (host p) = elim p.ind [ None ↦ false | Some i ↦ true ]
has_indicator (constant bytes) = false
has_indicator (descriptor name) = false

-- what an item gives is stored. A NULL is told by an indicator of its place; else, where the statement asks for the indicator, the place stays as it is
abbrev pub item_stored : ℕ → Bool → Member ℕ → Field → State → Outcome (Unit {0})
item_stored line asked target (Some text) s = stored_in line target (Some text) s
item_stored line asked target None s = elim (has_indicator target) [
  | true ↦ stored_in line target None s
  | false ↦ elim asked [ true ↦ gives tt s | false ↦ stored_in line target None s ]
]

abbrev pub items_stored : ℕ → Bool → Item → List (ItemMember ℕ) → State → Outcome (Unit {0})
items_stored line asked it [] s = gives tt s
items_stored line asked it (i ∷ is) s =
    next (item_stored line asked i.1 (item_text i.0 it) s) (λ _ t. items_stored line asked it is t)

-- the index is one of those that are there
abbrev pub get_items_call : ℕ → TextArg ℕ → Member ℕ →
    List (ItemMember ℕ) → State → Outcome (Unit {0})
get_items_call line name index wanted s =
    next (given_read name s) (λ called s.
    next (member_read index s) (λ text s.
    next (begun_area s) (λ _ s.
    next (area_found line called s) (λ items s.
    next (index_of line 1 (length items) text s) (λ n s.
    next (present (item_at n items) s) (λ it s.
    items_stored line (asks_indicator wanted) it wanted s))))))

-- ---- items that are set

-- values are read in order
abbrev pub values_read : List (ItemMember ℕ) → State → Outcome (List (Kind × Field))
values_read [] s = gives [] s
values_read (i ∷ is) s = next (member_read i.1 s)
    (λ text t. next (values_read is t) (λ rest u. gives ((i.0, text) ∷ rest) u))

abbrev pub or_new : Option Item → Item
or_new None = new_item
or_new (Some it) = it

-- an item that is set raises the count where there are fewer; one that can't be set changes nothing
abbrev pub item_set : ℕ → Text → ℕ → List Item → Option Item → State → Outcome (Unit {0})
item_set line name n items None s = raised line found.NotAnInteger s
item_set line name n items (Some it) s =
    gives tt (with_descriptor name (slice_set (raised_to n items) (n - 1) it) s)

abbrev pub items_set : ℕ → Text → ℕ → List (Kind × Field) → State → Outcome (Unit {0})
items_set line name n [] s = gives tt s
items_set line name n (v ∷ vs) s =
    next (area_found line name s) (λ items t.
    next (item_set line name n items (set_item v.0 v.1 (or_new (item_at n items))) t) (λ _ u.
    items_set line name n vs u))

-- the index is tested before the items
abbrev pub set_items_call : ℕ → TextArg ℕ → Member ℕ →
    List (ItemMember ℕ) → State → Outcome (Unit {0})
set_items_call line name index given s =
    next (given_read name s) (λ called s.
    next (member_read index s) (λ text s.
    next (values_read given s) (λ values s.
    next (begun_area s) (λ _ s.
    next (area_found line called s) (λ items s.
    next (index_of line 1 1000 text s) (λ n s.
    items_set line called n values s))))))
