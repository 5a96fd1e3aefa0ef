-- SQL descriptors: lists of items, each list with its name (PostgreSQL manual, chapter ECPG, Using Descriptor Areas).
use Rattle.std.specs.Prelude.{ℕ, zero, suc, ◌-◌, ◌&&◌, true, false, ℤ, pos, int_le, int_lt, unsigned_abs, negsuc, List, [], ◌∷◌, ◌++◌, take, length, replicate, slice_get, Option, Some, None, option_map, option_and_then}
use Rattle.std.specs.Fmt.{decimal, signed_decimal}
use Rattle.ec_ctypes.specs.declared.types.arith.Arith.{Arith}
use Rattle.ec_ctypes.specs.declared.types.arith.Arith.TheVariants.{Int}
use Rattle.ec_ctypes.specs.declared.embedded.emb.Item.{Item as Kind}
use Rattle.ec_ctypes.specs.declared.embedded.emb.Item.TheVariants as item
use Rattle.ec_link.specs.declared.table.Col.{Col}
use Rattle.ec_transfer_defs.specs.Conversion.{field_number, fits}
use Rattle.ec_meaning_defs.specs.evaluation.State.{Item}
use Rattle.ec_call_defs.specs.Outcomes.{Text, Field}
use Rattle.ec_call_defs.specs.Connections.{same_name}

abbrev pub Areas : Type 0
Areas = List (Text × List Item)

-- the items of a descriptor
abbrev pub area_named : Text → Areas → Option (List Item)
area_named name [] = None
area_named name (a ∷ as') =
    elim (same_name a.0 name) [ true ↦ Some a.1 | false ↦ area_named name as' ]

-- with these items under a name: in the place of those that are there, or behind all others
abbrev pub with_area : Text → List Item → Areas → Areas
with_area name items [] = (name, items) ∷ []
with_area name items (a ∷ as') =
    elim (same_name a.0 name) [ true ↦ (name, items) ∷ as' | false ↦ a ∷ with_area name items as' ]

abbrev pub without_area : Text → Areas → Areas
without_area name [] = []
without_area name (a ∷ as') =
    elim (same_name a.0 name) [ true ↦ as' | false ↦ a ∷ without_area name as' ]

-- a new item: NULL, without a name, of type 12
abbrev pub new_item : Item
new_item = record { content = None; label = []; code = pos 12 }

-- so many items: the first ones, or new ones behind those that are there
abbrev pub resized : ℕ → List Item → List Item
resized n items = take n items ++ replicate (n - length items) new_item

-- with at least so many items
abbrev pub raised_to : ℕ → List Item → List Item
raised_to n items = items ++ replicate (n - length items) new_item

-- ---- numbers

-- a text as a number of an integer type: NULL is none
abbrev pub number_as : Arith → Field → Option ℤ
number_as type None = None
number_as type (Some text) =
    option_and_then (λ z. elim (fits type z) [ true ↦ Some z | false ↦ None ]) (field_number text)

-- a number from the first to the second, as a natural number
abbrev pub within : ℕ → ℕ → ℤ → Option ℕ
within low high z =
    elim (int_le (pos low) z && int_le z (pos high)) [ true ↦ Some (unsigned_abs z) | false ↦ None ]

-- ---- items

-- the item of an index, the first being 1
abbrev pub item_at : ℕ → List Item → Option Item
item_at zero items = None
item_at (suc n) items = slice_get items n

-- what an item gives as a text. DATA of a NULL gives none
abbrev pub length_of : Field → ℕ
length_of None = 0
length_of (Some text) = length text

abbrev pub null_text : Field → ℤ
null_text None = negsuc 0
null_text (Some text) = pos 0

abbrev pub item_text : Kind → Item → Field
item_text item.Content it = it.content
item_text item.Indicator it = Some (signed_decimal (null_text it.content))
item_text item.Label it = Some it.label
item_text item.Code it = Some (signed_decimal it.code)
item_text item.Octets it = Some (decimal (length_of it.content))

-- an item that is set: a negative indicator makes it NULL, and another one leaves it. No int is none
abbrev pub nulled : ℤ → Item → Item
nulled z it = elim (int_lt z (pos 0)) [ true ↦ record it { content = None } | false ↦ it ]

abbrev pub set_item : Kind → Field → Item → Option Item
set_item item.Content text it = Some (record it { content = text })
set_item item.Indicator text it = option_map (λ z. nulled z it) (number_as Int text)
set_item item.Code text it = option_map (λ z. record it { code = z }) (number_as Int text)
set_item item.Label text it = None
set_item item.Octets text it = None

-- the items of a row, under its columns
abbrev pub items_of : List Col → List Field → List Item
items_of [] fields = []
items_of (c ∷ cs) [] = []
items_of (c ∷ cs) (field ∷ fields) =
    record { content = field; label = c.name; code = c.code } ∷ items_of cs fields

-- the contents of items, in order
abbrev pub contents : List Item → List Field
contents [] = []
contents (it ∷ its) = it.content ∷ contents its
