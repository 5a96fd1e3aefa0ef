-- SQL descriptors: the items under a name (PostgreSQL manual, "Using Descriptor Areas").
use Rattle.std.specs.Prelude.{ℕ, zero, suc, ◌-◌, ◌&&◌, nat_le, cond, ℤ, pos, negsuc, int_lt, List, [], ◌∷◌, ◌++◌, map, length, slice_get, zip, Option, Some, None, option_map, option_and_then}
use Rattle.std.specs.Fmt.{decimal, signed_decimal}
use Rattle.ec_arguments.specs.Arguments.{TextArg}
use Rattle.ec_ctypes.specs.declared.types.arith.Arith.{Arith}
use Rattle.ec_ctypes.specs.declared.types.arith.Arith.TheVariants.{Int, Long}
use Rattle.ec_ctypes.specs.declared.embedded.emb.Item.{Item as Kind}
use Rattle.ec_ctypes.specs.declared.embedded.emb.Item.TheVariants as item
use Rattle.ec_link.specs.declared.table.Col.{Col}
use Rattle.ec_transfer_defs.specs.declared.finding.Finding.TheVariants as found
use Rattle.ec_transfer_defs.specs.Conversion.{field_number, fits}
use Rattle.ec_meaning_defs.specs.evaluation.State.{Item, State}
use Rattle.ec_call_defs.specs.Outcomes.{Text, Field, Outcome, gives, next, begun_area}
use Rattle.ec_direct_defs.specs.Names.{needed, is_under, under, with_under, first_removed}
use Rattle.ec_direct_defs.specs.Texts.{text_wanted}

-- ---- whole descriptors

-- the items under a name, which has to be there
abbrev pub items_under : ℕ → Text → State → Outcome (List Item)
items_under line name s = needed line found.NoDescriptor (under name s.descriptors) s

abbrev pub with_items : Text → List Item → State → State
with_items name items s = record s { descriptors = with_under name items s.descriptors }

-- an empty one, in the place of one that is there
abbrev pub descriptor_allocated : TextArg ℕ → State → Outcome (Unit {0})
descriptor_allocated name s =
    next (text_wanted name s) (λ called s.
    next (begun_area s) (λ _ s.
    gives tt (with_items called [] s)))

abbrev pub descriptor_freed : ℕ → TextArg ℕ → State → Outcome (Unit {0})
descriptor_freed line name s =
    next (text_wanted name s) (λ called s.
    next (begun_area s) (λ _ s.
    next (items_under line called s) (λ items s.
    gives tt (record s { descriptors = first_removed (is_under called) s.descriptors }))))

-- ---- items

-- NULL, without a name, of type 12
abbrev pub blank_item : Item
blank_item = record { content = None; label = []; code = pos 12 }

-- so many items: the first ones that are there, and blank ones behind them
abbrev pub first_items : ℕ → List Item → List Item
first_items zero items = []
first_items (suc n) [] = blank_item ∷ first_items n []
first_items (suc n) (it ∷ its) = it ∷ first_items n its

-- with an item behind so many others. Where there are fewer, blank ones stand between
abbrev pub with_item_behind : ℕ → Item → List Item → List Item
with_item_behind zero it [] = it ∷ []
with_item_behind zero it (old ∷ its) = it ∷ its
with_item_behind (suc n) it [] = blank_item ∷ with_item_behind n it []
with_item_behind (suc n) it (old ∷ its) = old ∷ with_item_behind n it its

abbrev pub item_behind : ℕ → List Item → Item
item_behind n items = elim (slice_get items n) [ None ↦ blank_item | Some it ↦ it ]

-- the contents, in order
abbrev pub contents_of : List Item → List Field
contents_of items = map (λ it. it.content) items

-- the items of a row: its fields, each with the name and the type of its column
abbrev pub row_items : List Col → List Field → List Item
row_items columns fields = map (λ p. record {
  content = p.1;
  label = p.0.name;
  code = p.0.code;
}) (zip columns fields)

-- ---- numbers

-- a text as a number of an integer type
abbrev pub number_of_type : Arith → Field → Option ℤ
number_of_type type field = option_and_then (λ bytes. option_and_then (λ z.
    cond (fits type z) (Some z) None) (field_number bytes)) field

abbrev pub natural_between : ℕ → ℕ → ℤ → Option ℕ
natural_between low high (pos n) = cond (nat_le low n && nat_le n high) (Some n) None
natural_between low high (negsuc n) = None

-- a count or an index: a number of type long from the first to the second
abbrev pub number_between : ℕ → ℕ → ℕ → Field → State → Outcome ℕ
number_between line low high field s =
    next (needed line found.NotAnInteger (number_of_type Long field) s) (λ z t.
    needed line found.DescriptorIndex (natural_between low high z) t)

-- ---- what an item gives and takes

-- as a text: DATA, or none for NULL; INDICATOR, -1 for NULL and else 0; NAME; TYPE; and RETURNED_OCTET_LENGTH, which is 0 for NULL
abbrev pub given_text : Kind → Item → Field
given_text item.Content it = it.content
given_text item.Indicator it =
    Some (signed_decimal (elim it.content [ None ↦ negsuc 0 | Some bytes ↦ pos 0 ]))
given_text item.Label it = Some it.label
given_text item.Code it = Some (signed_decimal it.code)
given_text item.Octets it =
    Some (decimal (elim it.content [ None ↦ 0 | Some bytes ↦ length bytes ]))

-- An item that is set: DATA; TYPE; or INDICATOR, which makes it NULL where it is negative. A text that is no int is refused, and so are the others
abbrev pub taken_text : Kind → Field → Item → Option Item
taken_text item.Content field it = Some (record it { content = field })
taken_text item.Indicator field it = option_map (λ z.
    cond (int_lt z (pos 0)) (record it { content = None }) it) (number_of_type Int field)
taken_text item.Code field it = option_map (λ z. record it { code = z }) (number_of_type Int field)
taken_text item.Label field it = None
taken_text item.Octets field it = None

-- Values are set one after the other in the item of an index, the first being 1. One that can't be set is a code; those before it stay
abbrev pub values_taken : ℕ → Text → ℕ → List (Kind × Field) → State → Outcome (Unit {0})
values_taken line name n [] s = gives tt s
values_taken line name n (v ∷ vs) s =
    next (items_under line name s) (λ items t.
    next (needed line found.NotAnInteger (taken_text v.0 v.1 (item_behind (n - 1) items)) t) (λ it u.
    values_taken line name n vs (with_items name (with_item_behind (n - 1) it items) u)))
