-- What the calls on descriptors answer: a value or new descriptors, or what they find wrong, by which nothing is changed.
use Rattle.std.specs.Prelude.{◌≡◌, ℕ, ◌-◌, ℤ, List, length, slice_set, Option, Some, None, Result, Ok, Err}
use Rattle.std.proofs.Common.{Bor}
use Rattle.ec_ctypes.specs.declared.embedded.emb.Item.{Item as Kind}
use Rattle.ec_link.specs.declared.table.Col.{Col}
use Rattle.ec_transfer_defs.specs.declared.finding.Finding.TheVariants as found
use Rattle.ec_meaning_defs.specs.evaluation.State.{Item}
use Rattle.ec_call_defs.specs.Areas.{Areas, area_named, item_at, items_of, raised_to, resized, set_item, with_area, within, without_area}
use Rattle.ec_call_defs.specs.Descriptors.{or_new}
use Rattle.ec_call_defs.specs.Outcomes.{Text, Field}
use Rattle.ec_descriptors.specs.declared.items.AreaItem.{AreaItem}
use Rattle.ec_descriptors.specs.declared.stop.AreaStop.{AreaStop}
use Rattle.ec_descriptors.specs.declared.stop.AreaStop.TheVariants as stops
use Rattle.ec_descriptors.specs.Views.{item_view}

-- with the items of a descriptor, which has to be there
abbrev pub with_items : {A : Type 0} → Option (List Item) → (List Item → Result A AreaStop) →
    Result A AreaStop
with_items None go = Err (stops.Found found.NoDescriptor)
with_items (Some items) go = go items

-- with a number that has to be in its range
abbrev pub with_number : {A : Type 0} → Option ℕ → (ℕ → Result A AreaStop) → Result A AreaStop
with_number None go = Err (stops.Found found.DescriptorIndex)
with_number (Some n) go = go n

-- ---- what is read

abbrev pub counted : Text → Areas → Result ℕ AreaStop
counted name areas = with_items (area_named name areas) (λ items. Ok (length items))

-- the item of a number, which is from 1 to the count
abbrev pub item_there : Option Item → Result Item AreaStop
item_there None = Err (stops.Found found.DescriptorIndex)
item_there (Some it) = Ok it

abbrev pub item_of : ℤ → List Item → Result Item AreaStop
item_of index items = with_number (within 1 (length items) index)
    (λ n. item_there (item_at n items))

abbrev pub item_found : Text → ℤ → Areas → Result Item AreaStop
item_found name index areas = with_items (area_named name areas) (λ items. item_of index items)

-- an item that is answered
abbrev pub item_seen : Result (Bor AreaItem) AreaStop → Result Item AreaStop
item_seen (Ok it) = Ok (item_view it.now)
item_seen (Err stop) = Err stop

-- ---- what is changed

abbrev pub deallocated : Text → Areas → Result Areas AreaStop
deallocated name areas = with_items (area_named name areas) (λ items. Ok (without_area name areas))

abbrev pub filled : Text → List Col → List Field → Areas → Result Areas AreaStop
filled name cols fields areas =
    with_items (area_named name areas) (λ items. Ok (with_area name (items_of cols fields) areas))

abbrev pub count_set : Text → ℤ → Areas → Result Areas AreaStop
count_set name count areas =
    with_items (area_named name areas) (λ items.
    with_number (within 0 1000 count) (λ n.
    Ok (with_area name (resized n items) areas)))

-- the item that is set stands in the place of the one of its number, behind new ones where there are fewer
abbrev pub item_put : Text → ℕ → List Item → Areas → Option Item → Result Areas AreaStop
item_put name n items areas None = Err (stops.Found found.NotAnInteger)
item_put name n items areas (Some it) =
    Ok (with_area name (slice_set (raised_to n items) (n - 1) it) areas)

abbrev pub item_set : Text → ℤ → Kind → Field → Areas → Result Areas AreaStop
item_set name index what text areas =
    with_items (area_named name areas) (λ items.
    with_number (within 1 1000 index) (λ n.
    item_put name n items areas (set_item what text (or_new (item_at n items)))))

-- a call leaves what it is to leave, or answers what it finds wrong, or found no memory; these two change nothing
abbrev pub Changes : Result (Unit {0}) AreaStop → Areas → Areas → Result Areas AreaStop → Type 0
Changes (Ok x) old new answer = answer ≡ Ok new
Changes (Err (stops.Found finding)) old new answer =
    (answer ≡ Err (stops.Found finding)) × (new ≡ old)
Changes (Err stops.OutOfMemory) old new answer = new ≡ old
