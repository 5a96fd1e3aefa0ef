-- The calls on descriptors, behind the names of these.
use Rattle.std.specs.Prelude.{ℕ, List, [], length, map, Some, Result, Ok, Err}
use Rattle.std.specs.Fmt.{decimal}
use Rattle.ec_arguments.specs.Arguments.{ItemMember, Place, host}
use Rattle.ec_ctypes.specs.declared.embedded.emb.Item.{Item as Kind}
use Rattle.ec_descriptors.specs.declared.stop.AreaStop.{AreaStop}
use Rattle.ec_descriptors.specs.declared.stop.AreaStop.TheVariants as stops
use Rattle.ec_meaning_defs.specs.evaluation.State.{State}
use Rattle.ec_call_defs.specs.Areas.{Areas, item_at, resized, set_item, without_area}
use Rattle.ec_call_defs.specs.Descriptors.{asks_indicator, index_of, item_set, items_set, items_stored, or_new, stored_in, values_read, with_descriptor}
use Rattle.ec_call_defs.specs.Inputs.{member_read}
use Rattle.ec_call_defs.specs.Outcomes.{Text, Field, Outcome, begun_area, gives, next, present, raised}
use Rattle.ec_call_defs.specs.Running.{area_found}
use Rattle.ec_runtime.specs.declared.call.Describe.{Describe}
use Rattle.ec_runtime.specs.declared.call.Describe.TheVariants as describes
use Rattle.ec_runtime.specs.Reading.{input_view}
use Rattle.ec_runtime.specs.Statements.{got_view, set_view}
use Rattle.ec_runtime.specs.Views.{host_view}

-- what a call on descriptors answers, told: new descriptors, or what is wrong
abbrev pub by_answer : ℕ → Result Areas AreaStop → State → Outcome (Unit {0})
by_answer line (Ok areas) s = gives tt (record s { descriptors = areas })
by_answer line (Err (stops.Found finding)) s = raised line finding s
by_answer line (Err stops.OutOfMemory) s = gives tt s

-- ---- each, once the area has its opening value

abbrev pub area_taken : ℕ → Text → State → Outcome (Unit {0})
area_taken line called s =
    next (area_found line called s)
    (λ items t. gives tt (record t { descriptors = without_area called t.descriptors }))

abbrev pub count_got : ℕ → Text → Place ℕ → State → Outcome (Unit {0})
count_got line called p s =
    next (area_found line called s)
    (λ items t. stored_in line (host p) (Some (decimal (length items))) t)

abbrev pub count_put : ℕ → Text → Field → State → Outcome (Unit {0})
count_put line called text s =
    next (area_found line called s) (λ items t.
    next (index_of line 0 1000 text t) (λ n u.
    gives tt (with_descriptor called (resized n items) u)))

abbrev pub items_got : ℕ → Text → Field → List (ItemMember ℕ) → State → Outcome (Unit {0})
items_got line called text wanted s =
    next (area_found line called s) (λ items t.
    next (index_of line 1 (length items) text t) (λ n u.
    next (present (item_at n items) u) (λ it v.
    items_stored line (asks_indicator wanted) it wanted v)))

-- one item
abbrev pub value_put : ℕ → Text → ℕ → Kind × Field → State → Outcome (Unit {0})
value_put line called n value s =
    next (area_found line called s)
    (λ items t. item_set line called n items (set_item value.0 value.1 (or_new (item_at n items))) t)

abbrev pub items_put : ℕ → Text → Field → List (Kind × Field) → State → Outcome (Unit {0})
items_put line called text values s =
    next (area_found line called s) (λ items t.
    next (index_of line 1 1000 text t) (λ n u. items_set line called n values u))

-- ---- each, once its name is read

abbrev pub described : ℕ → Describe → Text → State → Outcome (Unit {0})
described line describes.Allocate called s =
    next (begun_area s) (λ _ t. gives tt (with_descriptor called [] t))
described line describes.Deallocate called s =
    next (begun_area s) (λ _ t. area_taken line called t)
described line (describes.GetCount h) called s =
    next (begun_area s) (λ _ t. count_got line called (host_view h) t)
described line (describes.SetCount value) called s =
    next (member_read (input_view value) s) (λ text t.
    next (begun_area t) (λ _ u. count_put line called text u))
described line (describes.GetItems index wanted) called s =
    next (member_read (input_view index) s) (λ text t.
    next (begun_area t) (λ _ u. items_got line called text (map got_view wanted) u))
described line (describes.SetItems index given) called s =
    next (member_read (input_view index) s) (λ text t.
    next (values_read (map set_view given) t) (λ values u.
    next (begun_area u) (λ _ v. items_put line called text values v)))
