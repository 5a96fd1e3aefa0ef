-- Statements on SQL descriptors: ALLOCATE, GET and SET (PostgreSQL manual, "Using Descriptor Areas"), as shapes, with the tree that each makes. DEALLOCATE stands beside that of prepared statements.
use Rattle.std.specs.Prelude.{List, [], ◌∷◌, map, codes, Option, Some, None}
use Rattle.std.proofs.Common.{inl, inr}
use Rattle.ec_ctypes.specs.declared.embedded.emb.Item.{Item}
use Rattle.ec_ctypes.specs.declared.embedded.emb.Item.TheVariants as item
use Rattle.ec_ctypes.specs.trees.Embedded.{HostData, InputData, host_input, EmbKindData, allocate_area, get_count, get_items, set_count, set_items}
use Rattle.ec_ctypes.specs.trees.Exprs.{ExprData}
use Rattle.ec_embedded.specs.shapes.Shapes.{one, both, either}
use Rattle.ec_language.specs.SqlTokens.{SqlToken}
use Rattle.ec_embedded.specs.Terminals.{input, reference, sign}
use Rattle.ec_embedded.specs.References.{Form, Of, row, choice, further, listed, gathered, word, named, reference_form, host_form, host_of, text_form, text_of, spelled_text_form, spelled_text_of, constant_form, constant_of, value_form, value_of, spelled_value_form, spelled_value_of}

unfoldable pub allocate_form : Form
allocate_form = row (word (codes "ALLOCATE") ∷ word (codes "DESCRIPTOR") ∷ text_form ∷ [])

abbrev pub allocate_of : Of allocate_form → EmbKindData
unfolding allocate_form
allocate_of (a, (d, v)) = allocate_area (text_of v)

-- ---- GET DESCRIPTOR

unfoldable pub item_form : Form
item_form = choice (word (codes "DATA")) (word (codes "INDICATOR") ∷ word (codes "NAME")
    ∷ word (codes "TYPE") ∷ word (codes "RETURNED_OCTET_LENGTH") ∷ [])

abbrev pub item_of : Of item_form → Item
unfolding item_form
item_of (inl v) = item.Content
item_of (inr (inl v)) = item.Indicator
item_of (inr (inr (inl v))) = item.Label
item_of (inr (inr (inr (inl v)))) = item.Code
item_of (inr (inr (inr (inr v)))) = item.Octets

unfoldable pub got_form : Form
got_form = row (host_form reference ∷ one (sign (codes "=")) ∷ item_form ∷ [])

abbrev pub got_of : Of got_form → Item × HostData
unfolding got_form
got_of (h, (s, v)) = (item_of v, host_of reference h)

-- A `:` behind the host of the name or of the index begins the host that is stored into, so the indicator of these two is spelled.
unfoldable pub get_form : Form
get_form = row (word (codes "GET") ∷ word (codes "DESCRIPTOR") ∷ spelled_text_form
    ∷ either (row (word (codes "VALUE") ∷ spelled_value_form ∷ listed got_form ∷ []))
    (row (host_form reference ∷ one (sign (codes "=")) ∷ word (codes "COUNT") ∷ [])) ∷ [])

abbrev pub get_of : Of get_form → EmbKindData
unfolding get_form
get_of (g, (d, (a, inl (v, (i, l))))) =
    get_items (spelled_text_of a) (spelled_value_of i) (gathered got_of l.0 l.1)
get_of (g, (d, (a, inr (h, v)))) = get_count (spelled_text_of a) (host_of reference h)

-- ---- SET DESCRIPTOR

-- an item that is set but INDICATOR, with which an indicator may begin too
unfoldable pub other_item_form : Form
other_item_form = either (word (codes "DATA")) (word (codes "TYPE"))

abbrev pub other_item_of : Of other_item_form → Item
unfolding other_item_form
other_item_of (inl v) = item.Content
other_item_of (inr v) = item.Code

unfoldable pub set_item_form : Form
set_item_form = either other_item_form (word (codes "INDICATOR"))

abbrev pub set_item_of : Of set_item_form → Item
unfolding set_item_form
set_item_of (inl v) = other_item_of v
set_item_of (inr v) = item.Indicator

unfoldable pub assigned_form : Form
assigned_form = both (one (sign (codes "="))) value_form

abbrev pub assigned_of : Of assigned_form → InputData
unfolding assigned_form
assigned_of v = value_of v.1

unfoldable pub setting_form : Form
setting_form = both set_item_form assigned_form

abbrev pub setting_of : Of setting_form → Item × InputData
unfolding setting_form
setting_of v = (set_item_of v.0, assigned_of v.1)

-- further settings behind a first one
abbrev pub settings : Item × InputData → List (SqlToken × Of setting_form) → List (Item × InputData)
settings first others = first ∷ map (λ p. setting_of p.1) others

-- what stands behind an index that is a host: its indicator or not, and the settings
unfoldable pub behind_host_form : Form
behind_host_form = choice (both (reference_form reference) (listed setting_form)) (
    both (word (codes "INDICATOR")) (either (both (reference_form reference) (listed setting_form))
    (both assigned_form (further setting_form)))
    ∷ both (both other_item_form assigned_form) (further setting_form)
    ∷ []
    )

abbrev pub index_host : ExprData → Option ExprData → InputData
index_host e i = host_input (record { value = e; indicator = i })

abbrev pub behind_host_of : ExprData → Of behind_host_form → InputData × List (Item × InputData)
unfolding behind_host_form
behind_host_of e (inl (i, l)) = (index_host e (Some (named i.1)), settings (setting_of l.0) l.1)
behind_host_of e (inr (inl (w, inl (i, l)))) =
    (index_host e (Some (named i.1)), settings (setting_of l.0) l.1)
behind_host_of e (inr (inl (w, inr (a, l)))) =
    (index_host e None, settings (item.Indicator, assigned_of a) l)
behind_host_of e (inr (inr (a, l))) =
    (index_host e None, settings (other_item_of a.0, assigned_of a.1) l)

unfoldable pub set_value_form : Form
set_value_form =
    either (both (reference_form input) behind_host_form) (both constant_form (listed setting_form))

abbrev pub set_value_of : Of set_value_form → InputData × List (Item × InputData)
unfolding set_value_form
set_value_of (inl v) = behind_host_of (named v.0.1) v.1
set_value_of (inr (c, l)) = (constant_of c, settings (setting_of l.0) l.1)

unfoldable pub set_form : Form
set_form = row (word (codes "SET") ∷ word (codes "DESCRIPTOR") ∷ text_form
    ∷ either (both (word (codes "COUNT")) assigned_form)
    (both (word (codes "VALUE")) set_value_form) ∷ [])

abbrev pub set_of : Of set_form → EmbKindData
unfolding set_form
set_of (s, (d, (a, inl v))) = set_count (text_of a) (assigned_of v.1)
set_of (s, (d, (a, inr v))) = set_items (text_of a) (set_value_of v.1).0 (set_value_of v.1).1
