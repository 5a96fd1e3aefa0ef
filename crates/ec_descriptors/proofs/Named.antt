-- The entries of a map from names are descriptors.
use Rattle.std.proofs.Common.{◌≡◌, ℕ, Bool, true, false, nat_eq, ◌&&◌, inl, inr, List, [], ◌∷◌, Some, None, Result, Ok, Err, cond, refl, sym, ap, subst, ◌∙◌}
use Rattle.std.specs.Prelude.{option_map, IfErr, IsSome, OnErr, OnOk, ℤ, length}
use Rattle.std.specs.Global.{Vec}
use Rattle.std.specs.Cmp.Lexicographic.{pointwise, nat_list_eq_equiv}
use Rattle.std.specs.Map.{lookup, remove_entry, set_value}
use Rattle.std.proofs.lemmas.List.{length-map}
use Rattle.std.proofs.lemmas.Bool.{false≢true}
use Rattle.std.proofs.lemmas.Bool.Decides.{eqb_tells}
use Rattle.indexmap.specs.IndexMap.{insert_entry}
use Rattle.ec_meaning_defs.specs.evaluation.State.{Item}
use Rattle.ec_call_defs.specs.Areas.{Areas, area_named, with_area, within, without_area}
use Rattle.ec_call_defs.specs.Connections.{same_name}
use Rattle.ec_call_defs.specs.Outcomes.{Text}
use Rattle.ec_descriptors.specs.declared.items.AreaItem.{AreaItem}
use Rattle.ec_descriptors.specs.declared.stop.AreaStop.{AreaStop}
use Rattle.ec_descriptors.specs.Views.{area_view, areas_view, item_view, items_view}

abbrev pub Entry : Type 0
Entry = Vec ℕ × List AreaItem

-- two texts that compare as one are one
same_step : (x y : ℕ) (a b : Text) (t : Bool) → nat_eq x y ≡ t → (pointwise nat_eq a b ≡ true → a ≡ b) → (t && pointwise nat_eq a b) ≡ true → (x ∷ a) ≡ (y ∷ b)
same_step x y a b true e later h = elim (eqb_tells x y) [ inl p ↦ (λ j. p.1 j ∷ later h j) | inr p ↦ absurd (false≢true (sym p.0 ∙ e)) ]
same_step x y a b false e later h = absurd (false≢true h)

same_text : (a b : Text) → pointwise nat_eq a b ≡ true → a ≡ b
same_text [] [] h = refl
same_text [] (y ∷ b) h = absurd (false≢true h)
same_text (x ∷ a) [] h = absurd (false≢true h)
same_text (x ∷ a) (y ∷ b) h = same_step x y a b (nat_eq x y) refl (λ q. same_text a b q) h

module _ (name : Text) where
  -- the test by which the map finds the name
  abbrev pub is_named : Vec ℕ → Bool
  is_named key = pointwise nat_eq name key.items

  -- it is the definition's
  told : (key : Vec ℕ) → is_named key ≡ same_name key.items name
  told key = nat_list_eq_equiv.symm name key.items

  pub items_named : (es : List Entry) → option_map items_view (lookup is_named es) ≡ area_named name (areas_view es)
  items_named [] = refl
  items_named (e ∷ es) = go (is_named e.0) (items_named es) ∙ (λ j. elim (told e.0 j) [ true ↦ Some (items_view e.1) | false ↦ area_named name (areas_view es) ])
    where
      go : (b : Bool) → option_map items_view (lookup is_named es) ≡ area_named name (areas_view es)
          → option_map items_view (cond b (Some e.1) (lookup is_named es)) ≡ elim b [ true ↦ Some (items_view e.1) | false ↦ area_named name (areas_view es) ]
      go true rest = refl
      go false rest = rest

  pub entry_removed : (es : List Entry) → areas_view (remove_entry is_named es) ≡ without_area name (areas_view es)
  entry_removed [] = refl
  entry_removed (e ∷ es) = go (is_named e.0) (entry_removed es) ∙ (λ j. elim (told e.0 j) [ true ↦ areas_view es | false ↦ area_view e ∷ without_area name (areas_view es) ])
    where
      go : (b : Bool) → areas_view (remove_entry is_named es) ≡ without_area name (areas_view es)
          → areas_view (cond b es (e ∷ remove_entry is_named es)) ≡ elim b [ true ↦ areas_view es | false ↦ area_view e ∷ without_area name (areas_view es) ]
      go true rest = refl
      go false rest = ap (λ as'. area_view e ∷ as') rest

  module _ (items : List AreaItem) where
    abbrev put : Bool → Entry → List Entry → Areas
    put b e es = elim b [ true ↦ (name, items_view items) ∷ areas_view es | false ↦ area_view e ∷ with_area name (items_view items) (areas_view es) ]

    -- the items of a name that is there are others
    pub value_set : (es : List Entry) (was : List AreaItem) → lookup is_named es ≡ Some was → areas_view (set_value is_named es items) ≡ with_area name (items_view items) (areas_view es)
    value_set [] was there = cc
    value_set (e ∷ es) was there = go (is_named e.0) refl there (λ q. value_set es was q) ∙ (λ j. put (told e.0 j) e es)
      where
        go : (b : Bool) → is_named e.0 ≡ b → cond b (Some e.1) (lookup is_named es) ≡ Some was → (lookup is_named es ≡ Some was → areas_view (set_value is_named es items) ≡ with_area name (items_view items) (areas_view es))
            → areas_view (cond b ((e.0, items) ∷ es) (e ∷ set_value is_named es items)) ≡ put b e es
        go true is some rest = ap (λ own. (own, items_view items) ∷ areas_view es) (sym (same_text name e.0.items is))
        go false is some rest = ap (λ as'. area_view e ∷ as') (rest some)

  -- the items that are there are set once more
  pub same_value : (es : List Entry) (was : List AreaItem) → lookup is_named es ≡ Some was → set_value is_named es was ≡ es
  same_value [] was there = refl
  same_value (e ∷ es) was there = go (is_named e.0) there (λ q. same_value es was q)
    where
      go : (b : Bool) → cond b (Some e.1) (lookup is_named es) ≡ Some was → (lookup is_named es ≡ Some was → set_value is_named es was ≡ es) → cond b ((e.0, was) ∷ es) (e ∷ set_value is_named es was) ≡ e ∷ es
      go true some rest = let same : e.1 ≡ was = cc in ap (λ own. (e.0, own) ∷ es) (sym same)
      go false some rest = ap (λ more. e ∷ more) (rest some)

-- items are put under a name
pub entry_put : (key : Vec ℕ) (items : List AreaItem) (es : List Entry) → areas_view (insert_entry (λ x y. pointwise nat_eq x.items y.items) es key items) ≡ with_area key.items (items_view items) (areas_view es)
entry_put key items [] = refl
entry_put key items (e ∷ es) = go (is_named key.items e.0) refl (entry_put key items es) ∙ (λ j. put key.items items (told key.items e.0 j) e es)
  where
    go : (b : Bool) → is_named key.items e.0 ≡ b → areas_view (insert_entry (λ x y. pointwise nat_eq x.items y.items) es key items) ≡ with_area key.items (items_view items) (areas_view es)
        → areas_view (cond b ((e.0, items) ∷ es) (e ∷ insert_entry (λ x y. pointwise nat_eq x.items y.items) es key items)) ≡ put key.items items b e es
    go true is rest = ap (λ own. (own, items_view items) ∷ areas_view es) (sym (same_text key.items e.0.items is))
    go false is rest = ap (λ as'. area_view e ∷ as') rest

-- ---- items that the map lends

module _ (name : Text) (areas : Areas) (es : List Entry) (seen : areas_view es ≡ areas) where
  abbrev Lent : List AreaItem → Type 0
  Lent was = Some was ≡ lookup (is_named name) es

  -- they are those of the name
  pub lent_are : (was : List AreaItem) (items : List Item) → Lent was → area_named name areas ≡ Some items → items_view was ≡ items
  lent_are was items there is =
      let both : Some (items_view was) ≡ Some items = ap (option_map items_view) there ∙ items_named name es ∙ ap (area_named name) seen ∙ is in cc

  -- there are some
  pub lent_some : None ≡ lookup (is_named name) es → IsSome (area_named name areas) → ⊥
  lent_some none some =
      let gone : None ≡ area_named name areas = ap (option_map items_view) none ∙ items_named name es ∙ ap (area_named name) seen in
      false≢true (subst IsSome (sym gone) some)

  -- they were changed
  pub lent_changed : (was now : List AreaItem) (es' : List Entry) → Lent was → es' ≡ set_value (is_named name) es now → areas_view es' ≡ with_area name (items_view now) areas
  lent_changed was now es' there e = ap areas_view e ∙ value_set name now es was (sym there) ∙ ap (with_area name (items_view now)) seen

  -- they were not
  pub lent_kept : (was now : List AreaItem) (es' : List Entry) → Lent was → es' ≡ set_value (is_named name) es now → now ≡ was → areas_view es' ≡ areas
  lent_kept was now es' there e same = ap areas_view (e ∙ ap (set_value (is_named name) es) same ∙ same_value name es was (sym there)) ∙ seen

-- ---- what follows from an answer

pub on_ok : {T E P Q : Type 0} (r : Result T E) → (P → Q) → OnOk r P → OnOk r Q
on_ok (Ok x) f p = f p
on_ok (Err e) f p = tt

pub on_err : {T E P Q : Type 0} (r : Result T E) → (P → Q) → OnErr r P → OnErr r Q
on_err (Ok x) f p = tt
on_err (Err e) f p = f p

-- an index that is out of those of items
pub out_of : {T : Type 0} (index : ℤ) (made : List AreaItem) (items : List Item) (r : Result T AreaStop) → Some (items_view made) ≡ Some items
    → IfErr r (λ (stop : AreaStop). within 1 (length made) index ≡ None) → IfErr r (λ (stop : AreaStop). within 1 (length items) index ≡ None)
out_of index made items r e out =
    let same : items_view made ≡ items = cc in
    subst (λ n. IfErr r (λ (stop : AreaStop). within 1 n index ≡ None)) (sym (length-map made item_view) ∙ ap length same) out
