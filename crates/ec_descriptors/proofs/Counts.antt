-- The items of a descriptor.
use Rattle.std.proofs.Common.{◌≡◌, ℕ, zero, suc, ◌-◌, ◌≤◌, ◌<◌, List, [], ◌∷◌, ◌++◌, length, take, replicate, refl, sym, ap, ◌∙◌, append-nil, append_assoc, arith}
use Rattle.std.specs.Prelude.{slice_get, slice_set, option_map, Some}
use Rattle.std.proofs.lemmas.List.{map-append, map-set, take_all}
use Rattle.std.proofs.lemmas.Option.{slice_get-map}
use Rattle.ec_meaning_defs.specs.evaluation.State.{Item}
use Rattle.ec_call_defs.specs.Areas.{item_at, new_item, raised_to, resized}
use Rattle.ec_call_defs.specs.Descriptors.{or_new}
use Rattle.ec_descriptors.specs.declared.items.AreaItem.{AreaItem}
use Rattle.ec_descriptors.specs.declared.changes.Change.{Change}
use Rattle.ec_descriptors.specs.Changes.{changed}
use Rattle.ec_descriptors.specs.Views.{item_view, items_view}

-- as many new items as are still to come
abbrev pub more : ℕ → List Item
more n = replicate n new_item

-- one more came
pub one_more : (items : List AreaItem) (it : AreaItem) (left : ℕ) → item_view it ≡ new_item → 0 < left
    → items_view (items ++ it ∷ []) ++ more (left - 1) ≡ items_view items ++ more left
one_more items it zero is some = absurd (omega (arith, some))
one_more items it (suc left) is some =
    ap (λ n. items_view (items ++ it ∷ []) ++ more n) one
    ∙ ap (λ xs. xs ++ more left) (map-append item_view items (it ∷ []) ∙ ap (λ x. items_view items ++ x ∷ []) is)
    ∙ append_assoc (items_view items) (new_item ∷ []) (more left)
  where
    one : suc left - 1 ≡ left
    one = omega arith

-- where there are as many or more, the first ones stay alone
pub cut : (n : ℕ) (items : List Item) → n < length items → take n items ≡ resized n items
cut n items fewer = sym (append-nil (take n items)) ∙ ap (λ k. take n items ++ more k) none
  where
    none : 0 ≡ n - length items
    none = omega (arith, fewer)

pub kept : (n : ℕ) (items : List Item) → length items ≤ n → raised_to n items ≡ resized n items
kept n items most = ap (λ xs. xs ++ more (n - length items)) (sym (take_all n items most))

-- the item of a number among so many is the one that was there, or a new one
last_of : (n : ℕ) → slice_get (more (suc n)) n ≡ Some new_item
last_of zero = refl
last_of (suc n) = last_of n

pub or_new_at : (n : ℕ) (items : List Item) → slice_get (raised_to (suc n) items) n ≡ Some (or_new (slice_get items n))
or_new_at n [] = ap (λ k. slice_get (more k) n) all ∙ last_of n
  where
    all : suc n - 0 ≡ suc n
    all = omega arith
or_new_at zero (it ∷ items) = refl
or_new_at (suc n) (it ∷ items) = ap (λ k. slice_get (items ++ more k) n) one ∙ or_new_at n items
  where
    one : suc (suc n) - suc (length items) ≡ suc n - length items
    one = omega arith

-- the item of a number is changed
module _ (index : ℕ) (first : 1 ≤ index) (was : List Item) (made : List AreaItem) (raised : items_view made ≡ raised_to index was) where
  pub changed_at : (old new : AreaItem) (change : Change) → slice_get made (index - 1) ≡ Some old → item_view new ≡ changed change (item_view old)
      → items_view (slice_set made (index - 1) new) ≡ slice_set (raised_to index was) (index - 1) (changed change (or_new (item_at index was)))
  changed_at old new change there is =
      map-set item_view made (index - 1) new ∙ (λ j. slice_set (raised j) (index - 1) (is j))
      ∙ ap (λ it. slice_set (raised_to index was) (index - 1) (changed change it)) (old_is index first raised there)
    where
      old_is : (k : ℕ) → 1 ≤ k → items_view made ≡ raised_to k was → slice_get made (k - 1) ≡ Some old → item_view old ≡ or_new (item_at k was)
      old_is zero low so at = absurd (omega (arith, low))
      old_is (suc n) low so at =
          let one : suc n - 1 ≡ n = omega arith in
          let both : Some (item_view old) ≡ Some (or_new (slice_get was n)) =
          ap (option_map item_view) (sym at ∙ ap (slice_get made) one) ∙ sym (slice_get-map item_view made n) ∙ ap (λ xs. slice_get xs n) so ∙ or_new_at n was in
          cc
