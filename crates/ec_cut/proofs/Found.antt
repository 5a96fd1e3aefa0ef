-- Members and items, one behind the other, beside a loop that reads them.
use Rattle.std.proofs.Common.{◌≡◌, ℕ, suc, ◌+◌, ◌-◌, ◌<◌, ◌≤◌, List, [], ◌∷◌, ◌++◌, Option, Some, None, Bool, true, false, refl, ap, sym, ◌∙◌, arith, append_assoc}
use Rattle.std.proofs.lemmas.List.{append-nil}
use Rattle.ec_ctypes.specs.declared.checked.library.Sym.{Sym}
use Rattle.ec_ctypes.specs.declared.embedded.emb.Item.{Item}
use Rattle.ec_arguments.specs.Arguments.{Arg, Member, ItemMember}
use Rattle.ec_arguments.specs.Reading.{Read, and_then, before, begins_with, behind_first, next_symbol, next_member, next_members, next_items, item_of, ends_items}
use Rattle.ec_cut.specs.Cases.{with_front, one_item}

pub one_more : {X : Type 0} {x : X} (f : ℕ → X) (n at : ℕ) → at < n → x ≡ f (n - at) → x ≡ f (suc (n - (at + 1)))
one_more f n at below e = let turn : n - at ≡ suc (n - (at + 1)) = omega arith in e ∙ ap f turn

pub no_more : {X : Type 0} {x : X} (f : ℕ → X) (n at : ℕ) → n ≤ at → x ≡ f (n - at) → x ≡ f 0
no_more f n at done e = let none : n - at ≡ 0 = omega arith in e ∙ ap f none

pub no_front : {A B : Type 0} (read : Read A (List B)) → read ≡ with_front [] read
no_front None = refl
no_front (Some r) = refl

-- what is read behind one more
one_behind : {A B : Type 0} (front : List B) (b : B) (read : Read A (List B)) → with_front front (and_then read (λ bs r. Some (b ∷ bs, r))) ≡ with_front (front ++ b ∷ []) read
one_behind front b None = refl
one_behind front b (Some r) = λ i. Some (sym (append_assoc front (b ∷ []) r.0) i, r.1)

module _ {A : Type 0} where
  pub members_end : (ends : Sym → Bool) (n : ℕ) (args : List (Arg A)) → begins_with ends args ≡ true → next_members ends (suc n) args ≡ Some ([], behind_first args)
  members_end ends n args e = λ i. elim (e i) [
    | true ↦ Some ([], behind_first args)
    | false ↦ and_then (next_member args) (λ m r. and_then (next_members ends n r) (λ ms r. Some (m ∷ ms, r)))
  ]

  pub members_stuck : (ends : Sym → Bool) (n : ℕ) (args : List (Arg A)) → begins_with ends args ≡ false → next_member args ≡ None → next_members ends (suc n) args ≡ None
  members_stuck ends n args e f = (λ i. elim (e i) [
    | true ↦ Some ([], behind_first args)
    | false ↦ and_then (next_member args) (λ m r. and_then (next_members ends n r) (λ ms r. Some (m ∷ ms, r)))
  ]) ∙ ap (λ x. and_then x (λ m r. and_then (next_members ends n r) (λ ms r. Some (m ∷ ms, r)))) f

  pub members_more : (ends : Sym → Bool) (n : ℕ) (args rest : List (Arg A)) (m : Member A) (front : List (Member A)) → begins_with ends args ≡ false → next_member args ≡ Some (m, rest)
      → with_front front (next_members ends (suc n) args) ≡ with_front (front ++ m ∷ []) (next_members ends n rest)
  members_more ends n args rest m front e f = ap (with_front front) ((λ i. elim (e i) [
    | true ↦ Some ([], behind_first args)
    | false ↦ and_then (next_member args) (λ m r. and_then (next_members ends n r) (λ ms r. Some (m ∷ ms, r)))
  ]) ∙ ap (λ x. and_then x (λ m r. and_then (next_members ends n r) (λ ms r. Some (m ∷ ms, r)))) f) ∙ one_behind front m (next_members ends n rest)

  -- the members are those before their end
  pub members_ended : (ends : Sym → Bool) (n : ℕ) (args rest : List (Arg A)) (front : List (Member A)) (whole : Read A (List (Member A)))
      → whole ≡ with_front front (next_members ends (suc n) args) → true ≡ begins_with ends args → rest ≡ behind_first args → whole ≡ Some (front, rest)
  members_ended ends n args rest front whole e t r =
      e ∙ ap (with_front front) (members_end ends n args (sym t)) ∙ (λ i. Some (append-nil front i, sym r i))

  -- an item and what follows it
  abbrev items_on : ℕ → Read A (ItemMember A) → Read A (List (ItemMember A))
  items_on n read = and_then read (λ i r. and_then (next_items n r) (λ is r. Some (i ∷ is, r)))

  by_member : (n : ℕ) (i : Item) (read : Read A (Member A)) → and_then read (λ m r. and_then (next_items n r) (λ is r. Some ((i, m) ∷ is, r))) ≡ items_on n (and_then read (λ m r. Some ((i, m), r)))
  by_member n i None = refl
  by_member n i (Some r) = refl

  by_item : (n : ℕ) (i : Option Item) (r : List (Arg A))
      → and_then (before i r) (λ i r. and_then (next_member r) (λ m r. and_then (next_items n r) (λ is r. Some ((i, m) ∷ is, r))))
      ≡ items_on n (and_then (before i r) (λ i r. and_then (next_member r) (λ m r. Some ((i, m), r))))
  by_item n None r = refl
  by_item n (Some i) r = by_member n i (next_member r)

  by_symbol : (n : ℕ) (read : Read A Sym)
      → and_then read (λ s r. and_then (before (item_of s) r) (λ i r. and_then (next_member r) (λ m r. and_then (next_items n r) (λ is r. Some ((i, m) ∷ is, r)))))
      ≡ items_on n (and_then read (λ s r. and_then (before (item_of s) r) (λ i r. and_then (next_member r) (λ m r. Some ((i, m), r)))))
  by_symbol n None = refl
  by_symbol n (Some x) = by_item n (item_of x.0) x.1

  items_step : (n : ℕ) (args : List (Arg A)) → begins_with ends_items args ≡ false → next_items (suc n) args ≡ items_on n (one_item args)
  items_step n args e = (λ i. elim (e i) [
    | true ↦ Some ([], behind_first args)
    | false ↦ and_then (next_symbol args) (λ s r. and_then (before (item_of s) r) (λ i r. and_then (next_member r) (λ m r. and_then (next_items n r) (λ is r. Some ((i, m) ∷ is, r)))))
  ]) ∙ by_symbol n (next_symbol args)

  pub items_end : (n : ℕ) (args : List (Arg A)) → begins_with ends_items args ≡ true → next_items (suc n) args ≡ Some ([], behind_first args)
  items_end n args e = λ i. elim (e i) [
    | true ↦ Some ([], behind_first args)
    | false ↦ and_then (next_symbol args) (λ s r. and_then (before (item_of s) r) (λ i r. and_then (next_member r) (λ m r. and_then (next_items n r) (λ is r. Some ((i, m) ∷ is, r)))))
  ]

  pub items_stuck : (n : ℕ) (args : List (Arg A)) → begins_with ends_items args ≡ false → one_item args ≡ None → next_items (suc n) args ≡ None
  items_stuck n args e f = items_step n args e ∙ ap (items_on n) f

  pub items_more : (n : ℕ) (args rest : List (Arg A)) (m : ItemMember A) (front : List (ItemMember A)) → begins_with ends_items args ≡ false → one_item args ≡ Some (m, rest)
      → with_front front (next_items (suc n) args) ≡ with_front (front ++ m ∷ []) (next_items n rest)
  items_more n args rest m front e f = ap (with_front front) (items_step n args e ∙ ap (items_on n) f) ∙ one_behind front m (next_items n rest)

  pub items_ended : (n : ℕ) (args rest : List (Arg A)) (front : List (ItemMember A)) (whole : Read A (List (ItemMember A)))
      → whole ≡ with_front front (next_items (suc n) args) → true ≡ begins_with ends_items args → rest ≡ behind_first args → whole ≡ Some (front, rest)
  items_ended n args rest front whole e t r =
      e ∙ ap (with_front front) (items_end n args (sym t)) ∙ (λ i. Some (append-nil front i, sym r i))
