-- Objects that are made with these bytes, one after the other.
use Rattle.std.proofs.Common.{◌≡◌, ◌∙◌, refl, sym, ap, subst, ℕ, zero, suc, ◌+◌, ◌^◌, Bool, true, false, List, [], ◌∷◌, ◌++◌, append_assoc, map, length, replicate, Some, Result, Ok, Err}
use Rattle.std.specs.Prelude.{nat_lt, nat_le, ◌&&◌, if◌then◌else◌, ◌↔◌}
use Rattle.std.proofs.lemmas.List.{length-map, length-replicate}
use Rattle.ec_base.specs.declared.stop.Trap.{Trap}
use Rattle.ec_base.specs.declared.stop.Trap.TheVariants.{Spent}
use Rattle.ec_meaning_defs.specs.evaluation.Results.{Res, tried}
use Rattle.ec_meaning_defs.specs.evaluation.State.{State}
use Rattle.ec_meaning_defs.specs.evaluation.Whole.{opened}
use Rattle.ec_memory.specs.declared.store.MakeStop.{MakeStop}
use Rattle.ec_memory.specs.declared.store.MakeStop.TheVariants as makes
use Rattle.ec_memory_defs.specs.Cells.{Cell, filled_cells, set_cells}
use Rattle.ec_memory_defs.specs.Memory.{Memory, alive, live_bytes, make_zeroed, pointer_to, with_object}
use Rattle.ec_interp.specs.opening.Filling.{IsLast}
use Rattle.ec_interp.specs.opening.Opens.{Opens, at, objects_with}

-- ---- whether there is room

abbrev has_room : Memory → ℕ → Bool
has_room m n = nat_lt (suc (length m)) (2 ^ 32) && nat_le (live_bytes m + n) (2 ^ 28)

abbrev made_of : Memory → List Cell → ℕ × Memory
made_of m cells = (pointer_to (suc (length m)) 0, m ++ alive cells ∷ [])

abbrev made_if : Memory → List Cell → Bool → Result (ℕ × Memory) Trap
made_if m cells b = if b then Ok (made_of m cells) else Err Spent

is_made : (m : Memory) (cells : List Cell) (b : Bool) (x : ℕ × Memory) → made_if m cells b ≡ Ok x → b ≡ true
is_made m cells true x e = refl
is_made m cells false x e = absurd (bad e)
  where
    bad : Err Spent ≡ Ok x → ⊥
    bad e = cc e

is_spent : (m : Memory) (cells : List Cell) (b : Bool) → made_if m cells b ≡ Err Spent → b ≡ false
is_spent m cells false e = refl
is_spent m cells true e = absurd (bad e)
  where
    bad : made_if m cells true ≡ Err Spent → ⊥
    bad e = cc e

-- what was made
abbrev ok_or : {A B : Type 0} → A → Result A B → A
ok_or d (Ok a) = a
ok_or d (Err b) = d

zeros : (bytes : List ℕ) (size : ℕ) → length bytes ≡ size → length (filled_cells size 0) ≡ length (set_cells bytes)
zeros bytes size e = length-replicate size (Some 0) ∙ sym e ∙ sym (length-map bytes Some)

-- zero bytes as cells
pub zero_cells : (n : ℕ) → filled_cells n 0 ≡ set_cells (replicate n 0)
zero_cells zero = refl
zero_cells (suc n) = ap (λ cells. Some 0 ∷ cells) (zero_cells n)

module _ (old mid : Memory) (p size : ℕ) (e : make_zeroed old size ≡ Ok (p, mid)) where
  room : has_room old (length (filled_cells size 0)) ≡ true
  room = is_made old (filled_cells size 0) (has_room old (length (filled_cells size 0))) (p, mid) e

  abbrev there : ℕ × Memory
  there = (p, mid)

  both : made_of old (filled_cells size 0) ≡ there
  both = ap (ok_or there) (ap (made_if old (filled_cells size 0)) (sym room) ∙ e)

  -- an object of zeros is the last one
  pub last_zeros : IsLast mid p old (replicate size 0)
  last_zeros = record {
    memory = sym (ap (λ (x : ℕ × Memory). x.1) both) ∙ ap (λ cells. old ++ alive cells ∷ []) (zero_cells size);
    pointer = sym (ap (λ (x : ℕ × Memory). x.0) both);
  }

  -- it was made, and filled with these bytes
  pub opens_one : (new : Memory) (bytes : List ℕ) → length bytes ≡ size → IsLast new p old bytes → Opens (bytes ∷ []) (Ok tt) old new
  opens_one new bytes sized last = λ s go.
      ap (λ b. tried 1 (made_if old (set_cells bytes) b) (at s old) (λ r. go (at s r.1)))
      (ap (has_room old) (sym (zeros bytes size sized)) ∙ room)
      ∙ ap (λ m. go (at s m)) (sym last.memory)

pub objects_one : (old new : Memory) (p : ℕ) (bytes : List ℕ) → IsLast new p old bytes → new ≡ old ++ objects_with (bytes ∷ [])
objects_one old new p bytes last = last.memory

-- there was no room for it
pub spent_one : (old : Memory) (bytes : List ℕ) (size : ℕ) → length bytes ≡ size → make_zeroed old size ≡ Err Spent → Opens (bytes ∷ []) (Err makes.Spent) old old
spent_one old bytes size sized e = λ s go.
    ap (λ b. tried 1 (made_if old (set_cells bytes) b) (at s old) (λ r. go (at s r.1)))
    (ap (has_room old) (sym (zeros bytes size sized)) ∙ is_spent old (filled_cells size 0) (has_room old (length (filled_cells size 0))) e)

-- it was not made
pub stopped_one : {A : Type 0} (r : Result A MakeStop) (why : MakeStop) (old new : Memory) (bytes : List ℕ) (size : ℕ) → r ≡ Err why → length bytes ≡ size → ((r ≡ Err makes.Spent) ↔ (make_zeroed old size ≡ Err Spent)) → new ≡ old → Opens (bytes ∷ []) (Err why) old new
stopped_one r makes.Spent old new bytes size e sized h same = subst (Opens (bytes ∷ []) (Err makes.Spent) old) (sym same) (spent_one old bytes size sized (h.0 e))
stopped_one r makes.OutOfMemory old new bytes size e sized h same = tt

-- ---- one after the other

tried_then : (bytes : List ℕ) (xs ys : List (List ℕ)) (s : State) (k : State → Res) (r : Result (ℕ × Memory) Trap)
    → ((t : State) → opened (xs ++ ys) t k ≡ opened xs t (λ u. opened ys u k))
    → tried 1 r s (λ x. opened (xs ++ ys) (at s x.1) k) ≡ tried 1 r s (λ x. opened xs (at s x.1) (λ u. opened ys u k))
tried_then bytes xs ys s k (Ok x) h = h (at s x.1)
tried_then bytes xs ys s k (Err t) h = refl

pub opened_then : (xs ys : List (List ℕ)) (s : State) (k : State → Res) → opened (xs ++ ys) s k ≡ opened xs s (λ t. opened ys t k)
opened_then [] ys s k = refl
opened_then (bytes ∷ xs) ys s k = tried_then bytes xs ys s k (with_object s.memory (set_cells bytes)) (λ t. opened_then xs ys t k)

pub opens_then : (xs ys : List (List ℕ)) (r : Result (Unit {0}) MakeStop) (old mid new : Memory) → Opens xs (Ok tt) old mid → Opens ys r mid new → Opens (xs ++ ys) r old new
opens_then xs ys (Ok v) old mid new a b = λ s go. opened_then xs ys (at s old) go ∙ a s (λ t. opened ys t go) ∙ b s go
opens_then xs ys (Err makes.Spent) old mid new a b = λ s go. opened_then xs ys (at s old) go ∙ a s (λ t. opened ys t go) ∙ b s go
opens_then xs ys (Err makes.OutOfMemory) old mid new a b = tt

-- what comes behind is not reached
pub opens_stop : (xs ys : List (List ℕ)) (why : MakeStop) (old new : Memory) → Opens xs (Err why) old new → Opens (xs ++ ys) (Err why) old new
opens_stop xs ys makes.Spent old new a = λ s go. opened_then xs ys (at s old) go ∙ a s (λ t. opened ys t go)
opens_stop xs ys makes.OutOfMemory old new a = tt

pub objects_then : (xs ys : List (List ℕ)) (old mid new : Memory) → mid ≡ old ++ objects_with xs → new ≡ mid ++ objects_with ys → new ≡ old ++ objects_with (xs ++ ys)
objects_then xs ys old mid new a b =
    b ∙ ap (λ m. m ++ objects_with ys) a ∙ append_assoc old (objects_with xs) (objects_with ys) ∙ ap (λ m. old ++ m) (sym (joined xs))
  where
    joined : (xs : List (List ℕ)) → objects_with (xs ++ ys) ≡ objects_with xs ++ objects_with ys
    joined [] = refl
    joined (x ∷ xs) = ap (λ m. alive (set_cells x) ∷ m) (joined xs)

-- ---- in a loop

-- objects with the bytes of these things were made from `old` on, and these are left
pub record Left {A : Type 0} (f : A → List ℕ) (all left : List A) (old now : Memory) : Type 0 where
  pub goes : (s : State) (go : State → Res) → opened (map f all) (at s old) go ≡ opened (map f left) (at s now) go
  pub objects : old ++ objects_with (map f all) ≡ now ++ objects_with (map f left)

pub left_all : {A : Type 0} (f : A → List ℕ) (all : List A) (m : Memory) → Left f all all m m
left_all f all m = record { goes = λ s go. refl; objects = refl }

pub left_less : {A : Type 0} (f : A → List ℕ) (all left less : List A) (x : A) (old now new : Memory) → Left f all left old now → left ≡ x ∷ less → Opens (f x ∷ []) (Ok tt) now new → new ≡ now ++ objects_with (f x ∷ []) → Left f all less old new
left_less f all left less x old now new h e o m = record {
  goes = λ s go.
      h.goes s go
      ∙ ap (λ xs. opened (map f xs) (at s now) go) e
      ∙ opened_then (f x ∷ []) (map f less) (at s now) go
      ∙ o s (λ t. opened (map f less) t go);
  objects =
      h.objects
      ∙ ap (λ xs. now ++ objects_with (map f xs)) e
      ∙ sym (append_assoc now (objects_with (f x ∷ [])) (objects_with (map f less)))
      ∙ ap (λ n. n ++ objects_with (map f less)) (sym m);
}

-- one of them was not made
pub left_stops : {A : Type 0} (f : A → List ℕ) (all left less : List A) (x : A) (why : MakeStop) (old now new : Memory) → Left f all left old now → left ≡ x ∷ less → Opens (f x ∷ []) (Err why) now new → Opens (map f all) (Err why) old new
left_stops f all left less x makes.Spent old now new h e o = λ s go.
    h.goes s go
    ∙ ap (λ xs. opened (map f xs) (at s now) go) e
    ∙ opens_stop (f x ∷ []) (map f less) makes.Spent now new o s go
left_stops f all left less x makes.OutOfMemory old now new h e o = tt
