-- Bytes that are read one by one, as the list of what they read as.
use Rattle.std.proofs.Common.{◌≡◌, ◌∙◌, refl, ap, sym, ℕ, zero, suc, ◌+◌, ◌-◌, ◌<◌, ◌≤◌, Bool, true, false, List, [], ◌∷◌, length, drop, slice_get, Some, None, Result, Ok, Err, ℤ, pos, arith, length-drop}
use Rattle.std.specs.Prelude.{◌==◌}
use Rattle.ec_base.specs.declared.stop.Trap.{Trap}
use Rattle.ec_meaning_defs.specs.functions.Strings.{cell_reads, reads_of, reads_from, compared, order_of}
use Rattle.ec_memory.specs.SingleBytes.{byte_behind, cell_read}
use Rattle.ec_memory_defs.specs.Cells.{Cell}
use Rattle.ec_memory_defs.specs.Memory.{Memory, and_then, object_cells, object_of, offset_of}

got_nothing : {X : Type 0} (i j : ℕ) → slice_get {X = X} [] i ≡ slice_get {X = X} [] j
got_nothing zero zero = refl
got_nothing zero (suc j) = refl
got_nothing (suc i) zero = refl
got_nothing (suc i) (suc j) = refl

got_drop : {X : Type 0} (xs : List X) (n i k : ℕ) → k ≡ n + i → slice_get (drop n xs) i ≡ slice_get xs k
got_drop xs zero i k e = ap (slice_get xs) (omega arith)
got_drop [] (suc n) i k e = got_nothing i k
got_drop (x ∷ xs) (suc n) i zero e = absurd (omega arith)
got_drop (x ∷ xs) (suc n) i (suc k) e = got_drop xs n i k (omega arith)

some_reads : (cells : List Cell) → 0 < length (cell_reads cells)
some_reads [] = omega arith
some_reads (None ∷ cells) = omega arith
some_reads (Some b ∷ cells) = omega arith

pub record Read (reads : List (Result ℕ Trap)) (i b : ℕ) : Type 0 where
  pub here : drop i reads ≡ Ok b ∷ drop (suc i) reads
  pub more : suc i < length reads

cells_ok : (cells : List Cell) (i b : ℕ) → i < length (cell_reads cells) → cell_read (slice_get cells i) ≡ Ok b → Read (cell_reads cells) i b
cells_ok [] zero b l e = cc
cells_ok [] (suc i) b l e = cc
cells_ok (None ∷ cells) zero b l e = cc
cells_ok (None ∷ cells) (suc i) b l e = absurd (omega arith)
cells_ok (Some c ∷ cells) zero b l e = record { here = ap (λ r. r ∷ cell_reads cells) e; more = omega (arith, some_reads cells) }
cells_ok (Some c ∷ cells) (suc i) b l e =
    let it = cells_ok cells i b (omega arith) e in record { here = it.here; more = omega (arith, it.more) }

cells_err : (cells : List Cell) (i : ℕ) (t : Trap) → i < length (cell_reads cells) → cell_read (slice_get cells i) ≡ Err t → drop i (cell_reads cells) ≡ Err t ∷ []
cells_err [] zero t l e = ap (λ r. r ∷ []) e
cells_err [] (suc i) t l e = absurd (omega arith)
cells_err (None ∷ cells) zero t l e = ap (λ r. r ∷ []) e
cells_err (None ∷ cells) (suc i) t l e = absurd (omega arith)
cells_err (Some c ∷ cells) zero t l e = cc
cells_err (Some c ∷ cells) (suc i) t l e = cells_err cells i t (omega arith) e

found_ok : (found : Result (List Cell) Trap) (o i b : ℕ) → i < length (reads_of found o) → and_then found (λ cells. cell_read (slice_get cells (o + i))) ≡ Ok b → Read (reads_of found o) i b
found_ok (Err t) o i b l e = cc
found_ok (Ok cells) o i b l e = cells_ok (drop o cells) i b l (ap cell_read (got_drop cells o i (o + i) refl) ∙ e)

found_err : (found : Result (List Cell) Trap) (o i : ℕ) (t : Trap) → i < length (reads_of found o) → and_then found (λ cells. cell_read (slice_get cells (o + i))) ≡ Err t → drop i (reads_of found o) ≡ Err t ∷ []
found_err (Err u) o zero t l e = let same : u ≡ t = cc in ap (λ x. Err x ∷ []) same
found_err (Err u) o (suc i) t l e = absurd (omega arith)
found_err (Ok cells) o i t l e = cells_err (drop o cells) i t l (ap cell_read (got_drop cells o i (o + i) refl) ∙ e)

pub read_ok : (m : Memory) (p i b : ℕ) → i < length (reads_from m p) → Ok b ≡ byte_behind m p i → Read (reads_from m p) i b
read_ok m p i b l e = found_ok (object_cells m (object_of p)) (offset_of p) i b l (sym e)

pub read_err : (m : Memory) (p i : ℕ) (t : Trap) → i < length (reads_from m p) → Err t ≡ byte_behind m p i → drop i (reads_from m p) ≡ Err t ∷ []
read_err m p i t l e = found_err (object_cells m (object_of p)) (offset_of p) i t l (sym e)

found_some : (found : Result (List Cell) Trap) (o : ℕ) → 0 < length (reads_of found o)
found_some (Err t) o = omega arith
found_some (Ok cells) o = some_reads (drop o cells)

pub reads_some : (m : Memory) (p : ℕ) → 0 < length (reads_from m p)
reads_some m p = found_some (object_cells m (object_of p)) (offset_of p)

-- ---- one step of a comparison

abbrev pub Reads : Type 0
Reads = List (Result ℕ Trap)

pub first_traps : (texts : Bool) (n : ℕ) (xs ys : Reads) (t : Trap) → 0 < n → xs ≡ Err t ∷ [] → Err t ≡ compared texts n xs ys
first_traps texts zero xs ys t l e = absurd (omega arith)
first_traps texts (suc n) xs ys t l e = ap (λ zs. compared texts (suc n) zs ys) (sym e)

pub second_traps : (texts : Bool) (n : ℕ) (xs ys more : Reads) (a : ℕ) (t : Trap) → 0 < n → xs ≡ Ok a ∷ more → ys ≡ Err t ∷ [] → Err t ≡ compared texts n xs ys
second_traps texts zero xs ys more a t l e f = absurd (omega arith)
second_traps texts (suc n) xs ys more a t l e f = ap (compared texts (suc n) (Ok a ∷ more)) (sym f) ∙ ap (λ zs. compared texts (suc n) zs ys) (sym e)

both : (texts : Bool) (n : ℕ) (xs ys cs ds : Reads) (a b : ℕ) → xs ≡ Ok a ∷ cs → ys ≡ Ok b ∷ ds → compared texts (suc n) (Ok a ∷ cs) (Ok b ∷ ds) ≡ compared texts (suc n) xs ys
both texts n xs ys cs ds a b e f = ap (compared texts (suc n) (Ok a ∷ cs)) (sym f) ∙ ap (λ zs. compared texts (suc n) zs ys) (sym e)

-- behind two equal bytes
abbrev on_equal : Bool → ℕ → ℕ → Reads → Reads → Result ℤ Trap
on_equal true n a cs ds = elim a [ zero ↦ Ok (pos 0) | suc c ↦ compared true n cs ds ]
on_equal false n a cs ds = compared false n cs ds

by_test : (texts : Bool) (n : ℕ) (cs ds : Reads) (a b : ℕ) (t : Bool) → (a == b) ≡ t → compared texts (suc n) (Ok a ∷ cs) (Ok b ∷ ds) ≡ elim t [ true ↦ on_equal texts n a cs ds | false ↦ Ok (order_of a b) ]
by_test true n cs ds a b t e = λ i. elim (e i) [
  | true ↦ elim a [ zero ↦ Ok (pos 0) | suc c ↦ compared true n cs ds ]
  | false ↦ Ok (order_of a b)
]
by_test false n cs ds a b t e = λ i. elim (e i) [ true ↦ compared false n cs ds | false ↦ Ok (order_of a b) ]

pub differing : (texts : Bool) (n : ℕ) (xs ys cs ds : Reads) (a b : ℕ) → 0 < n → xs ≡ Ok a ∷ cs → ys ≡ Ok b ∷ ds → (a == b) ≡ false → Ok (order_of a b) ≡ compared texts n xs ys
differing texts zero xs ys cs ds a b l e f test = absurd (omega arith)
differing texts (suc n) xs ys cs ds a b l e f test = sym (by_test texts n cs ds a b false test) ∙ both texts n xs ys cs ds a b e f

pub ending : (texts : Bool) (n : ℕ) (xs ys cs ds : Reads) (a b : ℕ) → 0 < n → xs ≡ Ok a ∷ cs → ys ≡ Ok b ∷ ds → (a == b) ≡ true → texts ≡ true → a ≡ 0 → Ok (pos 0) ≡ compared texts n xs ys
ending texts zero xs ys cs ds a b l e f test t z = absurd (omega arith)
ending texts (suc n) xs ys cs ds a b l e f test t z =
    stops texts a t z ∙ sym (by_test texts n cs ds a b true test) ∙ both texts n xs ys cs ds a b e f
  where
    stops : (texts : Bool) (a : ℕ) → texts ≡ true → a ≡ 0 → Ok (pos 0) ≡ on_equal texts n a cs ds
    stops true zero t z = refl
    stops true (suc c) t z = absurd (omega arith)
    stops false a t z = cc

pub equal_so_far : (texts : Bool) (n : ℕ) (xs ys cs ds : Reads) (a b : ℕ) → 0 < n → xs ≡ Ok a ∷ cs → ys ≡ Ok b ∷ ds → (a == b) ≡ true → (texts ≡ true → a ≡ 0 → ⊥) → compared texts (n - 1) cs ds ≡ compared texts n xs ys
equal_so_far texts zero xs ys cs ds a b l e f test h = absurd (omega arith)
equal_so_far texts (suc n) xs ys cs ds a b l e f test h =
    ap (λ k. compared texts k cs ds) (let k : suc n - 1 ≡ n = omega arith in k)
    ∙ goes texts a h ∙ sym (by_test texts n cs ds a b true test) ∙ both texts n xs ys cs ds a b e f
  where
    goes : (texts : Bool) (a : ℕ) → (texts ≡ true → a ≡ 0 → ⊥) → compared texts n cs ds ≡ on_equal texts n a cs ds
    goes true zero h = absurd (h refl refl)
    goes true (suc c) h = refl
    goes false a h = refl

-- ---- texts end where they can be read no further

cells_enough : (cells : List Cell) (ys : Reads) (n : ℕ) → length (cell_reads cells) ≤ n → compared true n (cell_reads cells) ys ≡ compared true (length (cell_reads cells)) (cell_reads cells) ys
cells_enough [] ys zero l = absurd (omega arith)
cells_enough [] ys (suc n) l = refl
cells_enough (None ∷ cells) ys zero l = absurd (omega arith)
cells_enough (None ∷ cells) ys (suc n) l = refl
cells_enough (Some b ∷ cells) ys zero l = absurd (omega arith)
cells_enough (Some b ∷ cells) [] (suc n) l = refl
cells_enough (Some b ∷ cells) (Err t ∷ ys) (suc n) l = refl
cells_enough (Some b ∷ cells) (Ok c ∷ ys) (suc n) l =
    λ i. elim (b == c) [
      | true ↦ elim b [ zero ↦ Ok (pos 0) | suc d ↦ cells_enough cells ys n (omega arith) i ]
      | false ↦ Ok (order_of b c)
    ]

reads_few : (cells : List Cell) → length (cell_reads cells) ≤ suc (length cells)
reads_few [] = omega arith
reads_few (None ∷ cells) = omega arith
reads_few (Some b ∷ cells) = omega (arith, reads_few cells)

found_enough : (found : Result (List Cell) Trap) (o n : ℕ) (ys : Reads) → Ok n ≡ and_then found (λ cells. Ok (length cells - o)) → compared true (n + 1) (reads_of found o) ys ≡ compared true (length (reads_of found o)) (reads_of found o) ys
found_enough (Err t) o n ys e = cc
found_enough (Ok cells) o n ys e =
    let same : n ≡ length cells - o = cc in
    cells_enough (drop o cells) ys (n + 1) (omega (arith, same, reads_few (drop o cells), length-drop o cells))

pub enough : (m : Memory) (p n : ℕ) (ys : Reads) → Ok n ≡ and_then (object_cells m (object_of p)) (λ cells. Ok (length cells - offset_of p)) → compared true (n + 1) (reads_from m p) ys ≡ compared true (length (reads_from m p)) (reads_from m p) ys
enough m p n ys e = found_enough (object_cells m (object_of p)) (offset_of p) n ys e

found_none : (found : Result (List Cell) Trap) (o : ℕ) (t : Trap) (ys : Reads) → Err t ≡ and_then found (λ cells. Ok (length cells - o)) → Err t ≡ compared true (length (reads_of found o)) (reads_of found o) ys
found_none (Err u) o t ys e = let same : t ≡ u = cc in ap Err same ∙ first_traps true (length (reads_of (Err u) o)) (Err u ∷ []) ys u (omega arith) refl
found_none (Ok cells) o t ys e = cc

pub nothing_read : (m : Memory) (p : ℕ) (t : Trap) (ys : Reads) → Err t ≡ and_then (object_cells m (object_of p)) (λ cells. Ok (length cells - offset_of p)) → Err t ≡ compared true (length (reads_from m p)) (reads_from m p) ys
nothing_read m p t ys e = found_none (object_cells m (object_of p)) (offset_of p) t ys e

-- the next byte
pub going : (texts : Bool) (limit at : ℕ) (xs ys : Reads) (a b : ℕ) → at < limit → Read xs at a → Read ys at b → (a == b) ≡ true → (texts ≡ true → a ≡ 0 → ⊥) → compared texts (limit - (at + 1)) (drop (at + 1) xs) (drop (at + 1) ys) ≡ compared texts (limit - at) (drop at xs) (drop at ys)
going texts limit at xs ys a b l r s test h =
    let next : at + 1 ≡ suc at = omega arith in
    let less : limit - (at + 1) ≡ limit - at - 1 = omega arith in
    ap (λ k. compared texts k (drop (at + 1) xs) (drop (at + 1) ys)) less
    ∙ ap (λ k. compared texts (limit - at - 1) (drop k xs) (drop k ys)) next
    ∙ equal_so_far texts (limit - at) (drop at xs) (drop at ys) (drop (suc at) xs) (drop (suc at) ys) a b (omega arith) r.here s.here test h
