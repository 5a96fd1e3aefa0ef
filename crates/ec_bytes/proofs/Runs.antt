-- The bytes before a zero byte or an unset cell.
use Rattle.std.proofs.Common.{◌≡◌, ◌==◌, ◌∙◌, sym, ap, refl, ℕ, zero, suc, ◌+◌, ◌-◌, ◌<◌, ◌≤◌, ◌&&◌, Bool, true, not, List, [], ◌∷◌, ◌++◌, length, get_or, take, drop, arith, append_assoc, drop-cons, length-drop, ne_eqb}
use Rattle.std.specs.List.{list_all}
use Rattle.std.proofs.lemmas.Bool.{and_from, both_ways}
use Rattle.std.proofs.lemmas.List.Folds.{list_all-append}
use Rattle.std.proofs.lemmas.List.{append-nil, drop-drop, drop_more}
use Rattle.std.proofs.Math.Seq.{take-add}
use Rattle.ec_memory_defs.specs.Cells.{Cell, part_of}
use Rattle.ec_bytes.specs.Bits.{marks_of}
use Rattle.ec_bytes.specs.Region.{cells_of, run_of}
use Rattle.ec_bytes.proofs.Cells.{first_unset, part_cells}

-- the run from the next cell on, by its byte and mark
at_cell : (bytes : List ℕ) (marks : List ℕ) (n d : ℕ) (e : ℕ) → n < length bytes → length marks ≡ length bytes → cells_of (drop n bytes) (drop n marks) ≡ cells_of (get_or bytes n d ∷ drop (n + 1) bytes) (get_or marks n e ∷ drop (n + 1) marks)
at_cell bytes marks n d e within same =
    ap (λ bs. cells_of bs (drop n marks)) (drop-cons bytes n d within ∙ ap (λ k. get_or bytes n d ∷ drop k bytes) (add_one n))
    ∙ ap (cells_of (get_or bytes n d ∷ drop (n + 1) bytes)) (drop-cons marks n e (omega arith) ∙ ap (λ k. get_or marks n e ∷ drop k marks) (add_one n))
  where
    add_one : (n : ℕ) → suc n ≡ n + 1
    add_one n = omega arith

-- there is none at a byte that isn't set
no_run : (b : ℕ) (bytes : List ℕ) (m : ℕ) (marks : List ℕ) → (m ≡ 1 → ⊥) → run_of (cells_of (b ∷ bytes) (m ∷ marks)) ≡ []
no_run b bytes zero marks unset = refl
no_run b bytes (suc zero) marks unset = absurd (unset refl)
no_run b bytes (suc (suc m)) marks unset = refl

-- it ends at a cell that is unset
pub ends_unset : (bytes : List ℕ) (marks : List ℕ) (n d e : ℕ) → n < length bytes → length marks ≡ length bytes → (get_or marks n e ≡ 1 → ⊥) → run_of (cells_of (drop n bytes) (drop n marks)) ≡ []
ends_unset bytes marks n d e within same unset =
    ap run_of (at_cell bytes marks n d e within same) ∙ no_run (get_or bytes n d) (drop (n + 1) bytes) (get_or marks n e) (drop (n + 1) marks) unset

-- and at a zero byte
zero_run : (bytes : List ℕ) (m : ℕ) (marks : List ℕ) → run_of (cells_of (0 ∷ bytes) (m ∷ marks)) ≡ []
zero_run bytes zero marks = refl
zero_run bytes (suc zero) marks = refl
zero_run bytes (suc (suc m)) marks = refl

pub ends_zero : (bytes : List ℕ) (marks : List ℕ) (n d e : ℕ) → n < length bytes → length marks ≡ length bytes → get_or bytes n d ≡ 0 → run_of (cells_of (drop n bytes) (drop n marks)) ≡ []
ends_zero bytes marks n d e within same nought =
    ap run_of (at_cell bytes marks n d e within same) ∙ ap (λ b. run_of (cells_of (b ∷ drop (n + 1) bytes) (get_or marks n e ∷ drop (n + 1) marks))) nought ∙ zero_run (drop (n + 1) bytes) (get_or marks n e) (drop (n + 1) marks)

-- so what was read is the run
pub whole_run : (front rest run : List ℕ) → run ≡ front ++ rest → rest ≡ [] → front ≡ run
whole_run front rest run is none = sym (is ∙ ap (λ r. front ++ r) none ∙ append-nil front)

-- the run of a part of a region
pub run_part : (cells : List Cell) (bytes : List ℕ) (marks : List ℕ) (at n : ℕ) (piece run : List ℕ) (set : List ℕ) → run ≡ run_of (cells_of piece set) → piece ≡ take n (drop at bytes) → set ≡ take n (drop at marks) → cells_of bytes marks ≡ cells → run ≡ run_of (part_of cells at n)
run_part cells bytes marks at n piece run set is p s view =
    is ∙ ap (λ bs. run_of (cells_of bs set)) p ∙ ap (λ ms. run_of (cells_of (take n (drop at bytes)) ms)) s
    ∙ ap run_of (sym (part_cells at n bytes marks)) ∙ ap (λ those. run_of (part_of those at n)) view

-- the first bytes are of the run where they are set and none is 0
pub first_run : (k : ℕ) (bytes : List ℕ) (marks : List ℕ) → k ≤ length bytes → length marks ≡ length bytes → list_all (λ mark. mark == 1) (take k marks) ≡ true → list_all (λ byte. not (byte == 0)) (take k bytes) ≡ true → run_of (cells_of bytes marks) ≡ take k bytes ++ run_of (cells_of (drop k bytes) (drop k marks))
first_run zero bytes marks within same set some = refl
first_run (suc k) [] marks within same set some = absurd (omega arith)
first_run (suc k) (b ∷ bytes) [] within same set some = absurd (omega arith)
first_run (suc k) (b ∷ bytes) (zero ∷ marks) within same set some = cc
first_run (suc k) (b ∷ bytes) (suc (suc m) ∷ marks) within same set some = absurd (both_ways (list_all (λ mark. mark == 1) (take (suc k) (suc (suc m) ∷ marks))) (first_unset m (take k marks)) set)
first_run (suc k) (zero ∷ bytes) (suc zero ∷ marks) within same set some = cc
first_run (suc k) (suc b ∷ bytes) (suc zero ∷ marks) within same set some = ap (λ run. suc b ∷ run) (first_run k bytes marks (omega arith) (omega arith) set (ap (λ test. not test && list_all (λ byte. not (byte == 0)) (take k bytes)) (sym (ne_eqb (suc b) 0 (λ e. omega arith))) ∙ some))

-- and so are the next, behind those that were found to be of it
pub next_run : (n k : ℕ) (bytes : List ℕ) (marks : List ℕ) → n + k ≤ length bytes → length marks ≡ length bytes → run_of (cells_of bytes marks) ≡ take n bytes ++ run_of (cells_of (drop n bytes) (drop n marks)) → list_all (λ mark. mark == 1) (take k (drop n marks)) ≡ true → list_all (λ byte. not (byte == 0)) (take k (drop n bytes)) ≡ true → run_of (cells_of bytes marks) ≡ take (n + k) bytes ++ run_of (cells_of (drop (n + k) bytes) (drop (n + k) marks))
next_run n k bytes marks within same before set some =
    let rest : List ℕ = run_of (cells_of (drop k (drop n bytes)) (drop k (drop n marks))) in
    before
    ∙ ap (λ run. take n bytes ++ run) (first_run k (drop n bytes) (drop n marks) (omega (arith, length-drop n bytes)) (length-drop n marks ∙ ap (λ l. l - n) same ∙ sym (length-drop n bytes)) set some)
    ∙ sym (append_assoc (take n bytes) (take k (drop n bytes)) rest)
    ∙ ap (λ front. front ++ rest) (sym (take-add n k bytes))
    ∙ ap (λ bs. take (n + k) bytes ++ run_of (cells_of bs (drop k (drop n marks)))) (drop-drop k n bytes)
    ∙ ap (λ ms. take (n + k) bytes ++ run_of (cells_of (drop (n + k) bytes) ms)) (drop-drop k n marks)

-- the run of the n cells from at on is their first k bytes, and the run of the cells behind those
abbrev pub RunFrom : ℕ → List ℕ → ℕ → ℕ → ℕ → Type 0
RunFrom room memory at n k = run_of (cells_of (part_of memory at n) (part_of (marks_of room memory) at n))
    ≡ take k (part_of memory at n) ++ run_of (cells_of (drop k (part_of memory at n)) (drop k (part_of (marks_of room memory) at n)))

-- bytes of which none is 0, and the next of them
abbrev none_zero : List ℕ → Bool
none_zero = list_all (λ byte. not (byte == 0))

pub none_more : (bytes : List ℕ) (at n k : ℕ) → none_zero (take n (drop at bytes)) ≡ true → none_zero (take k (drop (at + n) bytes)) ≡ true → none_zero (take (n + k) (drop at bytes)) ≡ true
none_more bytes at n k first next =
    ap none_zero (take-add n k (drop at bytes)) ∙ list_all-append (λ byte. not (byte == 0)) (take n (drop at bytes)) (take k (drop n (drop at bytes)))
    ∙ and_from (none_zero (take n (drop at bytes))) (none_zero (take k (drop n (drop at bytes)))) first (ap (λ l. none_zero (take k l)) (drop-drop n at bytes) ∙ next)

pub none_one : (bytes : List ℕ) (at n : ℕ) → at + n < length bytes → none_zero (take n (drop at bytes)) ≡ true → (get_or bytes (at + n) 0 ≡ 0 → ⊥) → none_zero (take (n + 1) (drop at bytes)) ≡ true
none_one bytes at n inside first some =
    none_more bytes at n 1 first (ap none_zero (ap (take 1) (drop_more bytes (at + n) 0 inside)) ∙ ap (λ t. not t && true) (ne_eqb (get_or bytes (at + n) 0) 0 some))
