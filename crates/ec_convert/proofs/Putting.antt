-- Bytes that are put in parts, once all of them are lent.
use Rattle.std.proofs.Common.{◌≡◌, ◌∙◌, sym, ap, ℕ, ◌+◌, ◌^◌, ◌≤◌, List, ◌++◌, length, replicate, Some, Result, Ok, Err, arith, length-append}
use Rattle.std.specs.Result.{result_err}
use Rattle.std.proofs.lemmas.List.{length-map}
use Rattle.ec_base.specs.declared.stop.Trap.{Trap}
use Rattle.ec_memory.proofs.Calls.{write_trapped}
use Rattle.ec_memory.proofs.Parts.{put_behind, zeros_behind}
use Rattle.ec_memory_defs.specs.Cells.{set_cells}
use Rattle.ec_memory_defs.specs.Memory.{Memory, cells_at, offset_of, put, fill}

-- a text, and zero bytes behind it
pub text_put : (m lent first after : Memory) (p q r n k : ℕ) (text : List ℕ) → lent ≡ m → q ≡ p → r ≡ q → put lent (q + 0) text ≡ Ok first → k ≡ length text → offset_of p + (k + n) ≤ 2 ^ 28 → fill first (r + k) n 0 ≡ Ok after → Ok after ≡ put m p (text ++ replicate n 0)
text_put m lent first after p q r n k text same at again e whole near f =
    let begins : p ≡ q + 0 = omega (arith, at) in
    let behind : p + k ≡ r + k = omega (arith, at, again) in
    sym (zeros_behind m first after p k n text (ap (λ m. put m p text) (sym same) ∙ ap (λ x. put lent x text) begins ∙ e) whole (omega (arith, near)) (ap (λ x. fill first x n 0) behind ∙ f))

-- a length, the text behind it, and zero bytes behind both
pub counted_put : (m lent first second after : Memory) (p q r s n k : ℕ) (head text : List ℕ) → lent ≡ m → q ≡ p → r ≡ q → s ≡ r → put lent (q + 0) head ≡ Ok first → length head ≡ 4 → put first (r + 4) text ≡ Ok second → k ≡ length text → offset_of p + (4 + k + n) ≤ 2 ^ 28 → fill second (s + (4 + k)) n 0 ≡ Ok after → Ok after ≡ put m p (head ++ text ++ replicate n 0)
counted_put m lent first second after p q r s n k head text same at again also e four f whole near g =
    let begins : p ≡ q + 0 = omega (arith, at) in
    let behind : p + 4 ≡ r + 4 = omega (arith, at, again) in
    let beyond : p + (4 + k) ≡ s + (4 + k) = omega (arith, at, again, also) in
    let both : put m p (head ++ text) ≡ Ok second = put_behind m first second p 4 head text (ap (λ m. put m p head) (sym same) ∙ ap (λ x. put lent x head) begins ∙ e) (sym four) (omega (arith, near)) (ap (λ x. put first x text) behind ∙ f) in
    sym (zeros_behind m second after p (4 + k) n (head ++ text) both (omega (arith, length-append head text, four, whole)) (omega (arith, near)) (ap (λ x. fill second x n 0) beyond ∙ g))

-- bytes that couldn't be lent can't be put
pub not_put : (m : Memory) (p n : ℕ) (bytes : List ℕ) (t : Trap) → Some t ≡ result_err (cells_at m p n) → length bytes ≡ n → Err t ≡ put m p bytes
not_put m p n bytes t e whole = sym (write_trapped m p n (set_cells bytes) t (length-map bytes Some ∙ whole) (err_of (cells_at m p n) e))
  where
    err_of : {A : Type 0} (r : Result A Trap) → Some t ≡ result_err r → r ≡ Err t
    err_of (Ok a) e = cc
    err_of (Err u) e = let same : u ≡ t = cc in ap Err same
