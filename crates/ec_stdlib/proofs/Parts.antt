-- Parts of a format, one behind the other.
use Rattle.std.proofs.Common.{◌≡◌, ◌∙◌, refl, ap, sym, ℕ, suc, ◌+◌, ◌<◌, length, get_or, drop, drop-cons, add-one, List, [], ◌∷◌, ◌++◌, Option, Some, None, Result, Ok, Err, append_assoc, Bool, ℤ, pos}
use Rattle.ec_base.specs.declared.stop.Trap.{Trap}
use Rattle.ec_ctypes.specs.Arithmetic.{converted}
use Rattle.ec_meaning_defs.specs.functions.Formats.{Amount, absent, given, from_argument, Field, Part, Style, integer}
use Rattle.ec_meaning_defs.specs.functions.Printing.{Put, integer_bytes, joined, part_put, printed, read_as, with_amount, with_number}
use Rattle.ec_memory_defs.specs.Memory.{Memory, ValueData, number, address}
use Rattle.ec_stdlib.specs.Parts.{amount_taken, behind, number_taken, put_result}

abbrev pub All : Type 0
All = Option (Result (List ℕ) Trap)

joined_twice : (xs ys : List ℕ) (all : All) → joined (Ok xs) (joined (Ok ys) all) ≡ joined (Ok (xs ++ ys)) all
joined_twice xs ys None = refl
joined_twice xs ys (Some (Err t)) = refl
joined_twice xs ys (Some (Ok zs)) = ap (λ b. Some (Ok b)) (sym (append_assoc xs ys zs))

abbrev first_of : Put → Result (List ℕ) Trap
first_of None = Ok []
first_of (Some done) = done.0

abbrev rest_of : Put → List ValueData
rest_of None = []
rest_of (Some done) = done.1

put_more : (front new : List ℕ) (put : Put) (rest : List ValueData) (k : List ValueData → All) → behind front put ≡ Some (Ok new, rest) → joined (Ok front) (elim put [ None ↦ None | Some done ↦ joined done.0 (k done.1) ]) ≡ joined (Ok new) (k rest)
put_more front new None rest k e = cc
put_more front new (Some (Err t, vs)) rest k e = let no : Err t ≡ Ok new = ap first_of e in cc
put_more front new (Some (Ok bytes, vs)) rest k e =
    let both : Ok (front ++ bytes) ≡ Ok new = ap first_of e in
    let same : front ++ bytes ≡ new = cc in
    let left : vs ≡ rest = ap rest_of e in
    joined_twice front bytes (k vs) ∙ ap (λ b. joined (Ok b) (k vs)) same ∙ ap (λ v. joined (Ok new) (k v)) left

-- a part that was put
pub printed_more : (m : Memory) (front new : List ℕ) (part : Part) (parts : List Part) (vs rest : List ValueData) → behind front (part_put m part vs) ≡ Some (Ok new, rest) → joined (Ok front) (printed m (part ∷ parts) vs) ≡ joined (Ok new) (printed m parts rest)
printed_more m front new part parts vs rest e = put_more front new (part_put m part vs) rest (printed m parts) e

trapped : (front : List ℕ) (put : Put) (t : Trap) (k : List ValueData → All) → put_result put ≡ Some (Err t) → joined (Ok front) (elim put [ None ↦ None | Some done ↦ joined done.0 (k done.1) ]) ≡ Some (Err t)
trapped front None t k e = cc
trapped front (Some (Err u, vs)) t k e = e
trapped front (Some (Ok bytes, vs)) t k e = cc

-- one that traps
pub printed_trap : (m : Memory) (front : List ℕ) (part : Part) (parts : List Part) (vs : List ValueData) (t : Trap) → put_result (part_put m part vs) ≡ Some (Err t) → joined (Ok front) (printed m (part ∷ parts) vs) ≡ Some (Err t)
printed_trap m front part parts vs t e = trapped front (part_put m part vs) t (printed m parts) e

-- one whose arguments do not fit
pub printed_misfit : (m : Memory) (front : List ℕ) (part : Part) (parts : List Part) (vs : List ValueData) → part_put m part vs ≡ None → joined (Ok front) (printed m (part ∷ parts) vs) ≡ None
printed_misfit m front part parts vs e = ap (λ p. joined (Ok front) (elim p [ None ↦ None | Some done ↦ joined done.0 (printed m parts done.1) ])) e

-- the item at an index, and what stands behind it
pub drop_item : {A : Type 0} (xs : List A) (i : ℕ) (x : A) → i < length xs → x ≡ get_or xs i x → drop i xs ≡ x ∷ drop (i + 1) xs
drop_item xs i x h e = drop-cons xs i x h ∙ ap (λ y. y ∷ drop (suc i) xs) (sym e) ∙ ap (λ n. x ∷ drop n xs) (sym (add-one i))

-- ---- numbers of the arguments

abbrev number_of : Option (ℤ × List ValueData) → ℤ
number_of None = pos 0
number_of (Some p) = p.0

abbrev left_of : Option (ℤ × List ValueData) → List ValueData
left_of None = []
left_of (Some p) = p.1

with_number_is : (vs us : List ValueData) (n : ℤ) (k : ℤ → List ValueData → Put) → Some (n, us) ≡ number_taken vs → with_number vs k ≡ k n us
with_number_is [] us n k e = cc
with_number_is (number z ∷ vs) us n k e = sym (λ i. k (number_of (e i)) (left_of (e i)))
with_number_is (address p ∷ vs) us n k e = cc

with_amount_is : (a : Amount) (o : ℤ) (vs us : List ValueData) (n : ℤ) (k : ℤ → List ValueData → Put) → Some (n, us) ≡ amount_taken a o vs → with_amount a o vs k ≡ k n us
with_amount_is absent o vs us n k e = sym (λ i. k (number_of (e i)) (left_of (e i)))
with_amount_is (given j) o vs us n k e = sym (λ i. k (number_of (e i)) (left_of (e i)))
with_amount_is from_argument o vs us n k e = with_number_is vs us n k e

pub integer_put : (f : Field) (wide : Bool) (style : Style) (vs us ws : List ValueData) (width z : ℤ) (old new : List ℕ) → Some (width, us) ≡ amount_taken f.width (pos 0) vs → Some (z, ws) ≡ number_taken us → new ≡ old ++ integer_bytes f width style (converted (read_as wide style) z) → (m : Memory) → behind old (part_put m (integer f wide style) vs) ≡ Some (Ok new, ws)
integer_put f wide style vs us ws width z old new e g is m =
    ap (behind old) (with_amount_is f.width (pos 0) vs us width (λ width us. with_number us (λ z ws. Some (Ok (integer_bytes f width style (converted (read_as wide style) z)), ws))) e)
    ∙ ap (behind old) (with_number_is us ws z (λ z ws. Some (Ok (integer_bytes f width style (converted (read_as wide style) z)), ws)) g)
    ∙ (λ i. Some (Ok (sym is i), ws))
