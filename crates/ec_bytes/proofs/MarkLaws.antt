-- Marks that are written piece by piece.
use Rattle.std.proofs.Common.{◌≡◌, ◌==◌, ◌∙◌, sym, ap, refl, ℕ, zero, suc, ◌+◌, ◌-◌, ◌*◌, ◌<◌, ◌≤◌, Bool, true, false, List, [], ◌∷◌, ◌++◌, length, take, drop, replicate, arith, append_assoc, length-append, length-take, length-drop}
use Rattle.std.specs.List.{list_all}
use Rattle.std.specs.Prelude.{◌&&◌}
use Rattle.std.proofs.lemmas.List.{append-nil, drop-drop, take_at, drop_at, take-append-drop, length-take-le, length-replicate, replicate-append-replicate, take-append-le}
use Rattle.std.proofs.Math.Seq.{take-add}
use Rattle.ec_memory_defs.specs.Cells.{written}
use Rattle.ec_bytes.specs.Bits.{low_bits, bits_of, marks_of, mark_of, byte_of}
use Rattle.ec_bytes.proofs.BitLaws.{bits_append, drop_bits, take_bits, length_bits, spliced}
use Rattle.ec_bytes.proofs.Marks.{ones}
use Rattle.ec_bytes.proofs.Places.{part_after, part_before}

-- nothing written
pub none_written : {X : Type 0} (xs : List X) (at : ℕ) → written xs at [] ≡ xs
none_written xs at =
    let e : at + 0 ≡ at = omega arith in
    ap (λ l. l ++ drop (at + 0) xs) (append-nil (take at xs)) ∙ ap (λ k. take at xs ++ drop k xs) e ∙ take-append-drop at xs

-- a piece written behind another
pub joined : (xs : List ℕ) (at : ℕ) (p r : List ℕ) (k : ℕ) → k ≡ at + length p → at + length p + length r ≤ length xs → written (written xs at p) k r ≡ written xs at (p ++ r)
joined xs at p r k is fits =
    let D = drop (at + length p) xs in
    let H = take at xs ++ p in
    let front : length H ≡ k = length-append (take at xs) p ∙ omega (arith, length-take-le at xs (omega arith)) in
    let long : length (take (length r) D) ≡ length r = length-take-le (length r) D (omega (arith, length-drop (at + length p) xs)) in
    let e : at + length p + length r ≡ at + length (p ++ r) = omega (arith, length-append p r) in
    ap (λ l. written (H ++ l) k r) (sym (take-append-drop (length r) D))
    ∙ spliced H (take (length r) D) (drop (length r) D) r k front long
    ∙ sym (append_assoc H r (drop (length r) D)) ∙ ap (λ l. l ++ drop (length r) D) (append_assoc (take at xs) p r)
    ∙ ap (λ l. take at xs ++ (p ++ r) ++ l) (drop-drop (length r) (at + length p) xs ∙ ap (λ j. drop j xs) e)

-- and before it
pub joined_front : (xs : List ℕ) (at : ℕ) (p r : List ℕ) (k : ℕ) → k ≡ at + length r → k + length p ≤ length xs → written (written xs k p) at r ≡ written xs at (r ++ p)
joined_front xs at p r k is fits =
    let D = drop (k + length p) xs in
    let B = take (length r) (drop at xs) in
    let front : length (take at xs) ≡ at = length-take-le at xs (omega arith) in
    let long : length B ≡ length r = length-take-le (length r) (drop at xs) (omega (arith, length-drop at xs)) in
    let e : k + length p ≡ at + length (r ++ p) = omega (arith, length-append r p) in
    let head : take k xs ≡ take at xs ++ B = ap (λ j. take j xs) is ∙ take-add at (length r) xs in
    ap (λ l. written (l ++ p ++ D) at r) head
    ∙ ap (λ l. written l at r) (ap (λ l. l ++ D) (append_assoc (take at xs) B p) ∙ append_assoc (take at xs) (B ++ p) D ∙ ap (λ l. take at xs ++ l) (append_assoc B p D))
    ∙ spliced (take at xs) B (p ++ D) r at front long
    ∙ ap (λ l. take at xs ++ l) (sym (append_assoc r p D)) ∙ sym (append_assoc (take at xs) (r ++ p) D)
    ∙ ap (λ j. take at xs ++ (r ++ p) ++ drop j xs) e

-- marks of one kind
pub more_written : (xs : List ℕ) (at a b x k : ℕ) → k ≡ at + a → at + a + b ≤ length xs → written (written xs at (replicate a x)) k (replicate b x) ≡ written xs at (replicate (a + b) x)
more_written xs at a b x k is fits =
    let la = length-replicate a x in let lb = length-replicate b x in
    joined xs at (replicate a x) (replicate b x) k (omega (arith, la)) (omega (arith, la, lb)) ∙ ap (written xs at) (replicate-append-replicate a b x)

-- whole bytes of them
whole_bits : (k : ℕ) (t : Bool) → bits_of (replicate k (byte_of t)) ≡ replicate (8 * k) (mark_of t)
whole_bits zero t = refl
whole_bits (suc k) true =
    let e : 8 + 8 * k ≡ 8 * suc k = omega arith in
    ap (λ l. replicate 8 1 ++ l) (whole_bits k true) ∙ replicate-append-replicate 8 (8 * k) 1 ∙ ap (λ j. replicate j 1) e
whole_bits (suc k) false =
    let e : 8 + 8 * k ≡ 8 * suc k = omega arith in
    ap (λ l. replicate 8 0 ++ l) (whole_bits k false) ∙ replicate-append-replicate 8 (8 * k) 0 ∙ ap (λ j. replicate j 0) e

pub bits_written : (bytes : List ℕ) (q : ℕ) (p : List ℕ) → bits_of (written bytes q p) ≡ written (bits_of bytes) (8 * q) (bits_of p)
bits_written bytes q p =
    let X = bits_of bytes in
    let e : 8 * (q + length p) ≡ 8 * q + length (bits_of p) = omega (arith, length_bits p) in
    bits_append (take q bytes ++ p) (drop (q + length p) bytes)
    ∙ ap (λ l. l ++ bits_of (drop (q + length p) bytes)) (bits_append (take q bytes) p ∙ ap (λ l. l ++ bits_of p) (sym (take_bits q bytes)))
    ∙ ap (λ l. take (8 * q) X ++ bits_of p ++ l) (sym (drop_bits (q + length p) bytes) ∙ ap (λ j. drop j X) e)

-- the list behind some items, where what is written stands behind them
pub drop_written : (xs : List ℕ) (room q : ℕ) (p : List ℕ) → room + q ≤ length xs → drop room (written xs (room + q) p) ≡ written (drop room xs) q p
drop_written xs room q p fits =
    let A = take room xs in
    let M = take q (drop room xs) in
    let D = drop (room + q + length p) xs in
    let front : length A ≡ room = length-take-le room xs (omega arith) in
    let e : room + q + length p ≡ room + (q + length p) = omega arith in
    ap (λ l. drop room (l ++ p ++ D)) (take-add room q xs)
    ∙ ap (drop room) (ap (λ l. l ++ D) (append_assoc A M p) ∙ append_assoc A (M ++ p) D)
    ∙ drop_at A ((M ++ p) ++ D) room front
    ∙ ap (λ l. M ++ p ++ l) (ap (λ j. drop j xs) e ∙ sym (drop-drop (q + length p) room xs))

pub whole_marks : (room : ℕ) (memory : List ℕ) (q k : ℕ) (t : Bool) → room + q + k ≤ length memory → marks_of room (written memory (room + q) (replicate k (byte_of t))) ≡ written (marks_of room memory) (8 * q) (replicate (8 * k) (mark_of t))
whole_marks room memory q k t fits =
    ap bits_of (drop_written memory room q (replicate k (byte_of t)) (omega arith)) ∙ bits_written (drop room memory) q (replicate k (byte_of t)) ∙ ap (written (marks_of room memory) (8 * q)) (whole_bits k t)

-- how many marks there are
pub length_marks : (room : ℕ) (memory : List ℕ) → length (marks_of room memory) ≡ 8 * (length memory - room)
length_marks room memory = omega (arith, length_bits (drop room memory), length-drop room memory)

-- marks that are all set, piece by piece
abbrev set : List ℕ → Bool
set marks = list_all (λ mark. mark == 1) marks

both : (t a b c : Bool) → c ≡ (a && b) → (t && c) ≡ ((t && a) && b)
both true a b c e = e
both false a b c e = refl

set_append : (xs ys : List ℕ) → set (xs ++ ys) ≡ (set xs && set ys)
set_append [] ys = refl
set_append (x ∷ xs) ys = both (x == 1) (set xs) (set ys) (set (xs ++ ys)) (set_append xs ys)

parts : (xs : List ℕ) (at done k : ℕ) → take (done + k) (drop at xs) ≡ take done (drop at xs) ++ take k (drop (at + done) xs)
parts xs at done k = take-add done k (drop at xs) ∙ ap (λ l. take done (drop at xs) ++ take k l) (drop-drop done at xs)

pub all_more : (xs : List ℕ) (at done k n : ℕ) → n ≡ done + k → set (take done (drop at xs)) ≡ true → set (take n (drop at xs)) ≡ set (take k (drop (at + done) xs))
all_more xs at done k n is all =
    ap (λ j. set (take j (drop at xs))) is ∙ ap set (parts xs at done k) ∙ set_append (take done (drop at xs)) (take k (drop (at + done) xs)) ∙ ap (λ t. t && set (take k (drop (at + done) xs))) all

pub all_less : (xs : List ℕ) (at done n : ℕ) → done ≤ n → set (take done (drop at xs)) ≡ false → set (take n (drop at xs)) ≡ false
all_less xs at done n fits none =
    let e : n ≡ done + (n - done) = omega arith in
    ap (λ j. set (take j (drop at xs))) e ∙ ap set (parts xs at done (n - done)) ∙ set_append (take done (drop at xs)) (take (n - done) (drop (at + done) xs)) ∙ ap (λ t. t && set (take (n - done) (drop (at + done) xs))) none

pub all_are : (xs : List ℕ) (at n : ℕ) → at + n ≤ length xs → set (take n (drop at xs)) ≡ true → replicate n 1 ≡ take n (drop at xs)
all_are xs at n fits all =
    sym (ones (take n (drop at xs)) all ∙ ap (λ k. replicate k 1) (length-take-le n (drop at xs) (omega (arith, length-drop at xs))))

-- marks that are moved to a place before, from the first on
pub moved_down : (xs ys : List ℕ) (from to done k : ℕ) → to ≤ from → from + done + k ≤ length xs → ys ≡ written xs to (take done (drop from xs))
    → written ys (to + done) (take k (drop (from + done) ys)) ≡ written xs to (take (done + k) (drop from xs))
moved_down xs ys from to done k before fits is =
    let p = take done (drop from xs) in let r = take k (drop (from + done) xs) in
    let lp : length p ≡ done = length-take-le done (drop from xs) (omega (arith, length-drop from xs)) in
    let lr : length r ≡ k = length-take-le k (drop (from + done) xs) (omega (arith, length-drop (from + done) xs)) in
    ap (λ l. written l (to + done) (take k (drop (from + done) l))) is
    ∙ ap (written (written xs to p) (to + done)) (part_after xs to p (from + done) k (omega (arith, lp)) (omega (arith, lp)))
    ∙ joined xs to p r (to + done) (omega (arith, lp)) (omega (arith, lp, lr))
    ∙ ap (written xs to) (sym (parts xs from done k))

-- and to a place behind, from the last on
pub moved_up : (xs ys : List ℕ) (from to left k n : ℕ) → from ≤ to → to + n ≤ length xs → left + k ≤ n → ys ≡ written xs (to + (left + k)) (take (n - (left + k)) (drop (from + (left + k)) xs))
    → written ys (to + left) (take k (drop (from + left) ys)) ≡ written xs (to + left) (take (n - left) (drop (from + left) xs))
moved_up xs ys from to left k n behind fits some is =
    let at = from + (left + k) in
    let p = take (n - (left + k)) (drop at xs) in let r = take k (drop (from + left) xs) in
    let lp : length p ≡ n - (left + k) = length-take-le (n - (left + k)) (drop at xs) (omega (arith, length-drop at xs)) in
    let lr : length r ≡ k = length-take-le k (drop (from + left) xs) (omega (arith, length-drop (from + left) xs)) in
    let e : n - left ≡ k + (n - (left + k)) = omega arith in
    let f : from + left + k ≡ at = omega arith in
    ap (λ l. written l (to + left) (take k (drop (from + left) l))) is
    ∙ ap (written (written xs (to + (left + k)) p) (to + left)) (part_before xs (to + (left + k)) p (from + left) k (omega arith) (omega (arith, lp)))
    ∙ joined_front xs (to + left) p r (to + (left + k)) (omega (arith, lr)) (omega (arith, lp))
    ∙ ap (written xs (to + left)) (sym (ap (λ j. take j (drop (from + left) xs)) e ∙ parts xs (from + left) k (n - (left + k)) ∙ ap (λ j. r ++ take (n - (left + k)) (drop j xs)) f))
