-- What holds of the bits of numbers and of bytes.
use Rattle.std.proofs.Common.{◌≡◌, ◌==◌, ◌∙◌, sym, ap, refl, ℕ, zero, suc, ◌+◌, ◌-◌, ◌*◌, ◌/◌, ◌%◌, ◌^◌, ◌<◌, ◌≤◌, Bool, true, false, List, [], ◌∷◌, ◌++◌, length, take, drop, set, get_or, replicate, arith, append_assoc, length-append, length-take, length-drop, length-set, ne_eqb, mod-eq_of_lt, pow_mono}
use Rattle.std.specs.List.{list_all}
use Rattle.std.specs.Prelude.{bit_and, bit_or}
use Rattle.std.proofs.lemmas.Bool.{both_ways, eq-eqb}
use Rattle.std.proofs.lemmas.Nat.{shr-shr, shr_split, mod-pow-add, pow_pos, mod_below, mod_low, shr_high, shl_below, shl_whole}
use Rattle.std.proofs.lemmas.List.{drop-drop, take_at, drop_at, drop_all, drop_more, take-append-drop, length-take-le, get_or-set_same, get_or-set_other, take-set-le, drop-set-lt, drop-set-add, get_or-drop}
use Rattle.std.proofs.Math.Seq.{take-add}
use Rattle.std.proofs.Math.Nat.{pow-suc}
use native.Mathlib.Nat.{add-mul, mul-le-mul_right}
use lib.Bits.{or_block, or_add_and, and_mask, or_zero_r, or_lt}
use Rattle.ec_memory_defs.specs.Cells.{written}
use Rattle.ec_bytes.specs.Bits.{low_bits, bits_of, marks_of, mark_of, with_bits, all_bits}
use Rattle.ec_bytes.proofs.Marks.{ones}

-- There are as many bits as were asked for.
pub length_low : (n v : ℕ) → length (low_bits n v) ≡ n
length_low zero v = refl
length_low (suc n) v = ap suc (length_low n (v / 2))

pub length_bits : (bytes : List ℕ) → length (bits_of bytes) ≡ 8 * length bytes
length_bits [] = refl
length_bits (b ∷ bytes) = omega (arith, length_bits bytes)

-- the lowest bits, and those above them
pub low_split : (a b v : ℕ) → low_bits (a + b) v ≡ low_bits a v ++ low_bits b (v / 2 ^ a)
low_split zero b v =
    let e : 0 + b ≡ b = omega arith in
    let f : v / 1 ≡ v = omega arith in
    ap (λ n. low_bits n v) e ∙ ap (low_bits b) (sym f)
low_split (suc a) b v =
    let e : suc a + b ≡ suc (a + b) = omega arith in
    let f : 1 + a ≡ suc a = omega arith in
    ap (λ n. low_bits n v) e ∙ ap (λ l. v % 2 ∷ l) (low_split a b (v / 2)
    ∙ ap (λ x. low_bits a (v / 2) ++ low_bits b x) (shr-shr v 1 a ∙ ap (λ k. v / 2 ^ k) f))

-- one bit more of a number
low_step : (a v : ℕ) → v % 2 ^ suc a ≡ (v / 2 % 2 ^ a) * 2 + v % 2
low_step a v = let e : suc a ≡ a + 1 = omega arith in ap (λ k. v % 2 ^ k) e ∙ mod-pow-add v a 1

-- what stands above them does not count
pub low_mod : (a v : ℕ) → low_bits a (v % 2 ^ a) ≡ low_bits a v
low_mod zero v = refl
low_mod (suc a) v =
    let m = low_step a v in
    let low : (v % 2 ^ suc a) % 2 ≡ v % 2 = omega (arith, m) in
    let high : (v % 2 ^ suc a) / 2 ≡ v / 2 % 2 ^ a = omega (arith, m) in
    ap (λ x. x ∷ low_bits a ((v % 2 ^ suc a) / 2)) low ∙ ap (λ x. v % 2 ∷ low_bits a x) high ∙ ap (λ l. v % 2 ∷ l) (low_mod a (v / 2))

pub low_same : (a v w : ℕ) → v % 2 ^ a ≡ w % 2 ^ a → low_bits a v ≡ low_bits a w
low_same a v w e = sym (low_mod a v) ∙ ap (low_bits a) e ∙ low_mod a w

-- the number of bits
abbrev number : List ℕ → ℕ
number [] = 0
number (b ∷ bits) = b + 2 * number bits

number_low : (n v : ℕ) → number (low_bits n v) ≡ v % 2 ^ n
number_low zero v = omega arith
number_low (suc n) v = omega (arith, low_step n v, number_low n (v / 2))

-- bits that are all 1, and all 0
pub low_ones : (n : ℕ) → low_bits n (2 ^ n - 1) ≡ replicate n 1
low_ones zero = refl
low_ones (suc n) =
    let p = pow-suc 2 n in let pos = pow_pos n in
    let low : (2 ^ suc n - 1) % 2 ≡ 1 = omega (arith, p, pos) in
    let high : (2 ^ suc n - 1) / 2 ≡ 2 ^ n - 1 = omega (arith, p, pos) in
    ap (λ x. x ∷ low_bits n ((2 ^ suc n - 1) / 2)) low ∙ ap (λ x. 1 ∷ low_bits n x) high ∙ ap (λ l. 1 ∷ l) (low_ones n)

pub low_zero : (n : ℕ) → low_bits n 0 ≡ replicate n 0
low_zero zero = refl
low_zero (suc n) = ap (λ l. 0 ∷ l) (low_zero n)

all_one : (n : ℕ) → list_all (λ mark. mark == 1) (replicate n 1) ≡ true
all_one zero = refl
all_one (suc n) = all_one n

-- they are all 1 where the number is the highest
decided : (n v : ℕ) → v < 2 ^ n → (t : Bool) → list_all (λ mark. mark == 1) (low_bits n v) ≡ t → (v == 2 ^ n - 1) ≡ t
decided n v lt true all =
    let pos = pow_pos n in
    let below : 2 ^ n - 1 < 2 ^ n = omega (arith, pos) in
    let same : low_bits n v ≡ low_bits n (2 ^ n - 1) = ones (low_bits n v) all ∙ ap (λ k. replicate k 1) (length_low n v) ∙ sym (low_ones n) in
    let is : v ≡ 2 ^ n - 1 = sym (mod-eq_of_lt lt) ∙ sym (number_low n v) ∙ ap number same ∙ number_low n (2 ^ n - 1) ∙ mod-eq_of_lt below in
    eq-eqb v (2 ^ n - 1) is
decided n v lt false all =
    ne_eqb v (2 ^ n - 1) (λ same. both_ways (list_all (λ mark. mark == 1) (low_bits n v)) all
    (ap (λ k. list_all (λ mark. mark == 1) (low_bits n k)) same ∙ ap (list_all (λ mark. mark == 1)) (low_ones n) ∙ all_one n))

pub all_ones : (n v : ℕ) → v < 2 ^ n → (v == 2 ^ n - 1) ≡ list_all (λ mark. mark == 1) (low_bits n v)
all_ones n v lt = decided n v lt (list_all (λ mark. mark == 1) (low_bits n v)) refl

-- the bits from a byte on, and up to it
drop_nil : (n : ℕ) → drop {A = ℕ} n [] ≡ []
drop_nil zero = refl
drop_nil (suc n) = refl

take_nil : (n : ℕ) → take {A = ℕ} n [] ≡ []
take_nil zero = refl
take_nil (suc n) = refl

pub drop_bits : (q : ℕ) (bytes : List ℕ) → drop (8 * q) (bits_of bytes) ≡ bits_of (drop q bytes)
drop_bits zero bytes = refl
drop_bits (suc q) [] = drop_nil (8 * suc q)
drop_bits (suc q) (b ∷ bytes) =
    let e : 8 * suc q ≡ 8 + 8 * q = omega arith in
    ap (λ k. drop k (bits_of (b ∷ bytes))) e ∙ sym (drop-drop (8 * q) 8 (bits_of (b ∷ bytes))) ∙ drop_bits q bytes

pub take_bits : (q : ℕ) (bytes : List ℕ) → take (8 * q) (bits_of bytes) ≡ bits_of (take q bytes)
take_bits zero bytes = refl
take_bits (suc q) [] = take_nil (8 * suc q)
take_bits (suc q) (b ∷ bytes) =
    let e : 8 * suc q ≡ 8 + 8 * q = omega arith in
    ap (λ k. take k (bits_of (b ∷ bytes))) e ∙ take-add 8 (8 * q) (bits_of (b ∷ bytes)) ∙ ap (λ l. low_bits 8 b ++ l) (take_bits q bytes)

pub bits_append : (xs ys : List ℕ) → bits_of (xs ++ ys) ≡ bits_of xs ++ bits_of ys
bits_append [] ys = refl
bits_append (b ∷ xs) ys = ap (λ l. low_bits 8 b ++ l) (bits_append xs ys)

-- the bits of two bytes
word_bits : (lo hi : ℕ) → lo < 256 → low_bits 16 (hi * 256 + lo) ≡ low_bits 8 lo ++ low_bits 8 hi
word_bits lo hi small =
    let w = hi * 256 + lo in
    let low : w % 256 ≡ lo = omega arith in
    let high : w / 256 ≡ hi = omega arith in
    low_split 8 8 w ∙ ap (λ l. l ++ low_bits 8 (w / 256)) (sym (low_mod 8 w) ∙ ap (low_bits 8) low) ∙ ap (λ x. low_bits 8 lo ++ low_bits 8 x) high

-- two bytes, and what stands behind them
drop_two : (bytes : List ℕ) (q : ℕ) → q + 1 < length bytes → drop q bytes ≡ get_or bytes q 0 ∷ get_or bytes (q + 1) 0 ∷ drop (q + 2) bytes
drop_two bytes q inside =
    let e : q + 1 + 1 ≡ q + 2 = omega arith in
    drop_more bytes q 0 (omega arith) ∙ ap (λ l. get_or bytes q 0 ∷ l) (drop_more bytes (q + 1) 0 inside ∙ ap (λ k. get_or bytes (q + 1) 0 ∷ drop k bytes) e)

-- the number of two bytes, the lower one first
abbrev pub word : List ℕ → ℕ → ℕ
word bytes q = get_or bytes (q + 1) 0 * 256 + get_or bytes q 0

bits_from : (bytes : List ℕ) (q : ℕ) → q + 1 < length bytes → get_or bytes q 0 < 256 → drop (8 * q) (bits_of bytes) ≡ low_bits 16 (word bytes q) ++ bits_of (drop (q + 2) bytes)
bits_from bytes q inside small =
    drop_bits q bytes ∙ ap bits_of (drop_two bytes q inside)
    ∙ ap (λ l. l ++ bits_of (drop (q + 2) bytes)) (sym (word_bits (get_or bytes q 0) (get_or bytes (q + 1) 0) small))

-- the bits below, in and above a field
pub three : (r n s v : ℕ) → low_bits (r + (n + s)) v ≡ low_bits r v ++ (low_bits n (v / 2 ^ r) ++ low_bits s (v / 2 ^ r / 2 ^ n))
three r n s v = low_split r (n + s) v ∙ ap (λ l. low_bits r v ++ l) (low_split n s (v / 2 ^ r))

-- the bits of a field of two bytes
pub read_bits : (bytes : List ℕ) (q r n : ℕ) → q + 1 < length bytes → get_or bytes q 0 < 256 → r + n ≤ 16 → low_bits n (word bytes q / 2 ^ r) ≡ take n (drop (8 * q + r) (bits_of bytes))
read_bits bytes q r n inside small fits =
    let w = word bytes q in let s = 16 - (r + n) in
    let e : 16 ≡ r + (n + s) = omega arith in
    let A = low_bits r w in let B = low_bits n (w / 2 ^ r) in let C = low_bits s (w / 2 ^ r / 2 ^ n) in let Y = bits_of (drop (q + 2) bytes) in
    sym (
    ap (take n) (sym (drop-drop r (8 * q) (bits_of bytes))
    ∙ ap (drop r) (bits_from bytes q inside small ∙ ap (λ l. l ++ Y) (ap (λ k. low_bits k w) e ∙ three r n s w) ∙ append_assoc A (B ++ C) Y)
    ∙ drop_at A ((B ++ C) ++ Y) r (length_low r w) ∙ append_assoc B C Y)
    ∙ take_at B (C ++ Y) n (length_low n (w / 2 ^ r)))

-- a piece of a list in the place of another
pub spliced : (H B C V : List ℕ) (k : ℕ) → length H ≡ k → length B ≡ length V → written (H ++ (B ++ C)) k V ≡ H ++ (V ++ C)
spliced H B C V k front same =
    let X = H ++ (B ++ C) in
    ap (λ l. l ++ V ++ drop (k + length V) X) (take_at H (B ++ C) k front)
    ∙ ap (λ l. H ++ V ++ l) (sym (drop-drop (length V) k X) ∙ ap (drop (length V)) (drop_at H (B ++ C) k front) ∙ drop_at B C (length V) same)
    ∙ append_assoc H V C

-- two bytes written
abbrev pub with_word : List ℕ → ℕ → ℕ → List ℕ
with_word bytes q w = set (set bytes q (w % 256)) (q + 1) (w / 256)

pub write_bits : (bytes : List ℕ) (q r n v w : ℕ) → q + 1 < length bytes → get_or bytes q 0 < 256 → r + n ≤ 16 → v < 2 ^ n
    → w ≡ (word bytes q / 2 ^ r / 2 ^ n * 2 ^ n + v) * 2 ^ r + word bytes q % 2 ^ r
    → bits_of (with_word bytes q w) ≡ written (bits_of bytes) (8 * q + r) (low_bits n v)
write_bits bytes q r n v w inside small fits below is =
    let o = word bytes q in let s = 16 - (r + n) in
    let e : 16 ≡ r + (n + s) = omega arith in
    let up = o / 2 ^ r / 2 ^ n in let mid = up * 2 ^ n + v in
    let posr = pow_pos r in let posn = pow_pos n in
    let A = low_bits r o in let B = low_bits n (o / 2 ^ r) in let C = low_bits s up in let V = low_bits n v in
    let Y = bits_of (drop (q + 2) bytes) in let P = bits_of (take q bytes) in
    let first = set bytes q (w % 256) in let after = with_word bytes q w in
    let longer : q + 1 < length first = omega (arith, length-set bytes q (w % 256)) in
    let long : length after ≡ length bytes = length-set first (q + 1) (w / 256) ∙ length-set bytes q (w % 256) in
    -- the two bytes, and all others, as they are afterwards
    let lo : get_or after q 0 ≡ w % 256 = get_or-set_other first (q + 1) q (w / 256) 0 (λ same. absurd (omega (arith, same))) ∙ get_or-set_same bytes q (w % 256) 0 (omega arith) in
    let hi : get_or after (q + 1) 0 ≡ w / 256 = get_or-set_same first (q + 1) (w / 256) 0 longer in
    let whole : word after q ≡ w = omega (arith, lo, hi) in
    let rest : drop (q + 2) after ≡ drop (q + 2) bytes = drop-set-lt (q + 2) first (q + 1) (w / 256) (omega arith) ∙ drop-set-lt (q + 2) bytes q (w % 256) (omega arith) in
    let front : take q after ≡ take q bytes = take-set-le q first (q + 1) (w / 256) (omega arith) ∙ take-set-le q bytes q (w % 256) (omega arith) in
    -- the fields of the new number
    let belowr : o % 2 ^ r < 2 ^ r = mod_below o (2 ^ r) posr in
    let midis : w / 2 ^ r ≡ mid = ap (λ x. x / 2 ^ r) is ∙ shr_high mid r (o % 2 ^ r) belowr in
    let upis : w / 2 ^ r / 2 ^ n ≡ up = ap (λ x. x / 2 ^ n) midis ∙ shr_high up n v below in
    let lowis : low_bits r w ≡ A = low_same r w o (ap (λ x. x % 2 ^ r) is ∙ mod_low mid r (o % 2 ^ r) belowr) in
    let fieldis : low_bits n (w / 2 ^ r) ≡ V = ap (low_bits n) midis ∙ low_same n mid v (mod_low up n v below ∙ sym (mod-eq_of_lt below)) in
    let new : low_bits 16 w ≡ A ++ (V ++ C) = ap (λ k. low_bits k w) e ∙ three r n s w ∙ ap (λ l. l ++ (low_bits n (w / 2 ^ r) ++ low_bits s (w / 2 ^ r / 2 ^ n))) lowis ∙ ap (λ l. A ++ (l ++ low_bits s (w / 2 ^ r / 2 ^ n))) fieldis ∙ ap (λ x. A ++ (V ++ low_bits s x)) upis in
    let old : low_bits 16 o ≡ A ++ (B ++ C) = ap (λ k. low_bits k o) e ∙ three r n s o in
    -- the lists
    let H = P ++ A in
    let nested : (M : List ℕ) → P ++ ((A ++ (M ++ C)) ++ Y) ≡ H ++ (M ++ (C ++ Y)) = λ M.
    ap (λ l. P ++ l) (append_assoc A (M ++ C) Y ∙ ap (λ l. A ++ l) (append_assoc M C Y)) ∙ sym (append_assoc P A (M ++ (C ++ Y))) in
    let before : bits_of bytes ≡ H ++ (B ++ (C ++ Y)) = sym (take-append-drop (8 * q) (bits_of bytes)) ∙ ap (λ l. l ++ drop (8 * q) (bits_of bytes)) (take_bits q bytes)
    ∙ ap (λ l. P ++ l) (bits_from bytes q inside small ∙ ap (λ l. l ++ Y) old) ∙ nested B in
    let then : bits_of after ≡ H ++ (V ++ (C ++ Y)) = sym (take-append-drop (8 * q) (bits_of after)) ∙ ap (λ l. l ++ drop (8 * q) (bits_of after)) (take_bits q after ∙ ap bits_of front)
    ∙ ap (λ l. P ++ l) (bits_from after q (omega (arith, long)) (omega (arith, lo)) ∙ ap (λ l. low_bits 16 (word after q) ++ bits_of l) rest ∙ ap (λ x. low_bits 16 x ++ Y) whole ∙ ap (λ l. l ++ Y) new) ∙ nested V in
    let place : length H ≡ 8 * q + r = omega (arith, length-append P A, length_bits (take q bytes), length-take-le q bytes (omega arith), length_low r o) in
    then ∙ sym (ap (λ l. written l (8 * q + r) V) before ∙ spliced H B (C ++ Y) V (8 * q + r) place (length_low n (o / 2 ^ r) ∙ sym (length_low n v)))

-- a number with each bit of a field set
pub or_mask : (w n r : ℕ) → bit_or w ((2 ^ n - 1) * 2 ^ r) ≡ (w / 2 ^ r / 2 ^ n * 2 ^ n + (2 ^ n - 1)) * 2 ^ r + w % 2 ^ r
or_mask w n r =
    let x = w / 2 ^ r in let y = x % 2 ^ n in let m = 2 ^ n - 1 in
    let posr = pow_pos r in let posn = pow_pos n in
    let belowy : y < 2 ^ n = mod_below x (2 ^ n) posn in
    let belowm : m < 2 ^ n = omega arith in
    let z : m * 2 ^ r ≡ m * 2 ^ r + 0 = omega arith in
    let zm : m ≡ 0 * 2 ^ n + m = omega arith in
    let full : bit_or y m ≡ m = omega (arith, or_add_and y m, and_mask y n, mod-eq_of_lt belowy) in
    let field : bit_or x m ≡ x / 2 ^ n * 2 ^ n + m =
    ap (λ k. bit_or k m) (sym (shr_split x n)) ∙ ap (bit_or (x / 2 ^ n * 2 ^ n + y)) zm ∙ or_block n (x / 2 ^ n) 0 y m belowy belowm
    ∙ ap (λ k. k * 2 ^ n + bit_or y m) (or_zero_r (x / 2 ^ n)) ∙ ap (λ k. x / 2 ^ n * 2 ^ n + k) full in
    ap (λ k. bit_or k (m * 2 ^ r)) (sym (shr_split w r)) ∙ ap (bit_or (x * 2 ^ r + w % 2 ^ r)) z ∙ or_block r x m (w % 2 ^ r) 0 (mod_below w (2 ^ r) posr) posr
    ∙ ap (λ k. k * 2 ^ r + bit_or (w % 2 ^ r) 0) field ∙ ap (λ k. (x / 2 ^ n * 2 ^ n + m) * 2 ^ r + k) (or_zero_r (w % 2 ^ r))

-- The marks behind the room for bytes.
module _ (room : ℕ) (memory : List ℕ) (at n : ℕ) (some : 1 ≤ n) (few : n ≤ 8) (inside : at + n ≤ 8 * (length memory - room - 1)) (small : get_or memory (room + at / 8) 0 < 256) where
  abbrev q : ℕ
  q = at / 8

  abbrev r : ℕ
  r = at % 8

  abbrev bytes : List ℕ
  bytes = drop room memory

  -- the number of the two bytes that they lie in
  abbrev both : ℕ
  both = get_or memory (room + q + 1) 0 * 256 + get_or memory (room + q) 0

  place : 8 * q + r ≡ at
  place = omega arith

  within : q + 1 < length bytes
  within = omega (arith, length-drop room memory)

  low : get_or bytes q 0 ≡ get_or memory (room + q) 0
  low = get_or-drop room memory q 0

  next : room + (q + 1) ≡ room + q + 1
  next = omega arith

  high : get_or bytes (q + 1) 0 ≡ get_or memory (room + q + 1) 0
  high = get_or-drop room memory (q + 1) 0 ∙ ap (λ k. get_or memory k 0) next

  is_word : word bytes q ≡ both
  is_word = omega (arith, low, high)

  pub marks_read : (w m : ℕ) → w ≡ both → m ≡ 2 ^ n - 1 → low_bits n (bit_and (w / 2 ^ r) m) ≡ take n (drop at (marks_of room memory))
  marks_read w m isw ism =
      let x = w / 2 ^ r in
      ap (λ k. low_bits n (bit_and x k)) ism ∙ ap (low_bits n) (and_mask x n) ∙ low_mod n x ∙ ap (λ k. low_bits n (k / 2 ^ r)) (isw ∙ sym is_word)
      ∙ read_bits bytes q r n within (omega (arith, low, small)) (omega arith) ∙ ap (λ k. take n (drop k (marks_of room memory))) place

  abbrev after : ℕ → List ℕ
  after w = set (set memory (room + q) (w % 256)) (room + q + 1) (w / 256)

  kept_behind : (w : ℕ) → drop room (after w) ≡ with_word bytes q w
  kept_behind w =
      ap (λ k. drop room (set (set memory (room + q) (w % 256)) k (w / 256))) (sym next) ∙ drop-set-add room (set memory (room + q) (w % 256)) (q + 1) (w / 256)
      ∙ ap (λ l. set l (q + 1) (w / 256)) (drop-set-add room memory q (w % 256))

  pub marks_written : (v w : ℕ) → v < 2 ^ n → w ≡ (both / 2 ^ r / 2 ^ n * 2 ^ n + v) * 2 ^ r + both % 2 ^ r → marks_of room (after w) ≡ written (marks_of room memory) at (low_bits n v)
  marks_written v w below is =
      ap bits_of (kept_behind w)
      ∙ write_bits bytes q r n v w within (omega (arith, low, small)) (omega arith) below (is ∙ ap (λ o. (o / 2 ^ r / 2 ^ n * 2 ^ n + v) * 2 ^ r + o % 2 ^ r) (sym is_word))
      ∙ ap (λ k. written (marks_of room memory) k (low_bits n v)) place

  pub bytes_kept : (w : ℕ) → take room (after w) ≡ take room memory
  bytes_kept w = take-set-le room (set memory (room + q) (w % 256)) (room + q + 1) (w / 256) (omega arith) ∙ take-set-le room memory (room + q) (w % 256) (omega arith)

  pub length_kept : (w : ℕ) → length (after w) ≡ length memory
  length_kept w = length-set (set memory (room + q) (w % 256)) (room + q + 1) (w / 256) ∙ length-set memory (room + q) (w % 256)

-- a mask lies in two bytes
pub mask_small : (n k : ℕ) → n ≤ 8 → k < 8 → (2 ^ n - 1) * 2 ^ k < 32768
mask_small n k few before =
    let pos = pow_pos n in
    let top : 2 ^ n ≤ 2 ^ 8 = pow_mono few in
    let a : 2 ^ n - 1 < 2 ^ 8 = omega (arith, pos, top) in
    let c = shl_below (2 ^ n - 1) 8 k a in
    let le : 8 + k ≤ 15 = omega arith in
    let d : 2 ^ (8 + k) ≤ 2 ^ 15 = pow_mono le in
    omega (arith, c, d)

-- Fields of a number.
module _ (w n k : ℕ) where
  abbrev mask : ℕ
  mask = (2 ^ n - 1) * 2 ^ k

  abbrev above : ℕ
  above = w / 2 ^ k / 2 ^ n * 2 ^ n

  split_mask : bit_or w mask ≡ above * 2 ^ k + mask + w % 2 ^ k
  split_mask = omega (arith, or_mask w n k, add-mul above (2 ^ n - 1) (2 ^ k))

  pub mask_within : mask ≤ bit_or w mask
  mask_within = omega (arith, split_mask)

  pub field_set : (v : ℕ) → bit_or w mask - mask + v * 2 ^ k ≡ with_bits w n k v
  field_set v = omega (arith, split_mask, add-mul above v (2 ^ k))

  pub field_below : (v : ℕ) → v < 2 ^ n → bit_or w mask - mask + v * 2 ^ k ≤ bit_or w mask
  field_below v lt =
      let le : v ≤ 2 ^ n - 1 = omega arith in
      omega (arith, mul-le-mul_right (2 ^ k) le, split_mask)

  module _ (m : ℕ) (is : m ≡ mask) (few : n ≤ 8) (before : k < 8) (low : w < 65536) where
    pub or_small : bit_or w m < 65536
    or_small = or_lt 16 w m low (omega (arith, is, mask_small n k few before))

    pub or_above : m ≤ bit_or w m
    or_above = rw is mask_within

    module _ (v : ℕ) (lt : v < 2 ^ n) where
      moved : v * 2 ^ k % 4294967296 ≡ v * 2 ^ k
      moved = shl_whole v n k 32 lt (omega arith)

      pub field_value : bit_or w m - m + v * 2 ^ k % 4294967296 ≡ with_bits w n k v
      field_value = ap (λ x. bit_or w m - m + x) moved ∙ ap (λ x. bit_or w x - x + v * 2 ^ k) is ∙ field_set v

      pub field_fits : bit_or w m - m + v * 2 ^ k % 4294967296 < 65536
      field_fits =
          let e : bit_or w m - m + v * 2 ^ k % 4294967296 ≡ bit_or w mask - mask + v * 2 ^ k = ap (λ x. bit_or w m - m + x) moved ∙ ap (λ x. bit_or w x - x + v * 2 ^ k) is in
          let f : bit_or w mask < 65536 = or_lt 16 w mask low (omega (arith, mask_small n k few before)) in
          omega (arith, e, f, field_below v lt)

    pub all_value : bit_or w m ≡ with_bits w n k (all_bits n true)
    all_value = ap (bit_or w) is ∙ or_mask w n k

    pub none_value : bit_or w m - m ≡ with_bits w n k (all_bits n false)
    none_value = ap (λ x. bit_or w x - x) is ∙ omega (arith, field_set 0)

-- marks that are all set, or all unset
pub all_low : (n : ℕ) (t : Bool) → low_bits n (all_bits n t) ≡ replicate n (mark_of t)
all_low n true = low_ones n
all_low n false = low_zero n

pub all_fit : (n : ℕ) (t : Bool) → all_bits n t < 2 ^ n
all_fit n true = let pos = pow_pos n in omega (arith, pos)
all_fit n false = pow_pos n
