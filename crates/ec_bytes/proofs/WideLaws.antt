-- Marks that lie in eight bytes.
use Rattle.std.proofs.Common.{◌≡◌, ◌==◌, ◌∙◌, sym, ap, refl, ℕ, zero, suc, ◌+◌, ◌-◌, ◌*◌, ◌/◌, ◌%◌, ◌^◌, ◌<◌, ◌≤◌, Bool, true, false, List, [], ◌∷◌, ◌++◌, length, take, drop, replicate, arith, append_assoc, length-append, length-take, length-drop, pow_mono, mod-eq_of_lt}
use Rattle.std.specs.Prelude.{slice_index, bit_and, bit_or}
use Rattle.std.specs.Int.{w64, to_le_bytes, from_le_bytes}
use Rattle.std.specs.List.{list_all}
use Rattle.std.proofs.lemmas.Nat.{pow_pos, mod_below, mod_low, shr_high, shl_below, shl_whole}
use Rattle.std.proofs.lemmas.List.{drop-drop, drop_at, take_at, take-append-drop, length-take-le}
use native.Mathlib.Nat.{add-mul}
use lib.Bits.{and_mask, or_lt}
use Rattle.ec_memory_defs.specs.Cells.{part_of, written}
use Rattle.ec_bytes.specs.Bits.{low_bits, bits_of, marks_of, mark_of, with_bits, all_bits}
use Rattle.ec_bytes.proofs.BitLaws.{all_fit, all_low, all_ones, bits_append, drop_bits, length_bits, length_low, low_mod, low_same, low_split, or_mask, spliced, take_bits, three}
use Rattle.ec_bytes.proofs.MarkLaws.{bits_written, drop_written, length_marks}
use Rattle.ec_bytes.proofs.Places.{front_written, length_written}

-- a byte more in front
front : (k a v w : ℕ) → v % 256 ≡ a % 256 → v / 256 ≡ w → low_bits (8 + k) v ≡ low_bits 8 a ++ low_bits k w
front k a v w low high = low_split 8 k v ∙ ap (λ l. l ++ low_bits k (v / 256)) (low_same 8 v a low) ∙ ap (λ x. low_bits 8 a ++ low_bits k x) high

bits_8 : (a b c d e f g h : ℕ) → a < 256 → b < 256 → c < 256 → d < 256 → e < 256 → f < 256 → g < 256 → h < 256 → (v : ℕ) → v ≡ from_le_bytes w64 (a ∷ b ∷ c ∷ d ∷ e ∷ f ∷ g ∷ h ∷ []) → low_bits 64 v ≡ bits_of (a ∷ b ∷ c ∷ d ∷ e ∷ f ∷ g ∷ h ∷ [])
bits_8 a b c d e f g h la lb lc ld le lf lg lh v is =
    let v7 = h in let v6 = g + 256 * v7 in let v5 = f + 256 * v6 in let v4 = e + 256 * v5 in let v3 = d + 256 * v4 in let v2 = c + 256 * v3 in let v1 = b + 256 * v2 in
    front 56 a v v1 (omega (arith, is)) (omega (arith, is))
    ∙ ap (λ l. low_bits 8 a ++ l) (front 48 b v1 v2 (omega arith) (omega arith)
    ∙ ap (λ l. low_bits 8 b ++ l) (front 40 c v2 v3 (omega arith) (omega arith)
    ∙ ap (λ l. low_bits 8 c ++ l) (front 32 d v3 v4 (omega arith) (omega arith)
    ∙ ap (λ l. low_bits 8 d ++ l) (front 24 e v4 v5 (omega arith) (omega arith)
    ∙ ap (λ l. low_bits 8 e ++ l) (front 16 f v5 v6 (omega arith) (omega arith)
    ∙ ap (λ l. low_bits 8 f ++ l) (front 8 g v6 v7 (omega arith) (omega arith)))))))

pub wide_bits : (bytes : List ℕ) → length bytes ≡ 8 → ((i : ℕ) → slice_index bytes i < 256) → (v : ℕ) → v ≡ from_le_bytes w64 bytes → low_bits 64 v ≡ bits_of bytes
wide_bits (a ∷ b ∷ c ∷ d ∷ e ∷ f ∷ g ∷ h ∷ []) long small v is = bits_8 a b c d e f g h (small 0) (small 1) (small 2) (small 3) (small 4) (small 5) (small 6) (small 7) v is
wide_bits _ long small v is = absurd (omega arith)

-- the bytes of a number have its bits
pub bits_back : (w : ℕ) → bits_of (to_le_bytes w64 w) ≡ low_bits 64 w
bits_back w =
    sym (front 56 (w % 256) w (w / 256) (omega arith) refl
    ∙ ap (λ l. low_bits 8 (w % 256) ++ l) (front 48 (w / 256 % 256) (w / 256) (w / 65536) (omega arith) (omega arith)
    ∙ ap (λ l. low_bits 8 (w / 256 % 256) ++ l) (front 40 (w / 65536 % 256) (w / 65536) (w / 16777216) (omega arith) (omega arith)
    ∙ ap (λ l. low_bits 8 (w / 65536 % 256) ++ l) (front 32 (w / 16777216 % 256) (w / 16777216) (w / 4294967296) (omega arith) (omega arith)
    ∙ ap (λ l. low_bits 8 (w / 16777216 % 256) ++ l) (front 24 (w / 4294967296 % 256) (w / 4294967296) (w / 1099511627776) (omega arith) (omega arith)
    ∙ ap (λ l. low_bits 8 (w / 4294967296 % 256) ++ l) (front 16 (w / 1099511627776 % 256) (w / 1099511627776) (w / 281474976710656) (omega arith) (omega arith)
    ∙ ap (λ l. low_bits 8 (w / 1099511627776 % 256) ++ l) (front 8 (w / 281474976710656 % 256) (w / 281474976710656) (w / 72057594037927936) (omega arith) (omega arith)
    ∙ ap (λ l. low_bits 8 (w / 281474976710656 % 256) ++ l) (low_same 8 (w / 72057594037927936) (w / 72057594037927936 % 256) (omega arith)))))))))

-- Marks of a field of eight bytes.
module _ (room : ℕ) (memory : List ℕ) (at n : ℕ) (few : n ≤ 56) (inside : at + n ≤ room) (enough : room ≤ 8 * (length memory - room - 8)) (some : 1 ≤ n) (o : ℕ) (is : low_bits 64 o ≡ bits_of (part_of memory (room + at / 8) 8)) where
  abbrev q : ℕ
  q = at / 8

  abbrev r : ℕ
  r = at % 8

  abbrev X : List ℕ
  X = marks_of room memory

  abbrev s : ℕ
  s = 64 - (r + n)

  abbrev A : List ℕ
  A = low_bits r o

  abbrev B : List ℕ
  B = low_bits n (o / 2 ^ r)

  abbrev C : List ℕ
  C = low_bits s (o / 2 ^ r / 2 ^ n)

  abbrev P : List ℕ
  P = take (8 * q) X

  abbrev Y : List ℕ
  Y = drop (8 * q + 64) X

  sum : 64 ≡ r + (n + s)
  sum = omega arith

  place : 8 * q + r ≡ at
  place = omega arith

  old : low_bits 64 o ≡ A ++ (B ++ C)
  old = ap (λ k. low_bits k o) sum ∙ three r n s o

  -- the eight bytes among the marks
  field : take 64 (drop (8 * q) X) ≡ A ++ (B ++ C)
  field =
      ap (take 64) (drop_bits q (drop room memory)) ∙ take_bits 8 (drop q (drop room memory)) ∙ ap (λ l. bits_of (take 8 l)) (drop-drop q room memory) ∙ sym is ∙ old

  whole : X ≡ P ++ ((A ++ (B ++ C)) ++ Y)
  whole =
      sym (take-append-drop (8 * q) X) ∙ ap (λ l. P ++ l) (sym (take-append-drop 64 (drop (8 * q) X)) ∙ ap (λ l. l ++ drop 64 (drop (8 * q) X)) field ∙ ap (λ l. (A ++ (B ++ C)) ++ l) (drop-drop 64 (8 * q) X))

  nested : (V : List ℕ) → P ++ ((A ++ (V ++ C)) ++ Y) ≡ (P ++ A) ++ (V ++ (C ++ Y))
  nested V = ap (λ l. P ++ l) (append_assoc A (V ++ C) Y ∙ ap (λ l. A ++ l) (append_assoc V C Y)) ∙ sym (append_assoc P A (V ++ (C ++ Y)))

  wide : 8 * q + 64 ≤ length X
  wide = omega (arith, length_marks room memory)

  lp : length P ≡ 8 * q
  lp = length-take-le (8 * q) X (omega (arith, wide))

  head : length (P ++ A) ≡ at
  head = length-append P A ∙ omega (arith, lp, length_low r o)

  pub wide_read : B ≡ take n (drop at X)
  wide_read =
      sym (ap (λ l. take n (drop at l)) (whole ∙ nested B) ∙ ap (take n) (drop_at (P ++ A) (B ++ (C ++ Y)) at head) ∙ take_at B (C ++ Y) n (length_low n (o / 2 ^ r)))

  module _ (t : Bool) (w : ℕ) (isw : w ≡ with_bits o n r (all_bits n t)) (after : List ℕ) (made : after ≡ written memory (room + q) (to_le_bytes w64 w)) where
    abbrev V : List ℕ
    V = replicate n (mark_of t)

    mid : w / 2 ^ r ≡ o / 2 ^ r / 2 ^ n * 2 ^ n + all_bits n t
    mid = ap (λ x. x / 2 ^ r) isw ∙ shr_high (o / 2 ^ r / 2 ^ n * 2 ^ n + all_bits n t) r (o % 2 ^ r) (mod_below o (2 ^ r) (pow_pos r))

    new : low_bits 64 w ≡ A ++ (V ++ C)
    new =
        let belowr = mod_below o (2 ^ r) (pow_pos r) in
        let up : w / 2 ^ r / 2 ^ n ≡ o / 2 ^ r / 2 ^ n = ap (λ x. x / 2 ^ n) mid ∙ shr_high (o / 2 ^ r / 2 ^ n) n (all_bits n t) (all_fit n t) in
        let low : low_bits r w ≡ A = low_same r w o (ap (λ x. x % 2 ^ r) isw ∙ mod_low (o / 2 ^ r / 2 ^ n * 2 ^ n + all_bits n t) r (o % 2 ^ r) belowr) in
        let among : low_bits n (w / 2 ^ r) ≡ V = ap (low_bits n) mid ∙ low_same n (o / 2 ^ r / 2 ^ n * 2 ^ n + all_bits n t) (all_bits n t) (mod_low (o / 2 ^ r / 2 ^ n) n (all_bits n t) (all_fit n t) ∙ sym (mod-eq_of_lt (all_fit n t))) ∙ all_low n t in
        ap (λ k. low_bits k w) sum ∙ three r n s w ∙ ap (λ l. l ++ (low_bits n (w / 2 ^ r) ++ low_bits s (w / 2 ^ r / 2 ^ n))) low ∙ ap (λ l. A ++ (l ++ low_bits s (w / 2 ^ r / 2 ^ n))) among ∙ ap (λ x. A ++ (V ++ low_bits s x)) up

    lw : length (to_le_bytes w64 w) ≡ 8
    lw = refl

    fits : room + q + 8 ≤ length memory
    fits = omega arith

    pub wide_marks : marks_of room after ≡ written X at V
    wide_marks =
        let l64 : length (A ++ (V ++ C)) ≡ 64 = ap length (sym new) ∙ length_low 64 w in
        let lold : length (A ++ (B ++ C)) ≡ 64 = ap length (sym old) ∙ length_low 64 o in
        ap (marks_of room) made
        ∙ ap bits_of (drop_written memory room q (to_le_bytes w64 w) (omega (arith, fits))) ∙ bits_written (drop room memory) q (to_le_bytes w64 w)
        ∙ ap (written X (8 * q)) (bits_back w ∙ new)
        ∙ ap (λ l. written l (8 * q) (A ++ (V ++ C))) whole ∙ spliced P (A ++ (B ++ C)) Y (A ++ (V ++ C)) (8 * q) lp (lold ∙ sym l64)
        ∙ nested V
        ∙ sym (ap (λ l. written l at V) (whole ∙ nested B) ∙ spliced (P ++ A) B (C ++ Y) V at head (length_low n (o / 2 ^ r) ∙ sym (ap length (sym (all_low n t)) ∙ length_low n (all_bits n t))))

    pub wide_bytes : take room after ≡ take room memory
    wide_bytes = ap (take room) made ∙ front_written memory (room + q) (to_le_bytes w64 w) room (omega arith) fits

    pub wide_length : length after ≡ length memory
    wide_length = ap length made ∙ length_written memory (room + q) (to_le_bytes w64 w) fits

-- the bits of a word, set or cleared
module _ (w n k m : ℕ) (few : n ≤ 56) (before : k < 8) (is : m ≡ 2 ^ n - 1) where
  pub moved_ones : m * 2 ^ k % 18446744073709551616 ≡ (2 ^ n - 1) * 2 ^ k
  moved_ones =
      let pos = pow_pos n in
      let lt : m < 2 ^ n = omega (arith, is, pos) in
      shl_whole m n k 64 lt (omega arith) ∙ ap (λ x. x * 2 ^ k) is

  above : ℕ
  above = w / 2 ^ k / 2 ^ n * 2 ^ n

  pub wide_above : m * 2 ^ k % 18446744073709551616 ≤ bit_or w (m * 2 ^ k % 18446744073709551616)
  wide_above = rw moved_ones (omega (arith, or_mask w n k, add-mul (w / 2 ^ k / 2 ^ n * 2 ^ n) (2 ^ n - 1) (2 ^ k)))

  pub wide_all : bit_or w (m * 2 ^ k % 18446744073709551616) ≡ with_bits w n k (all_bits n true)
  wide_all = ap (bit_or w) moved_ones ∙ or_mask w n k

  pub wide_none : bit_or w (m * 2 ^ k % 18446744073709551616) - m * 2 ^ k % 18446744073709551616 ≡ with_bits w n k (all_bits n false)
  wide_none =
      ap (λ x. bit_or w x - x) moved_ones
      ∙ omega (arith, or_mask w n k, add-mul (w / 2 ^ k / 2 ^ n * 2 ^ n) (2 ^ n - 1) (2 ^ k), add-mul (w / 2 ^ k / 2 ^ n * 2 ^ n) 0 (2 ^ k))
