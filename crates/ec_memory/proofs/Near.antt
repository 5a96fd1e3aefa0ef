-- Objects by how many of those that are alive are not before them.
use Rattle.std.proofs.Common.{◌≡◌, ◌≢◌, ◌∙◌, sym, ap, subst, refl, ℕ, zero, suc, ◌+◌, ◌-◌, List, [], ◌∷◌, length, drop, slice_get, Bool, true, false, Option, Some, None, Result, Ok, Err, arith}
use Rattle.std.specs.Prelude.{nat_le}
use Rattle.std.specs.Option.{IfSome}
use Rattle.std.proofs.lemmas.Bool.Decides.{nat_tests}
use Rattle.ec_base.specs.declared.stop.Trap.{Trap}
use Rattle.ec_base.specs.declared.stop.Trap.TheVariants.{Dead, Null, Outside}
use Rattle.ec_memory.specs.declared.place.Place.{Place}
use Rattle.ec_memory.specs.Near.{living, IsNear, PlacedNear}
use Rattle.ec_memory.specs.Objects.{objects_of, memory_of, InLine, IsMissing, Kept, Holds}
use Rattle.ec_memory.proofs.Line.{by_test, here, gap, ahead, behind, line_ends, lies}
use Rattle.ec_memory.proofs.Objects.{missing_object, no_access, null_object, outside_object}
use Rattle.ec_memory.proofs.Reading.{span_trapped}
use Rattle.ec_memory_defs.specs.Cells.{Cell}
use Rattle.ec_memory_defs.specs.Memory.{Memory, ScalarType, ValueData, and_then, decoded, load, object_of, offset_of, object_cells, cells_at, scalar_size, span}

-- as many objects are alive as have places
living_all : (left number start made end : ℕ) (cells : List Cell) (places : List Place) → InLine number start places made end → left + number ≡ suc made → living (objects_of left number cells places) ≡ length places
living_all zero number start made end cells [] line sum = refl
living_all zero number start made end cells (q ∷ places) line sum =
    let rest = line_ends (suc q.number) (start + q.size) made end places line.rest in absurd (omega (arith, rest.0, line.rising))
living_all (suc left) number start made end cells [] line sum =
    let later : InLine (suc number) start [] made end = record { given = omega arith; all = line.all } in
    living_all left (suc number) start made end cells [] later (omega arith)
living_all (suc left) number start made end cells (q ∷ places) line sum =
    by_test q.number number
    (λ same. ap living (here left number cells q places same)
    ∙ ap suc (living_all left (suc number) (start + q.size) made end (drop q.size cells) places (behind number start made end q places line same) (omega arith)))
    (λ apart. ap living (gap left number cells q places apart)
    ∙ living_all left (suc number) start made end cells (q ∷ places) (ahead number start made end q places line apart) (omega arith))

-- and those from an object on are as many as the places from its own on
living_from : (left number start made end : ℕ) (cells : List Cell) (places : List Place) (k i : ℕ) (p : Place) → InLine number start places made end → left + number ≡ suc made → slice_get places k ≡ Some p → i + number ≡ p.number → k + living (drop i (objects_of left number cells places)) ≡ length places
living_from left number start made end cells [] k i p line sum is at = cc
living_from zero number start made end cells (q ∷ places) k i p line sum is at =
    let there = lies number start made end (q ∷ places) k p line is in absurd (omega (arith, there.above, there.given))
living_from (suc left) number start made end cells (q ∷ places) zero zero p line sum is at =
    omega (arith, living_all (suc left) number start made end cells (q ∷ places) line sum)
living_from (suc left) number start made end cells (q ∷ places) (suc k) zero p line sum is at =
    let there = lies (suc q.number) (start + q.size) made end places k p line.rest is in absurd (omega (arith, there.above, line.rising))
living_from (suc left) number start made end cells (q ∷ places) zero (suc i) p line sum is at =
    let same : q ≡ p = cc in
    let apart : q.number ≢ number = λ e. absurd (omega (arith, ap (λ x. x.number) same)) in
    ap (λ m. 0 + living (drop (suc i) m)) (gap left number cells q places apart)
    ∙ living_from left (suc number) start made end cells (q ∷ places) zero i p (ahead number start made end q places line apart) (omega arith) is (omega arith)
living_from (suc left) number start made end cells (q ∷ places) (suc k) (suc i) p line sum is at =
    by_test q.number number
    (λ same. ap (λ m. suc k + living (drop (suc i) m)) (here left number cells q places same)
    ∙ omega (arith, living_from left (suc number) (start + q.size) made end (drop q.size cells) places k i p (behind number start made end q places line same) (omega arith) is (omega arith)))
    (λ apart. ap (λ m. suc k + living (drop (suc i) m)) (gap left number cells q places apart)
    ∙ living_from left (suc number) start made end cells (q ∷ places) (suc k) i p (ahead number start made end q places line apart) (omega arith) is (omega arith))

living_held : (made : ℕ) (cells : List Cell) (places : List Place) (n : ℕ) (p : Place) → Kept made cells places → (holds : Holds places n p) → holds.index + living (drop (n - 1) (memory_of made cells places)) ≡ length places
living_held made cells places n p kept holds =
    let there = lies 1 0 made (length cells) places holds.index p kept.line holds.found in
    living_from made 1 0 made (length cells) cells places holds.index (n - 1) p kept.line (omega arith) holds.found (omega (arith, there.above, holds.same))

-- an object has a place, or none is alive
by_place : {P : Type 0} (places : List Place) (n : ℕ) → ((k : ℕ) (p : Place) → slice_get places k ≡ Some p → p.number ≡ n → P) → (IsMissing places n → P) → P
by_place [] n found missing = missing (λ k within. absurd (omega arith))
by_place (q ∷ places) n found missing =
    by_test q.number n
    (λ same. found 0 q refl same)
    (λ apart. by_place places n (λ k. found (suc k)) (λ none. missing (later apart none)))
  where
    later : q.number ≢ n → IsMissing places n → IsMissing (q ∷ places) n
    later apart none zero within = apart
    later apart none (suc k) within = none k (omega arith)

-- a pointer to a place that is near is near
pub is_near : (m : Memory) (made : ℕ) (cells : List Cell) (places now : List Place) (p n behind at : ℕ) → memory_of made cells places ≡ m → Kept made cells places → now ≡ places → PlacedNear now p n behind at → IsNear m p behind
is_near m made cells places now p n behind at view kept e near =
    let P : List Place → Type 0 = λ ps. PlacedNear ps p n behind at in
    let there : PlacedNear places p n behind at = subst P e near in
    let number : there.place.number ≡ object_of p = omega (arith, there.starts) in
    let count = living_held made cells places (object_of p) there.place kept record { index = there.index; found = there.found; same = number } in
    (omega (arith, there.starts), ap (λ m. living (drop (object_of p - 1) m)) (sym view) ∙ omega (arith, count, there.counted))

-- no access that traps gives bytes
no_bytes : (m : Memory) (p n : ℕ) (bytes : List ℕ) (t : Trap) → cells_at m p n ≡ Err t → span m p n ≡ Ok bytes → ⊥
no_bytes m p n bytes t trap read = let both : Err t ≡ Ok bytes = span_trapped m p n t trap ∙ read in cc

-- and where no place is near, nothing that is near is read
pub none_near : (m : Memory) (made : ℕ) (cells : List Cell) (places now : List Place) (p n size behind : ℕ) → memory_of made cells places ≡ m → Kept made cells places → now ≡ places → size ≡ n → ((at : ℕ) → PlacedNear now p size behind at → ⊥) → IsNear m p behind → (bytes : List ℕ) → span m p n ≡ Ok bytes → ⊥
none_near m made cells places now p n size behind view kept e whole far near bytes read = by_place places (object_of p) found missing
  where
    found : (k : ℕ) (q : Place) → slice_get places k ≡ Some q → q.number ≡ object_of p → ⊥
    found k q is same = either (nat_le (offset_of p + n) q.size) refl
      where
        holds : Holds places (object_of p) q
        holds = record { index = k; found = is; same = same }

        either : (t : Bool) → nat_le (offset_of p + n) q.size ≡ t → ⊥
        either true fits =
            let P : List Place → Type 0 = λ ps. PlacedNear ps p size behind q.start in
            let count = living_held made cells places (object_of p) q kept holds in
            let all = ap (λ m. living (drop (object_of p - 1) m)) view in
            far q.start (subst P (sym e) record {
              place = q;
              index = k;
              found = is;
              starts = omega (arith, same, near.0);
              begins = refl;
              inside = grind (arith, nat_tests, whole);
              counted = omega (arith, count, all, near.1);
            })
        either false fits =
            no_bytes m p n bytes Outside (ap (λ m. cells_at m p n) (sym view) ∙ outside_object made cells places p n q kept holds (grind (arith, nat_tests))) read

    missing : IsMissing places (object_of p) → ⊥
    missing none = by_test (object_of p) 0
        (λ null. no_bytes m p n bytes Null (no_access m p n Null (null_object m (object_of p) (object_of p) refl null)) read)
        (λ some. no_bytes m p n bytes Dead (no_access m p n Dead (ap (λ m. object_cells m (object_of p)) (sym view) ∙ missing_object made cells places (object_of p) (object_of p) refl some none)) read)

-- a value that has no bytes isn't loaded
pub no_value : (m : Memory) (p : ℕ) (s : ScalarType) → ((bytes : List ℕ) → span m p (scalar_size s) ≡ Ok bytes → ⊥) → (it : ValueData) → load m p s ≡ Ok it → ⊥
no_value m p s none it found = of_bytes (span m p (scalar_size s)) none found
  where
    of_bytes : (r : Result (List ℕ) Trap) → ((bytes : List ℕ) → r ≡ Ok bytes → ⊥) → and_then r (λ bytes. Ok (decoded s bytes)) ≡ Ok it → ⊥
    of_bytes (Ok bytes) none found = none bytes refl
    of_bytes (Err t) none found = cc

-- what holds anyway holds where there is a value
pub if_any : {A P : Type 0} (o : Option A) → P → IfSome o (λ _. P)
if_any None p = tt
if_any (Some v) p = p
