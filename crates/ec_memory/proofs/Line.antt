-- Places that lie one behind the other, and the memory that they are.
use Rattle.std.proofs.Common.{◌≡◌, ◌≢◌, ◌∙◌, sym, ap, subst, refl, ℕ, zero, suc, ◌+◌, ◌-◌, ◌<◌, ◌≤◌, Bool, true, false, List, [], ◌∷◌, ◌++◌, length, take, drop, slice_get, slice_set, Some, Err, arith, length-drop}
use Rattle.std.specs.Prelude.{◌==◌, nat_le, if◌then◌else◌}
use Rattle.std.proofs.lemmas.Bool.Decides.{nat_tests}
use Rattle.std.proofs.lemmas.List.{length-take-le, take-append-le, take_all, take-take, drop-take}
use Rattle.ec_base.specs.declared.stop.Trap.TheVariants.{Dead}
use Rattle.ec_memory.specs.declared.place.Place.{Place}
use Rattle.ec_memory.specs.Objects.{objects_of, InLine, number_at, IsRising, IsMissing, Behind}
use Rattle.ec_bytes.proofs.Places.{front_written, rest_written}
use Rattle.ec_memory.proofs.Pieces.{part_dropped, drop_joined, drop_written, take_written}
use Rattle.ec_memory_defs.specs.Cells.{Cell, part_of, written}
use Rattle.ec_memory_defs.specs.Memory.{ObjectData, alive, ended, Memory, cells_found, live_bytes, end_to}

-- two numbers are the same, or not
pub by_test : {P : Type 0} (a b : ℕ) → (a ≡ b → P) → (a ≢ b → P) → P
by_test {P = P} a b same apart = either (a == b) refl
  where
    either : (t : Bool) → (a == b) ≡ t → P
    either true e = same (grind (arith, nat_tests))
    either false e = apart (grind (arith, nat_tests))

-- the next object is alive
pub here : (left number : ℕ) (cells : List Cell) (p : Place) (places : List Place) → p.number ≡ number → objects_of (suc left) number cells (p ∷ places) ≡ alive (take p.size cells) ∷ objects_of left (suc number) (drop p.size cells) places
here left number cells p places e =
    let test : (p.number == number) ≡ true = grind (arith, nat_tests) in
    ap (λ b. if b then alive (take p.size cells) ∷ objects_of left (suc number) (drop p.size cells) places else ended ∷ objects_of left (suc number) cells (p ∷ places)) test

-- the next object has ended
pub gap : (left number : ℕ) (cells : List Cell) (p : Place) (places : List Place) → p.number ≢ number → objects_of (suc left) number cells (p ∷ places) ≡ ended ∷ objects_of left (suc number) cells (p ∷ places)
gap left number cells p places e =
    let test : (p.number == number) ≡ false = grind (arith, nat_tests) in
    ap (λ b. if b then alive (take p.size cells) ∷ objects_of left (suc number) (drop p.size cells) places else ended ∷ objects_of left (suc number) cells (p ∷ places)) test

-- the line behind a number that no place has
pub ahead : (number start made end : ℕ) (p : Place) (places : List Place) → InLine number start (p ∷ places) made end → p.number ≢ number → InLine (suc number) start (p ∷ places) made end
ahead number start made end p places line apart = record { rising = omega (arith, line.rising, apart); begins = line.begins; rest = line.rest }

-- the line behind a place that has the number
pub behind : (number start made end : ℕ) (p : Place) (places : List Place) → InLine number start (p ∷ places) made end → p.number ≡ number → InLine (suc number) (start + p.size) places made end
behind number start made end p places line same = ap_line (suc p.number) (suc number) (ap suc same) line.rest
  where
    ap_line : (a b : ℕ) → a ≡ b → InLine a (start + p.size) places made end → InLine b (start + p.size) places made end
    ap_line a b e l = let P : ℕ → Type 0 = λ n. InLine n (start + p.size) places made end in subst P e l

-- a line begins no later than it ends
pub line_ends : (number start made end : ℕ) (places : List Place) → InLine number start places made end → (number ≤ suc made) × (start ≤ end)
line_ends number start made end [] line = (line.given, omega (arith, line.all))
line_ends number start made end (p ∷ places) line =
    let rest = line_ends (suc p.number) (start + p.size) made end places line.rest in
    (omega (arith, rest.0, line.rising), omega (arith, rest.1))

-- a place of a line
pub record Lies (number start made end : ℕ) (p : Place) : Type 0 where
  pub above : number ≤ p.number
  pub given : p.number ≤ made
  pub begins : start ≤ p.start
  pub ends : p.start + p.size ≤ end

pub lies : (number start made end : ℕ) (places : List Place) (k : ℕ) (p : Place) → InLine number start places made end → slice_get places k ≡ Some p → Lies number start made end p
lies number start made end [] k p line is = cc
lies number start made end (q ∷ places) zero p line is =
    let same : q ≡ p = cc in
    let rest = line_ends (suc q.number) (start + q.size) made end places line.rest in
    rw (← same) record { above = line.rising; given = omega (arith, rest.0); begins = omega (arith, line.begins); ends = omega (arith, line.begins, rest.1) }
lies number start made end (q ∷ places) (suc k) p line is =
    let rest = lies (suc q.number) (start + q.size) made end places k p line.rest is in
    record { above = omega (arith, rest.above, line.rising); given = rest.given; begins = omega (arith, rest.begins); ends = rest.ends }

-- no place, no object
nothing : (left number : ℕ) (cells : List Cell) (i : ℕ) → cells_found (slice_get (objects_of left number cells []) i) ≡ Err Dead
nothing zero number cells i = refl
nothing (suc left) number cells zero = refl
nothing (suc left) number cells (suc i) = nothing left (suc number) cells i

-- no place, no cells
same_nothing : (left number : ℕ) (cells others : List Cell) → objects_of left number cells [] ≡ objects_of left number others []
same_nothing zero number cells others = refl
same_nothing (suc left) number cells others = ap (λ m. ended ∷ m) (same_nothing left (suc number) cells others)

-- the object of a place
pub object_at : (left number start made end : ℕ) (cells : List Cell) (places : List Place) (k i o : ℕ) (p : Place) → InLine number start places made end → left + number ≡ suc made → slice_get places k ≡ Some p → i + number ≡ p.number → o + start ≡ p.start → slice_get (objects_of left number cells places) i ≡ Some (alive (part_of cells o p.size))
object_at left number start made end cells [] k i o p line sum is at begins = cc
object_at zero number start made end cells (q ∷ places) k i o p line sum is at begins =
    let there = lies number start made end (q ∷ places) k p line is in absurd (omega (arith, there.above, there.given))
object_at (suc left) number start made end cells (q ∷ places) zero zero o p line sum is at begins =
    let same : q ≡ p = cc in
    let none : 0 ≡ o = omega (arith, line.begins, ap (λ x. x.start) same) in
    ap (λ m. slice_get m 0) (here left number cells q places (omega (arith, ap (λ x. x.number) same)))
    ∙ ap (λ x. Some (alive (part_of cells 0 x.size))) same ∙ ap (λ k. Some (alive (part_of cells k p.size))) none
object_at (suc left) number start made end cells (q ∷ places) (suc k) zero o p line sum is at begins =
    let there = lies (suc q.number) (start + q.size) made end places k p line.rest is in absurd (omega (arith, there.above, line.rising))
object_at (suc left) number start made end cells (q ∷ places) zero (suc i) o p line sum is at begins =
    let same : q ≡ p = cc in
    let apart : q.number ≢ number = λ e. absurd (omega (arith, ap (λ x. x.number) same)) in
    ap (λ m. slice_get m (suc i)) (gap left number cells q places apart)
    ∙ object_at left (suc number) start made end cells (q ∷ places) zero i o p (ahead number start made end q places line apart) (omega arith) is (omega arith) begins
object_at (suc left) number start made end cells (q ∷ places) (suc k) (suc i) o p line sum is at begins =
    let there = lies (suc q.number) (start + q.size) made end places k p line.rest is in
    by_test q.number number
    (λ same. ap (λ m. slice_get m (suc i)) (here left number cells q places same)
    ∙ object_at left (suc number) (start + q.size) made end (drop q.size cells) places k i (o - q.size) p (behind number start made end q places line same) (omega arith) is (omega arith) (omega (arith, there.begins))
    ∙ ap (λ c. Some (alive c)) (part_dropped cells q.size o p.size (omega (arith, there.begins))))
    (λ apart. ap (λ m. slice_get m (suc i)) (gap left number cells q places apart)
    ∙ object_at left (suc number) start made end cells (q ∷ places) (suc k) i o p (ahead number start made end q places line apart) (omega arith) is (omega arith) begins)

-- an object that has no place is dead
pub missing_at : (left number : ℕ) (cells : List Cell) (places : List Place) (i n : ℕ) → i + number ≡ n → IsMissing places n → cells_found (slice_get (objects_of left number cells places) i) ≡ Err Dead
missing_at zero number cells places i n at missing = refl
missing_at (suc left) number cells [] i n at missing = nothing (suc left) number cells i
missing_at (suc left) number cells (q ∷ places) zero n at missing =
    let apart : q.number ≢ number = λ e. missing 0 (omega arith) (omega (arith, e)) in
    ap (λ m. cells_found (slice_get m 0)) (gap left number cells q places apart)
missing_at (suc left) number cells (q ∷ places) (suc i) n at missing =
    by_test q.number number
    (λ same. ap (λ m. cells_found (slice_get m (suc i))) (here left number cells q places same)
    ∙ missing_at left (suc number) (drop q.size cells) places i n (omega arith) (λ k within. missing (suc k) (omega arith)))
    (λ apart. ap (λ m. cells_found (slice_get m (suc i))) (gap left number cells q places apart)
    ∙ missing_at left (suc number) cells (q ∷ places) i n (omega arith) missing)

-- a piece written into the cells of a place
pub written_at : (left number start made end : ℕ) (cells : List Cell) (places : List Place) (k i o : ℕ) (p : Place) (x : ℕ) (piece : List Cell) → InLine number start places made end → left + number ≡ suc made → start + length cells ≡ end → slice_get places k ≡ Some p → i + number ≡ p.number → o + start ≡ p.start → x + length piece ≤ p.size → objects_of left number (written cells (o + x) piece) places ≡ slice_set (objects_of left number cells places) i (alive (written (part_of cells o p.size) x piece))
written_at left number start made end cells [] k i o p x piece line sum whole is at begins fits = cc
written_at zero number start made end cells (q ∷ places) k i o p x piece line sum whole is at begins fits =
    let there = lies number start made end (q ∷ places) k p line is in absurd (omega (arith, there.above, there.given))
written_at (suc left) number start made end cells (q ∷ places) zero zero o p x piece line sum whole is at begins fits =
    let same : q ≡ p = cc in
    let size = ap (λ x. x.size) same in
    let none : o ≡ 0 = omega (arith, line.begins, ap (λ x. x.start) same) in
    let there = lies number start made end (q ∷ places) zero p line is in
    let number_is : q.number ≡ number = omega (arith, ap (λ x. x.number) same) in
    let room : q.size ≤ length cells = omega (arith, there.ends, there.begins, size) in
    let inside : x + length piece ≤ q.size = omega (arith, fits, size) in
    let offset : o + x ≡ x = omega arith in
    ap (λ k. objects_of (suc left) number (written cells k piece) (q ∷ places)) offset
    ∙ here left number (written cells x piece) q places number_is
    ∙ ap (λ c. alive c ∷ objects_of left (suc number) (drop q.size (written cells x piece)) places) (take_written cells x piece q.size inside room)
    ∙ ap (λ c. alive (written (take q.size cells) x piece) ∷ objects_of left (suc number) c places) (rest_written cells x piece q.size inside (omega arith))
    ∙ ap (λ m. slice_set m 0 (alive (written (take q.size cells) x piece))) (sym (here left number cells q places number_is))
    ∙ ap (λ n. slice_set (objects_of (suc left) number cells (q ∷ places)) 0 (alive (written (take n cells) x piece))) size
    ∙ ap (λ k. slice_set (objects_of (suc left) number cells (q ∷ places)) 0 (alive (written (part_of cells k p.size) x piece))) (sym none)
written_at (suc left) number start made end cells (q ∷ places) (suc k) zero o p x piece line sum whole is at begins fits =
    let there = lies (suc q.number) (start + q.size) made end places k p line.rest is in absurd (omega (arith, there.above, line.rising))
written_at (suc left) number start made end cells (q ∷ places) zero (suc i) o p x piece line sum whole is at begins fits =
    let same : q ≡ p = cc in
    let apart : q.number ≢ number = λ e. absurd (omega (arith, ap (λ x. x.number) same)) in
    gap left number (written cells (o + x) piece) q places apart
    ∙ ap (λ m. ended ∷ m) (written_at left (suc number) start made end cells (q ∷ places) zero i o p x piece (ahead number start made end q places line apart) (omega arith) whole is (omega arith) begins fits)
    ∙ ap (λ m. slice_set m (suc i) (alive (written (part_of cells o p.size) x piece))) (sym (gap left number cells q places apart))
written_at (suc left) number start made end cells (q ∷ places) (suc k) (suc i) o p x piece line sum whole is at begins fits =
    let there = lies (suc q.number) (start + q.size) made end places k p line.rest is in
    let before : q.size ≤ o = omega (arith, there.begins) in
    let inside : o + x + length piece ≤ length cells = omega (arith, there.ends) in
    let offset : o + x - q.size ≡ (o - q.size) + x = omega arith in
    by_test q.number number
    (λ same. here left number (written cells (o + x) piece) q places same
    ∙ ap (λ c. alive c ∷ objects_of left (suc number) (drop q.size (written cells (o + x) piece)) places) (front_written cells (o + x) piece q.size (omega arith) inside)
    ∙ ap (λ c. alive (take q.size cells) ∷ objects_of left (suc number) c places) (drop_written cells (o + x) piece q.size (omega arith) inside ∙ ap (λ n. written (drop q.size cells) n piece) offset)
    ∙ ap (λ m. alive (take q.size cells) ∷ m) (written_at left (suc number) (start + q.size) made end (drop q.size cells) places k i (o - q.size) p x piece (behind number start made end q places line same) (omega arith) (omega (arith, length-drop q.size cells)) is (omega arith) (omega arith) fits)
    ∙ ap (λ c. alive (take q.size cells) ∷ slice_set (objects_of left (suc number) (drop q.size cells) places) i (alive (written c x piece))) (part_dropped cells q.size o p.size before)
    ∙ ap (λ m. slice_set m (suc i) (alive (written (part_of cells o p.size) x piece))) (sym (here left number cells q places same)))
    (λ apart. gap left number (written cells (o + x) piece) q places apart
    ∙ ap (λ m. ended ∷ m) (written_at left (suc number) start made end cells (q ∷ places) (suc k) i o p x piece (ahead number start made end q places line apart) (omega arith) whole is (omega arith) begins fits)
    ∙ ap (λ m. slice_set m (suc i) (alive (written (part_of cells o p.size) x piece))) (sym (gap left number cells q places apart)))

-- one object more, whose cells stand at the end
pub made_more : (left number start made end : ℕ) (cells new : List Cell) (places : List Place) (p : Place) → InLine number start places made end → left + number ≡ suc made → start + length cells ≡ end → p.number ≡ left + number → p.size ≡ length new → objects_of (suc left) number (cells ++ new) (places ++ p ∷ []) ≡ objects_of left number cells places ++ alive new ∷ []
made_more zero number start made end [] new [] p line sum whole numbered size =
    here zero number new p [] (omega arith) ∙ ap (λ c. alive c ∷ []) (take_all p.size new (omega arith))
made_more zero number start made end (c ∷ cells) new [] p line sum whole numbered size = absurd (omega (arith, line.all))
made_more zero number start made end cells new (q ∷ places) p line sum whole numbered size =
    let there = lies number start made end (q ∷ places) zero q line refl in absurd (omega (arith, there.above, there.given))
made_more (suc left) number start made end cells new [] p line sum whole numbered size =
    let apart : p.number ≢ number = λ e. absurd (omega arith) in
    let later : InLine (suc number) start [] made end = record { given = omega arith; all = line.all } in
    gap (suc left) number (cells ++ new) p [] apart
    ∙ ap (λ m. ended ∷ m) (made_more left (suc number) start made end cells new [] p later (omega arith) whole (omega arith) size)
made_more (suc left) number start made end cells new (q ∷ places) p line sum whole numbered size =
    let there = lies number start made end (q ∷ places) zero q line refl in
    let room : q.size ≤ length cells = omega (arith, there.ends, there.begins) in
    by_test q.number number
    (λ same. here (suc left) number (cells ++ new) q (places ++ p ∷ []) same
    ∙ ap (λ c. alive c ∷ objects_of (suc left) (suc number) (drop q.size (cells ++ new)) (places ++ p ∷ [])) (take-append-le q.size cells new room)
    ∙ ap (λ c. alive (take q.size cells) ∷ objects_of (suc left) (suc number) c (places ++ p ∷ [])) (drop_joined q.size cells new room)
    ∙ ap (λ m. alive (take q.size cells) ∷ m) (made_more left (suc number) (start + q.size) made end (drop q.size cells) new places p (behind number start made end q places line same) (omega arith) (omega (arith, length-drop q.size cells)) (omega arith) size)
    ∙ ap (λ m. m ++ alive new ∷ []) (sym (here left number cells q places same)))
    (λ apart. gap (suc left) number (cells ++ new) q (places ++ p ∷ []) apart
    ∙ ap (λ m. ended ∷ m) (made_more left (suc number) start made end cells new (q ∷ places) p (ahead number start made end q places line apart) (omega arith) whole (omega arith) size)
    ∙ ap (λ m. m ++ alive new ∷ []) (sym (gap left number cells q places apart)))

-- the line with one place more
pub line_more : (number start made end : ℕ) (places : List Place) (p : Place) → InLine number start places made end → p.number ≡ suc made → p.start ≡ end → InLine number start (places ++ p ∷ []) (suc made) (end + p.size)
line_more number start made end [] p line numbered begins = record { rising = omega (arith, line.given); begins = omega (arith, line.all); rest = record { given = omega arith; all = omega (arith, line.all) } }
line_more number start made end (q ∷ places) p line numbered begins =
    record { rising = line.rising; begins = line.begins; rest = line_more (suc q.number) (start + q.size) made end places p line.rest numbered begins }

-- how many cells objects have
abbrev pub sizes : List Place → ℕ
sizes [] = 0
sizes (p ∷ places) = p.size + sizes places

-- each place begins behind those before it
pub starts_at : (number start made end : ℕ) (places : List Place) (k : ℕ) (p : Place) → InLine number start places made end → slice_get places k ≡ Some p → p.start ≡ start + sizes (take k places)
starts_at number start made end [] k p line is = cc
starts_at number start made end (q ∷ places) zero p line is = let same : q ≡ p = cc in omega (arith, line.begins, ap (λ x. x.start) same)
starts_at number start made end (q ∷ places) (suc k) p line is = omega (arith, starts_at (suc q.number) (start + q.size) made end places k p line.rest is)

-- and all of them end at the end
pub all_sizes : (number start made end : ℕ) (places : List Place) → InLine number start places made end → end ≡ start + sizes places
all_sizes number start made end [] line = omega (arith, line.all)
all_sizes number start made end (q ∷ places) line = omega (arith, all_sizes (suc q.number) (start + q.size) made end places line.rest)

-- the first places of a line are one
pub line_less : (number start made end : ℕ) (places : List Place) (k : ℕ) → InLine number start places made end → InLine number start (take k places) made (start + sizes (take k places))
line_less number start made end [] k line = of_nothing k
  where
    of_nothing : (k : ℕ) → InLine number start (take k []) made (start + sizes (take k []))
    of_nothing zero = record { given = line.given; all = omega arith }
    of_nothing (suc k) = record { given = line.given; all = omega arith }
line_less number start made end (q ∷ places) zero line =
    let ends = line_ends number start made end (q ∷ places) line in record { given = ends.0; all = omega arith }
line_less number start made end (q ∷ places) (suc k) line =
    let same : start + q.size + sizes (take k places) ≡ start + (q.size + sizes (take k places)) = omega arith in
    record { rising = line.rising; begins = line.begins; rest = at_end (start + q.size + sizes (take k places)) (start + (q.size + sizes (take k places))) same (line_less (suc q.number) (start + q.size) made end places k line.rest) }
  where
    at_end : (a b : ℕ) → a ≡ b → InLine (suc q.number) (start + q.size) (take k places) made a → InLine (suc q.number) (start + q.size) (take k places) made b
    at_end a b e l = let P : ℕ → Type 0 = λ n. InLine (suc q.number) (start + q.size) (take k places) made n in subst P e l

-- the first object up to a mark stays
keep_first : (o : ObjectData) (m : Memory) (number mark : ℕ) → number ≤ mark → end_to (o ∷ m) (suc mark - number) ≡ o ∷ end_to m (suc mark - suc number)
keep_first o m number mark early = ap (end_to (o ∷ m)) (let same : suc mark - number ≡ suc (suc mark - suc number) = omega arith in same)

-- and one behind it ends
end_first : (o : ObjectData) (m : Memory) (number mark : ℕ) → mark < number → end_to (o ∷ m) (suc mark - number) ≡ ended ∷ end_to m (suc mark - suc number)
end_first o m number mark late =
    ap (end_to (o ∷ m)) (let none : suc mark - number ≡ 0 = omega arith in none)
    ∙ ap (λ j. ended ∷ end_to m j) (let none : 0 ≡ suc mark - suc number = omega arith in none)

-- one that has ended has ended
end_ended : (m : Memory) (number mark : ℕ) → end_to (ended ∷ m) (suc mark - number) ≡ ended ∷ end_to m (suc mark - suc number)
end_ended m number mark = either (nat_le number mark) refl
  where
    either : (t : Bool) → nat_le number mark ≡ t → end_to (ended ∷ m) (suc mark - number) ≡ ended ∷ end_to m (suc mark - suc number)
    either true e = keep_first ended m number mark (grind (arith, nat_tests))
    either false e = end_first ended m number mark (grind (arith, nat_tests))

end_none : (n : ℕ) → [] ≡ end_to [] n
end_none zero = refl
end_none (suc n) = refl

-- where the objects behind a mark have ended, the first places and their cells are left
pub ended_behind : (left number start made end : ℕ) (cells : List Cell) (places : List Place) (k mark c : ℕ) → InLine number start places made end → left + number ≡ suc made → Behind places mark k → c ≡ sizes (take k places) → objects_of left number (take c cells) (take k places) ≡ end_to (objects_of left number cells places) (suc mark - number)
ended_behind zero number start made end cells places k mark c line sum cut whole = end_none (suc mark - number)
ended_behind (suc left) number start made end cells [] (suc k) mark c line sum cut whole = absurd (omega (arith, cut.bound))
ended_behind (suc left) number start made end cells [] zero mark c line sum cut whole =
    let later : InLine (suc number) start [] made end = record { given = omega arith; all = line.all } in
    ap (λ m. ended ∷ m) (ended_behind left (suc number) start made end cells [] zero mark c later (omega arith) cut whole)
    ∙ sym (end_ended (objects_of left (suc number) cells []) number mark)
ended_behind (suc left) number start made end cells (q ∷ places) zero mark c line sum cut whole =
    let late = cut.after 0 (omega arith) (omega arith) in
    let less : Behind places mark 0 = record { bound = omega arith; before = λ i within. absurd (omega arith); after = λ i from within. cut.after (suc i) (omega arith) (omega arith) } in
    by_test q.number number
    (λ same. ap (λ m. ended ∷ m) (same_nothing left (suc number) (take c cells) (take 0 (drop q.size cells)) ∙ ended_behind left (suc number) (start + q.size) made end (drop q.size cells) places zero mark 0 (behind number start made end q places line same) (omega arith) less refl)
    ∙ sym (ap (λ m. end_to m (suc mark - number)) (here left number cells q places same) ∙ end_first (alive (take q.size cells)) (objects_of left (suc number) (drop q.size cells) places) number mark (omega (arith, late))))
    (λ apart. ap (λ m. ended ∷ m) (ended_behind left (suc number) start made end cells (q ∷ places) zero mark c (ahead number start made end q places line apart) (omega arith) cut whole)
    ∙ sym (ap (λ m. end_to m (suc mark - number)) (gap left number cells q places apart) ∙ end_ended (objects_of left (suc number) cells (q ∷ places)) number mark))
ended_behind (suc left) number start made end cells (q ∷ places) (suc k) mark c line sum cut whole =
    let early = cut.before 0 (omega arith) in
    let rest = sizes (take k places) in
    let less : Behind places mark k = record { bound = omega (arith, cut.bound); before = λ i within. cut.before (suc i) (omega arith); after = λ i from within. cut.after (suc i) (omega arith) (omega arith) } in
    by_test q.number number
    (λ same. here left number (take c cells) q (take k places) same
    ∙ ap (λ x. alive x ∷ objects_of left (suc number) (drop q.size (take c cells)) (take k places)) (take-take q.size c cells (omega arith))
    ∙ ap (λ n. alive (take q.size cells) ∷ objects_of left (suc number) (drop q.size (take n cells)) (take k places)) whole
    ∙ ap (λ x. alive (take q.size cells) ∷ objects_of left (suc number) x (take k places)) (drop-take q.size rest cells)
    ∙ ap (λ m. alive (take q.size cells) ∷ m) (ended_behind left (suc number) (start + q.size) made end (drop q.size cells) places k mark rest (behind number start made end q places line same) (omega arith) less refl)
    ∙ sym (ap (λ m. end_to m (suc mark - number)) (here left number cells q places same) ∙ keep_first (alive (take q.size cells)) (objects_of left (suc number) (drop q.size cells) places) number mark (omega (arith, early))))
    (λ apart. gap left number (take c cells) q (take k places) apart
    ∙ ap (λ m. ended ∷ m) (ended_behind left (suc number) start made end cells (q ∷ places) (suc k) mark c (ahead number start made end q places line apart) (omega arith) cut whole)
    ∙ sym (ap (λ m. end_to m (suc mark - number)) (gap left number cells q places apart) ∙ end_ended (objects_of left (suc number) cells (q ∷ places)) number mark))

-- how many objects there are
pub count_objects : (left number : ℕ) (cells : List Cell) (places : List Place) → length (objects_of left number cells places) ≡ left
count_objects zero number cells places = refl
count_objects (suc left) number cells [] = ap suc (count_objects left (suc number) cells [])
count_objects (suc left) number cells (q ∷ places) =
    by_test q.number number
    (λ same. ap length (here left number cells q places same) ∙ ap suc (count_objects left (suc number) (drop q.size cells) places))
    (λ apart. ap length (gap left number cells q places apart) ∙ ap suc (count_objects left (suc number) cells (q ∷ places)))

-- and how many bytes of them are alive
pub count_bytes : (left number start made end : ℕ) (cells : List Cell) (places : List Place) → InLine number start places made end → left + number ≡ suc made → start + length cells ≡ end → live_bytes (objects_of left number cells places) ≡ length cells
count_bytes zero number start made end cells [] line sum whole = omega (arith, line.all)
count_bytes zero number start made end cells (q ∷ places) line sum whole =
    let there = lies number start made end (q ∷ places) zero q line refl in absurd (omega (arith, there.above, there.given))
count_bytes (suc left) number start made end cells [] line sum whole =
    let later : InLine (suc number) start [] made end = record { given = omega arith; all = line.all } in
    count_bytes left (suc number) start made end cells [] later (omega arith) whole
count_bytes (suc left) number start made end cells (q ∷ places) line sum whole =
    let there = lies number start made end (q ∷ places) zero q line refl in
    let room : q.size ≤ length cells = omega (arith, there.ends, there.begins) in
    by_test q.number number
    (λ same. ap live_bytes (here left number cells q places same)
    ∙ omega (arith, length-take-le q.size cells room, length-drop q.size cells, count_bytes left (suc number) (start + q.size) made end (drop q.size cells) places (behind number start made end q places line same) (omega arith) (omega (arith, length-drop q.size cells))))
    (λ apart. ap live_bytes (gap left number cells q places apart)
    ∙ count_bytes left (suc number) start made end cells (q ∷ places) (ahead number start made end q places line apart) (omega arith) whole)

-- the numbers of a line
above_at : (number start made end : ℕ) (places : List Place) (k : ℕ) → InLine number start places made end → k < length places → number ≤ number_at places k
above_at number start made end [] k line within = absurd (omega arith)
above_at number start made end (q ∷ places) zero line within = line.rising
above_at number start made end (q ∷ places) (suc k) line within = omega (arith, line.rising, above_at (suc q.number) (start + q.size) made end places k line.rest (omega arith))

pub rising : (number start made end : ℕ) (places : List Place) → InLine number start places made end → IsRising places
rising number start made end [] line i j before within = absurd (omega arith)
rising number start made end (q ∷ places) line i zero before within = absurd (omega arith)
rising number start made end (q ∷ places) line zero (suc j) before within = omega (arith, above_at (suc q.number) (start + q.size) made end places j line.rest (omega arith))
rising number start made end (q ∷ places) line (suc i) (suc j) before within = rising (suc q.number) (start + q.size) made end places line.rest i j (omega arith) (omega arith)
