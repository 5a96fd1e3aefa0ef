-- Bytes that are lent: a memory says where its objects lie, however it is kept.
use Rattle.std.proofs.Common.{◌≡◌, ◌∙◌, sym, ap, subst, refl, ℕ, zero, suc, ◌+◌, ◌≤◌, List, [], ◌∷◌, length, take, drop, Ok, Err, Result, arith, length-drop}
use Rattle.std.specs.Coded.{Coded, Coded-set, codes}
use Rattle.std.specs.Prelude.{IfOk, MatchResult}
use Rattle.std.specs.Result.{result_err}
use Rattle.std.proofs.Math.Logic.{∥∥₁_elim}
use Rattle.std.proofs.lemmas.List.{length-take-le}
use Rattle.ec_base.specs.declared.stop.Trap.{Trap}
use Rattle.ec_memory.specs.declared.place.Place.{Place}
use Rattle.ec_memory.specs.Objects.{objects_of, memory_of, InLine, Kept, Holds, Placed, Traps, LiesAt, KeepsPlaces}
use Rattle.ec_memory.proofs.Line.{by_test, here, gap, ahead, behind, lies, count_bytes}
use Rattle.ec_memory.proofs.Calls.{last_made, few_bytes, placed_of, found_at, trapped_of}
use Rattle.ec_memory.proofs.Objects.{room}
use Rattle.ec_memory_defs.specs.Cells.{Cell}
use Rattle.ec_memory_defs.specs.Memory.{ObjectData, alive, ended, Memory, live_bytes, object_of, offset_of, cells_at}

-- a place is its three numbers
same_place : (p q : Place) → p.number ≡ q.number → p.start ≡ q.start → p.size ≡ q.size → p ≡ q
same_place p q number start size =
    ap (λ n. record { number = n; start = p.start; size = p.size }) number
    ∙ ap (λ n. record { number = q.number; start = n; size = p.size }) start
    ∙ ap (λ n. record { number = q.number; start = q.start; size = n }) size

-- the first objects, and those behind them
heads : (o w : ObjectData) (m n : Memory) → o ∷ m ≡ w ∷ n → (o ≡ w) × (m ≡ n)
heads o w m n e = (cc, cc)

as_long : (xs ys : List Cell) → alive xs ≡ alive ys → length xs ≡ length ys
as_long xs ys e = let same : xs ≡ ys = cc in ap length same

not_alive : {P : Type 0} (xs : List Cell) → alive xs ≡ ended → P
not_alive xs e = cc

-- a line behind its first place, which begins at the number
next_line : (number start made end : ℕ) (p q : Place) (more : List Place) → p ≡ q → InLine number start (q ∷ more) made end → q.number ≡ number → InLine (suc number) (start + p.size) more made end
next_line number start made end p q more same line here_is =
    let P : ℕ → Type 0 = λ n. InLine (suc number) (start + n) more made end in
    subst P (sym (ap (λ r. r.size) same)) (behind number start made end q more line here_is)

-- a line of objects has its places in one way
same_places : (left number start made end other_end : ℕ) (cells others : List Cell) (places more : List Place) → InLine number start places made end → InLine number start more made other_end → left + number ≡ suc made → start + length cells ≡ end → start + length others ≡ other_end → objects_of left number cells places ≡ objects_of left number others more → places ≡ more
same_places zero number start made end other_end cells others [] [] line other sum whole all e = refl
same_places zero number start made end other_end cells others (p ∷ places) more line other sum whole all e =
    let there = lies number start made end (p ∷ places) zero p line refl in absurd (omega (arith, there.above, there.given))
same_places zero number start made end other_end cells others [] (q ∷ more) line other sum whole all e =
    let there = lies number start made other_end (q ∷ more) zero q other refl in absurd (omega (arith, there.above, there.given))
same_places (suc left) number start made end other_end cells others [] [] line other sum whole all e = refl
same_places (suc left) number start made end other_end cells others [] (q ∷ more) line other sum whole all e =
    let later : InLine (suc number) start [] made end = record { given = omega (arith, sum); all = line.all } in
    by_test q.number number
    (λ same. not_alive (take q.size others) (sym (heads _ _ _ _ (e ∙ here left number others q more same)).0))
    (λ apart. same_places left (suc number) start made end other_end cells others [] (q ∷ more) later (ahead number start made other_end q more other apart) (omega (arith, sum)) whole all (heads _ _ _ _ (e ∙ gap left number others q more apart)).1)
same_places (suc left) number start made end other_end cells others (p ∷ places) [] line other sum whole all e =
    let later : InLine (suc number) start [] made other_end = record { given = omega (arith, sum); all = other.all } in
    by_test p.number number
    (λ same. not_alive (take p.size cells) (heads _ _ _ _ (sym (here left number cells p places same) ∙ e)).0)
    (λ apart. same_places left (suc number) start made end other_end cells others (p ∷ places) [] (ahead number start made end p places line apart) later (omega (arith, sum)) whole all (heads _ _ _ _ (sym (gap left number cells p places apart) ∙ e)).1)
same_places (suc left) number start made end other_end cells others (p ∷ places) (q ∷ more) line other sum whole all e =
    by_test p.number number
    (λ same. by_test q.number number
    (λ also.
    let both = heads _ _ _ _ (sym (here left number cells p places same) ∙ e ∙ here left number others q more also) in
    let there = lies number start made end (p ∷ places) zero p line refl in
    let beside = lies number start made other_end (q ∷ more) zero q other refl in
    let fits : p.size ≤ length cells = omega (arith, there.begins, there.ends, whole) in
    let holds : q.size ≤ length others = omega (arith, beside.begins, beside.ends, all) in
    let size : p.size ≡ q.size = sym (length-take-le p.size cells fits) ∙ as_long _ _ both.0 ∙ length-take-le q.size others holds in
    let first : p ≡ q = same_place p q (same ∙ sym also) (line.begins ∙ sym other.begins) size in
    let rest = same_places left (suc number) (start + p.size) made end other_end (drop p.size cells) (drop q.size others) places more (behind number start made end p places line same) (next_line number start made other_end p q more first other also) (omega (arith, sum)) (omega (arith, length-drop p.size cells, fits, whole)) (omega (arith, length-drop q.size others, holds, all, size)) both.1 in
    ap (λ r. r ∷ places) first ∙ ap (λ ps. q ∷ ps) rest)
    (λ apart. not_alive (take p.size cells) (heads _ _ _ _ (sym (here left number cells p places same) ∙ e ∙ gap left number others q more apart)).0))
    (λ apart. by_test q.number number
    (λ also. not_alive (take q.size others) (sym (heads _ _ _ _ (sym (gap left number cells p places apart) ∙ e ∙ here left number others q more also)).0))
    (λ beyond. same_places left (suc number) start made end other_end cells others (p ∷ places) (q ∷ more) (ahead number start made end p places line apart) (ahead number start made other_end q more other beyond) (omega (arith, sum)) whole all (heads _ _ _ _ (sym (gap left number cells p places apart) ∙ e ∙ gap left number others q more beyond)).1))

-- so has a memory
kept_places : (made count : ℕ) (cells others : List Cell) (places more : List Place) → made ≡ count → Kept made cells places → Kept count others more → memory_of made cells places ≡ memory_of count others more → places ≡ more
kept_places made count cells others places more same kept also e =
    let P : ℕ → Type 0 = λ n. Kept n others more in
    let Q : ℕ → Type 0 = λ n. memory_of made cells places ≡ memory_of n others more in
    let near = subst P (sym same) also in
    same_places made 1 0 made (length cells) (length others) cells others places more kept.line near.line (omega arith) (omega arith) (omega arith) (subst Q (sym same) e)

-- the bytes that are alive fill the region
pub all_bytes : (m : Memory) (made : ℕ) (cells : List Cell) (places : List Place) → memory_of made cells places ≡ m → Kept made cells places → live_bytes m ≡ length cells
all_bytes m made cells places view kept = ap live_bytes (sym view) ∙ count_bytes made 1 0 made (length cells) cells places kept.line (omega arith) (omega arith)

-- what lies at a place lies there however the memory is kept
pub lies_at : (m : Memory) (made : ℕ) (cells : List Cell) (places now : List Place) (p n at : ℕ) → memory_of made cells places ≡ m → Kept made cells places → now ≡ places → Placed now p n at → LiesAt m p n at
lies_at m made cells places now p n at view kept e placed =
    let here_now = placed_of places now p n at e placed in
    let bytes = all_bytes m made cells places view kept in
    let fits = room made cells places p n at kept here_now in
    record {
      placed = λ count others more also same.
          let P : List Place → Type 0 = λ ps. Placed ps p n at in
          subst P (kept_places made count cells others places more (last_made m made cells places view ∙ sym (last_made m count others more same)) kept also (view ∙ sym same)) here_now;
      inside = omega (arith, bytes, fits);
      few = few_bytes m made cells places view kept;
      near = omega (arith, here_now.inside, here_now.begins, fits, kept.few_bytes, placed_in made cells places p n at kept here_now);
    }
  where
    placed_in : (made : ℕ) (cells : List Cell) (places : List Place) (p n at : ℕ) → Kept made cells places → (placed : Placed places p n at) → placed.place.start + placed.place.size ≤ length cells
    placed_in made cells places p n at kept placed =
        let there = lies 1 0 made (length cells) places placed.holds.index placed.place kept.line placed.holds.found in there.ends

-- a write changes no place
pub keeps_places : (m after : Memory) (made : ℕ) (cells others : List Cell) (places : List Place) → memory_of made cells places ≡ m → memory_of made others places ≡ after → Kept made cells places → length others ≡ length cells → KeepsPlaces m after
keeps_places m after made cells others places view seen_as kept as_many p n at lies_there =
    let P : ℕ → Type 0 = λ e. InLine 1 0 places made e in
    let also : Kept made others places = record { line = subst P (sym as_many) kept.line; few_bytes = omega (arith, as_many, kept.few_bytes); few_objects = kept.few_objects } in
    lies_at after made others places places p n at seen_as also refl (lies_there.placed made cells places kept view)

-- a part of what lies at a place
pub part_lies : (m : Memory) (p n at behind k : ℕ) → LiesAt m p n at → behind + k ≤ n → LiesAt m (p + behind) k (at + behind)
part_lies m p n at behind k lies_there fits =
    let offset : offset_of (p + behind) ≡ offset_of p + behind = omega (arith, lies_there.near) in
    let object : object_of (p + behind) ≡ object_of p = omega (arith, lies_there.near) in
    record {
      placed = λ made cells places kept view.
          let whole = lies_there.placed made cells places kept view in
          let P : ℕ → Type 0 = λ o. Holds places o whole.place in
          record { place = whole.place; holds = subst P (sym object) whole.holds; begins = omega (arith, whole.begins, offset); inside = omega (arith, whole.inside, offset) };
      inside = omega (arith, lies_there.inside);
      few = lies_there.few;
      near = omega (arith, offset, lies_there.near);
    }

-- the same at a place that was counted
pub part_at : (m : Memory) (p n at behind k place : ℕ) → LiesAt m p n at → behind + k ≤ n → place ≡ at + behind → LiesAt m (p + behind) k place
part_at m p n at behind k place lies_there fits is =
    let P : ℕ → Type 0 = λ i. LiesAt m (p + behind) k i in
    subst P (sym is) (part_lies m p n at behind k lies_there fits)

-- a place that was found, or the trap
pub found_place : (m : Memory) (made : ℕ) (cells : List Cell) (places now : List Place) (p n : ℕ) (r : Result ℕ Trap) → memory_of made cells places ≡ m → Kept made cells places → now ≡ places → MatchResult r (Placed now p n) (Traps now (λ m. cells_at m p n)) → (result_err r ≡ result_err (cells_at m p n)) × IfOk r (λ at. LiesAt m p n at)
found_place m made cells places now p n (Ok at) view kept e placed =
    (sym (ap result_err (found_at m made cells places now p n at view kept e placed)), lies_at m made cells places now p n at view kept e placed)
found_place m made cells places now p n (Err trap) view kept e traps =
    (sym (ap result_err (trapped_of m made cells places now p n trap view kept e traps)), tt)

-- a memory has one value, so what is told of it follows from what lies there at all
memory_code : Coded (Result Memory Trap)
memory_code = Prim.hlevel codes

pub told_once : {A : Type 0} (r s : Result Memory Trap) → ∥ A ∥₁ → (A → r ≡ s) → r ≡ s
told_once r s there told = ∥∥₁_elim there (Coded-set memory_code r s) told
