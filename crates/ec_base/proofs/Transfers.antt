-- Reads of a source and puts into a sink, one after another.
use Rattle.std.proofs.Common.{◌≡◌, refl, ℕ, suc, ◌∷◌, get_or, take, drop, take-append-drop, ◌-◌, ◌^◌, ◌<◌, ◌≤◌, List, [], ◌++◌, length, Option, None, Some, sym, ap, ◌∙◌, subst, append_assoc, append-nil, arith, length-append}
use Rattle.std.proofs.Math.Seq.{drop-cons}
use Rattle.std.proofs.lemmas.Grind.{flat_map-append}
use Rattle.std.specs.List.{flat_map}
use Rattle.std.specs.Io.KnownBytes.{Consumes, IsAtEnd}
use Rattle.std.proofs.KnownBytes.{Appends-nil, Appends-trans, Consumes-nil, Consumes-trans}
use Rattle.ec_base.specs.declared.stop.InputStop.TheVariants.{TooLong}
use Rattle.ec_base.specs.Causes.{Rose}
use Rattle.ec_base.specs.Reading.{Reads, ReadsAll, ReadsPart}
use Rattle.ec_base.specs.Putting.{Puts, Took, PutsPart}

-- ---- counts of faults

-- a count that rose has risen from before that, too
pub Rose-before : (a b c : ℕ) → a ≤ b → Rose b c → Rose a c
Rose-before a b c p q = omega arith

-- a count that rose has still risen later
pub Rose-later : (a b c : ℕ) → Rose a b → b ≤ c → Rose a c
Rose-later a b c p q = omega arith

-- below its last value, a count that rose is greater than before
pub Rose-greater : (a b : ℕ) → a < 2 ^ 64 - 1 → Rose a b → a < b
Rose-greater a b p q = omega arith

-- ---- a source

-- what is read of known bytes is their front
pub Consumes-front : (xs : List ℕ) (rest : Option (List ℕ)) (bs : List ℕ) → Consumes (Some xs) rest bs → (ys : List ℕ) × (xs ≡ bs ++ ys)
Consumes-front xs None bs p = absurd p
Consumes-front xs (Some ys) bs p = (ys, p)

-- known bytes that are read to their end are read whole
pub Consumes-whole : (xs : List ℕ) (rest : Option (List ℕ)) (bs : List ℕ) → Consumes (Some xs) rest bs → IsAtEnd rest → bs ≡ xs
Consumes-whole xs None bs p q = absurd p
Consumes-whole xs (Some ys) bs p q = sym (p ∙ ap (λ l. bs ++ l) q ∙ append-nil bs)

module _ {S : Type 0} {left : S → Option (List ℕ)} {faults : S → ℕ} where
  pub Reads-none : (a : S) → Reads left faults a a []
  Reads-none a = record { taken = Consumes-nil (left a); steady = refl }

  pub Reads-then : {a b c : S} {xs ys : List ℕ} → Reads left faults a b xs → Reads left faults b c ys → Reads left faults a c (xs ++ ys)
  Reads-then p q = record { taken = Consumes-trans _ _ _ _ _ p.taken q.taken; steady = q.steady ∙ p.steady }

  -- a source that tells its bytes gives them
  pub ReadsAll-text : {a b : S} {limit : ℕ} {bytes text : List ℕ} → left a ≡ Some text → ReadsAll left faults a b limit bytes → bytes ≡ text
  ReadsAll-text {b} {bytes} {text} e p =
      Consumes-whole text (left b) bytes (subst (λ o. Consumes o (left b) bytes) e p.reads.taken) p.ended

  -- and only a text beyond the limit is too long
  pub ReadsPart-long : {a b : S} {limit : ℕ} {text : List ℕ} → left a ≡ Some text → ReadsPart left faults a b limit TooLong → limit < length text
  ReadsPart-long {b} {text} e p =
      let front = Consumes-front text (left b) p.bytes (subst (λ o. Consumes o (left b) p.bytes) e p.taken) in
      rw front.1 omega (arith, p.reason.1, length-append p.bytes front.0)

-- ---- a sink

-- the pieces of the items before the i-th, of the i-th, and of those after it
flat_map_at : {X : Type 0} (piece : X → List ℕ) (items : List X) (i : ℕ) (x : X) → i < length items → x ≡ get_or items i x
    → flat_map piece items ≡ flat_map piece (take i items) ++ (piece x ++ flat_map piece (drop (suc i) items))
flat_map_at piece items i x h e =
    ap (flat_map piece) (sym (take-append-drop i items)) ∙ flat_map-append piece (take i items) (drop i items)
    ∙ ap (λ l. flat_map piece (take i items) ++ flat_map piece l) (drop-cons items i x h ∙ ap (λ y. y ∷ drop (suc i) items) (sym e))

module _ {S : Type 0} {held : S → Option (List ℕ)} {faults : S → ℕ} where
  pub Puts-none : (a : S) → Puts held faults a a []
  Puts-none a = record { taken = Appends-nil (held a); steady = refl }

  -- two pieces, one after the other
  pub Puts-then : {a b c : S} {xs ys : List ℕ} → Puts held faults a b xs → Puts held faults b c ys → Puts held faults a c (xs ++ ys)
  Puts-then p q = record { taken = Appends-trans _ _ _ _ _ p.taken q.taken; steady = q.steady ∙ p.steady }

  -- a sink that took all of it took it
  pub Took-puts : {a b : S} {xs : List ℕ} → Puts held faults a b xs → Took held faults a b xs
  Took-puts p = record { taken = p.taken; later = omega (arith, p.steady) }

  -- two pieces, where the sink may have failed behind the second
  pub Took-then : {a b c : S} {xs ys : List ℕ} → Puts held faults a b xs → Took held faults b c ys → Took held faults a c (xs ++ ys)
  Took-then p q = record { taken = Appends-trans _ _ _ _ _ p.taken q.taken; later = omega (arith, p.steady, q.later) }

  -- the sink failed at the second of two pieces
  pub PutsPart-then : {a b c : S} {xs ys : List ℕ} → Puts held faults a b xs → PutsPart held faults b c ys → PutsPart held faults a c (xs ++ ys)
  PutsPart-then {xs} p q = record {
    front = xs ++ q.front;
    rest = q.rest;
    split = ap (λ l. xs ++ l) q.split ∙ sym (append_assoc xs q.front q.rest);
    took = Took-then p q.took;
    failed = omega (arith, p.steady, q.failed);
  }

  -- the sink failed at the first of two pieces
  pub PutsPart-before : {a b : S} {xs : List ℕ} → PutsPart held faults a b xs → (ys : List ℕ) → PutsPart held faults a b (xs ++ ys)
  PutsPart-before p ys = record {
    front = p.front;
    rest = p.rest ++ ys;
    split = ap (λ l. l ++ ys) p.split ∙ append_assoc p.front p.rest ys;
    took = p.took;
    failed = p.failed;
  }

  -- the sink took the pieces of the items before the i-th, and failed at the piece of the i-th
  pub PutsPart-each : {X : Type 0} {a b c : S} (piece : X → List ℕ) (items : List X) (i : ℕ) (x : X) → i < length items → x ≡ get_or items i x
      → Puts held faults a b (flat_map piece (take i items)) → PutsPart held faults b c (piece x) → PutsPart held faults a c (flat_map piece items)
  PutsPart-each {a} {c} piece items i x h e p q =
      subst (λ l. PutsPart held faults a c l) (sym (flat_map_at piece items i x h e)) (PutsPart-then p (PutsPart-before q (flat_map piece (drop (suc i) items))))

-- ---- what a caller names once, by `#[tactic(auto, using(..))]`

pub ruleset reading = (Reads-none, Reads-then, ReadsAll-text, ReadsPart-long)

pub ruleset putting = (Puts-none, Puts-then, PutsPart-then, PutsPart-before, PutsPart-each)
