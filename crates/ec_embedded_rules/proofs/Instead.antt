-- A rule of which whatever it finds is one fault.
use Rattle.std.proofs.Common.{◌≡◌, ◌∙◌, Bool, true, false, cond, List, [], ◌∷◌, map, Option, Some, None, is_some, refl, sym, ap}
use Rattle.ec_base.specs.declared.fault.FaultKind.{FaultKind}
use Rattle.ec_base.specs.declared.stop.Stop.TheVariants.{Refused}
use Rattle.ec_language.specs.First.{Violation, comes_before}
use Rattle.ec_typing_defs.specs.Worlds.{Place, Rule, instead}
use Rattle.ec_scopes.specs.declared.state.Checker.{Checker}
use Rattle.ec_scopes.specs.Seen.{world_of, notes_of, noted, noted_one, noted_instead, IsDone}

some_stays : (vs : List Violation) (w : Violation) → is_some (noted vs (Some w)) ≡ true
some_stays [] w = refl
some_stays (v ∷ vs) w = by (comes_before v w) (some_stays vs)
  where
    by : (b : Bool) → ((u : Violation) → is_some (noted vs (Some u)) ≡ true) → is_some (noted vs (cond b (Some v) (Some w))) ≡ true
    by true ih = ih v
    by false ih = ih w

once : (f : Violation) (n : Option Violation) → noted_one f (noted_one f n) ≡ noted_one f n
once f None = by (comes_before f f)
  where
    by : (b : Bool) → cond b (Some f) (Some f) ≡ Some f
    by true = refl
    by false = refl
once f (Some w) = by (comes_before f w) refl
  where
    same : (b : Bool) → cond b (Some f) (Some f) ≡ Some f
    same true = refl
    same false = refl

    by : (b : Bool) → comes_before f w ≡ b → noted_one f (cond b (Some f) (Some w)) ≡ cond b (Some f) (Some w)
    by true e = same (comes_before f f)
    by false e = ap (λ b. cond b (Some f) (Some w)) e

again : (f : Violation) (vs : List Violation) (n : Option Violation) → noted (map (λ v. f) vs) (noted_one f n) ≡ noted_one f n
again f [] n = refl
again f (v ∷ vs) n = ap (noted (map (λ v. f) vs)) (once f n) ∙ again f vs n

as_one : (at : Place) (kind : FaultKind) (vs : List Violation) (n : Option Violation)
    → noted (map (λ v. record { place = at.number; stop = Refused kind at.line }) vs) n ≡ noted_instead at kind (is_some (noted vs None)) n
as_one at kind [] n = refl
as_one at kind (v ∷ vs) n = again (record { place = at.number; stop = Refused kind at.line }) vs n ∙ sym (ap (λ b. noted_instead at kind b n) (some_stays vs v))

-- what was found before is set aside, the rule is done, and then it is put back
pub instead_done : (at : Place) (kind : FaultKind) (m : Rule (Unit {0})) {old aside mid new : Checker} → world_of aside ≡ world_of old → notes_of aside ≡ None → IsDone (m (world_of aside)) aside mid tt
    → world_of new ≡ world_of mid → notes_of new ≡ noted_instead at kind (is_some (notes_of mid)) (notes_of old) → IsDone (instead at kind m (world_of old)) old new tt
unfolding instead
instead_done at kind m {old} {aside} {mid} same none p world notes = record {
  answer_is = refl;
  world_is = world ∙ p.world_is ∙ (λ i. (m (same i)).world);
  notes_is = notes ∙ (λ i. noted_instead at kind (is_some (p.notes_is i)) (notes_of old))
      ∙ (λ i. noted_instead at kind (is_some (noted (m (same i)).found (none i))) (notes_of old))
      ∙ sym (as_one at kind (m (world_of old)).found (notes_of old));
}
