-- How functions that do what rules say are put together.
use Rattle.std.proofs.Common.{◌≡◌, ◌∙◌, List, [], ◌∷◌, ◌++◌, Result, Ok, Err, IfOk, refl, sym, ap, Option}
use Rattle.ec_base.specs.declared.stop.OutOfMemory.{OutOfMemory}
use Rattle.ec_language.specs.First.{Violation}
use Rattle.ec_typing_defs.specs.Worlds.{World, Out, Rule, chain, pure, ask, change}
use Rattle.ec_scopes.specs.declared.state.Checker.{Checker}
use Rattle.ec_scopes.specs.Seen.{world_of, notes_of, noted, noted_one, IsDone}

-- what the first of two lists leaves, the second goes on with
pub noted-append : (vs ws : List Violation) (n : Option Violation) → noted (vs ++ ws) n ≡ noted ws (noted vs n)
noted-append [] ws n = refl
noted-append (v ∷ vs) ws n = noted-append vs ws (noted_one v n)

-- first one, then the other
pub then_done : {A B : Type 0} (m : Rule A) (f : A → Rule B) {old mid new : Checker} {x : A} {y : B} → IsDone (m (world_of old)) old mid x → IsDone (f x (world_of mid)) mid new y → IsDone (chain m f (world_of old)) old new y
unfolding chain
then_done m f {old} p q = record {
  answer_is = q.answer_is ∙ (λ i. (f (p.answer_is i) (p.world_is i)).answer);
  world_is = q.world_is ∙ (λ i. (f (p.answer_is i) (p.world_is i)).world);
  notes_is = q.notes_is ∙ (λ i. noted (f (p.answer_is i) (p.world_is i)).found (p.notes_is i))
      ∙ sym (noted-append (m (world_of old)).found (f (m (world_of old)).answer (m (world_of old)).world).found (notes_of old));
}

pub pure_done : {A : Type 0} {x y : A} {old : Checker} → y ≡ x → IsDone (pure x (world_of old)) old old y
unfolding pure
pure_done e = record { answer_is = e; world_is = refl; notes_is = refl }

-- what is known is looked at, and then it goes on with what is seen
pub ask_then : {A B : Type 0} (g : World → A) (f : A → Rule B) {old new : Checker} {x : A} {y : B} → x ≡ g (world_of old) → IsDone (f x (world_of old)) old new y → IsDone (chain (ask g) f (world_of old)) old new y
unfolding ask
ask_then g f e q = then_done (ask g) f (record { answer_is = e; world_is = refl; notes_is = refl }) q

pub change_done : (g : World → World) {old new : Checker} → world_of new ≡ g (world_of old) → notes_of new ≡ notes_of old → IsDone (change g (world_of old)) old new tt
unfolding change
change_done g e n = record { answer_is = refl; world_is = e; notes_is = n }

-- What is left to do makes the whole: its answer is `f` of what is left, and it leads to the same.
pub record Goes {A B : Type 0} (whole : Out A) (old : Option Violation) (rest : Out B) (now : Option Violation) (f : B → A) : Type 0 where
  pub answer_is : whole.answer ≡ f rest.answer
  pub world_is : whole.world ≡ rest.world
  pub notes_is : noted whole.found old ≡ noted rest.found now

-- the same, of an equal rest
pub goes_from : {A B : Type 0} {whole : Out A} {old : Option Violation} {rest rest' : Out B} {now : Option Violation} {f : B → A} → rest ≡ rest' → Goes whole old rest now f → Goes whole old rest' now f
goes_from {now} {f} e g = record { answer_is = g.answer_is ∙ (λ i. f (e i).answer); world_is = g.world_is ∙ (λ i. (e i).world); notes_is = g.notes_is ∙ (λ i. noted (e i).found now) }

pub goes_as : {A B : Type 0} {whole : Out A} {old : Option Violation} (rest : Out B) {now : Option Violation} (f h : B → A) → ((b : B) → f b ≡ h b) → Goes whole old rest now f → Goes whole old rest now h
goes_as rest f h e g = record { answer_is = g.answer_is ∙ e rest.answer; world_is = g.world_is; notes_is = g.notes_is }

-- what is left is one step, and then the rest
pub goes_step : {A B C : Type 0} {whole : Out C} {old : Option Violation} (m : Rule A) (f : A → Rule B) (g : B → C) {now next : Checker} {x : A} → Goes whole old (chain m f (world_of now)) (notes_of now) g → IsDone (m (world_of now)) now next x → Goes whole old (f x (world_of next)) (notes_of next) g
unfolding chain
goes_step m f g {now} l p = record {
  answer_is = l.answer_is ∙ (λ i. g (f (sym p.answer_is i) (sym p.world_is i)).answer);
  world_is = l.world_is ∙ (λ i. (f (sym p.answer_is i) (sym p.world_is i)).world);
  notes_is = l.notes_is ∙ noted-append (m (world_of now)).found (f (m (world_of now)).answer (m (world_of now)).world).found (notes_of now) ∙ (λ i. noted (f (sym p.answer_is i) (sym p.world_is i)).found (sym p.notes_is i));
}

-- what is left is one step, the rest, and then an answer made of both
pub goes_gather : {A B C D : Type 0} {whole : Out D} {old : Option Violation} (m : Rule A) (r : A → Rule B) (k : A → B → C) (g : C → D) {now next : Checker} {x : A}
    → Goes whole old (chain m (λ a. chain (r a) (λ b. pure (k a b))) (world_of now)) (notes_of now) g → IsDone (m (world_of now)) now next x → Goes whole old (r x (world_of next)) (notes_of next) (λ b. g (k x b))
unfolding chain pure
goes_gather m r k g {now} {next} {x} l p =
    let s : Goes _ _ (chain (r x) (λ b. pure (k x b)) (world_of next)) (notes_of next) g = goes_step m (λ a. chain (r a) (λ b. pure (k a b))) g l p in
    record { answer_is = s.answer_is; world_is = s.world_is; notes_is = s.notes_is ∙ noted-append (r x (world_of next)).found [] (notes_of next) }

pub goes_same : {A : Type 0} {o o' : Out A} {now : Option Violation} → o ≡ o' → Goes o now o' now (λ a. a)
goes_same {now} e = record { answer_is = λ i. (e i).answer; world_is = λ i. (e i).world; notes_is = λ i. noted (e i).found now }

-- the same of equal things
pub done_as : {A : Type 0} {o o' : Out A} {old now now' : Checker} {n n' : A} → o ≡ o' → now' ≡ now → n' ≡ n → IsDone o old now n → IsDone o' old now' n'
done_as {old} e s a h = record {
  answer_is = a ∙ h.answer_is ∙ (λ i. (e i).answer);
  world_is = ap world_of s ∙ h.world_is ∙ (λ i. (e i).world);
  notes_is = ap notes_of s ∙ h.notes_is ∙ (λ i. noted (e i).found (notes_of old));
}

-- the same where the last step may run out of memory
pub then_if : {A B C : Type 0} (m : Rule A) (f : A → Rule B) {old mid : Checker} (new : Checker) {x : A} (view : C → B) (r : Result C OutOfMemory)
    → IsDone (m (world_of old)) old mid x → IfOk r (λ y. IsDone (f x (world_of mid)) mid new (view y)) → IfOk r (λ y. IsDone (chain m f (world_of old)) old new (view y))
then_if m f new view (Ok y) p q = then_done m f p q
then_if m f new view (Err e) p q = q

pub ruleset noting = (noted-append)
