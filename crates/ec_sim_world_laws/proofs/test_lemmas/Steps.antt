-- Rules that find this, with no fault, from what is known here.
use Rattle.std.proofs.Common.{◌≡◌, ◌∙◌, [], ◌++◌}
use Rattle.ec_typing_defs.specs.Worlds as checked
use Rattle.ec_typing_defs.specs.Worlds.{World, Rule, out, left}
use Rattle.ec_resolving_defs.specs.Storage.{Storage, Resolving, reached, followed, beside, chain, pure, checks, ask}
use Rattle.ec_resolving_defs.specs.Statements.{scoped}

pub then_is : {A B : Type 0} (m : Rule A) (f : A → Rule B) {z y x : World} {a : A} {b : B} → m z ≡ out a [] y → f a y ≡ out b [] x → checked.chain m f z ≡ out b [] x
unfolding checked.chain
then_is m f p q = (λ i. checked.followed (p i) f) ∙ (λ i. out (q i).answer ([] ++ (q i).found) (q i).world)

pub then_finds : {A B : Type 0} (m : Resolving A) (f : A → Resolving B) {s t u : Storage} {z y x : World} {a : A} {b : B} → m s z ≡ reached a t y → f a t y ≡ reached b u x → chain m f s z ≡ reached b u x
unfolding chain
then_finds m f p q = (λ i. followed (p i) f) ∙ q

-- what the checks find
pub checks_is : {A : Type 0} (m : Rule A) (s : Storage) {z y : World} {a : A} → m z ≡ out a [] y → checks m s z ≡ reached a s y
unfolding checks
checks_is m s p = λ i. beside s (p i)

pub ask_is : {A : Type 0} (g : World → A) (s : Storage) (z : World) {a : A} → g z ≡ a → ask g s z ≡ reached a s z
unfolding ask
ask_is g s z p = λ i. reached (p i) s z

pub check_ask_is : {A : Type 0} (g : World → A) (z : World) {a : A} → g z ≡ a → checked.ask g z ≡ out a [] z
unfolding checked.ask
check_ask_is g z p = λ i. out (p i) [] z

-- ---- scopes

pub scoped_is : (m : Rule (Unit {0})) {z y : World} → m (checked.entered z) ≡ out tt [] y → checked.scoped m z ≡ out tt [] (left y)
unfolding checked.chain checked.enter checked.leave checked.change
scoped_is m p = (λ i. out tt ([] ++ ((p i).found ++ [])) (left (p i).world))

pub scoped_finds : {A : Type 0} (m : Resolving A) {s t : Storage} {z y : World} {a : A} → m s (checked.entered z) ≡ reached a t y → scoped m s z ≡ reached a t (left y)
unfolding chain pure checks checked.enter checked.leave checked.change
scoped_finds m p = λ i. reached (p i).answer (p i).storage (left (p i).world)
