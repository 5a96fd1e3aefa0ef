-- How functions that reach what rules say are put together.
use Rattle.std.proofs.Common.{◌≡◌, ◌∙◌, sym}
use Rattle.ec_resolving_defs.specs.Storage.{Reached, Resolving, chain, pure}
use Rattle.ec_resolve_forms.specs.declared.resolver.Resolver.{Resolver}
use Rattle.ec_resolve_forms.specs.Seen.{from, mapped, IsReached}

-- one rule was followed, and the next is left
pub follow : {A B : Type 0} (m : Resolving A) (k : A → Resolving B) (old : Resolver) {new : Resolver} {x : A} → IsReached (from m old) new x → from (chain m k) old ≡ from (k x) new
unfolding chain
follow m k old p = λ i. k (sym p.answer_is i) (sym p.storage_is i) (sym p.world_is i)

-- the same, where an answer is made of both
pub gather : {A B C : Type 0} (m : Resolving A) (k : A → Resolving B) (h : A → B → C) (old : Resolver) {new : Resolver} {x : A} → IsReached (from m old) new x
    → from (chain m (λ a. chain (k a) (λ b. pure (h a b)))) old ≡ mapped (h x) (from (k x) new)
unfolding chain pure
gather m k h old p = follow m (λ a. chain (k a) (λ b. pure (h a b))) old p

-- first one, then the other
pub then_reached : {A B : Type 0} (m : Resolving A) (k : A → Resolving B) (old : Resolver) {mid new : Resolver} {x : A} {y : B} → IsReached (from m old) mid x → IsReached (from (k x) mid) new y → IsReached (from (chain m k) old) new y
then_reached m k old p q =
    let e = sym (follow m k old p) in
    record { answer_is = q.answer_is ∙ (λ i. (e i).answer); storage_is = q.storage_is ∙ (λ i. (e i).storage); world_is = q.world_is ∙ (λ i. (e i).world) }

-- what is reached, of an equal rule
pub reached_as : {A : Type 0} {r r' : Reached A} {new : Resolver} {x : A} → r ≡ r' → IsReached r new x → IsReached r' new x
reached_as e q = record { answer_is = q.answer_is ∙ (λ i. (e i).answer); storage_is = q.storage_is ∙ (λ i. (e i).storage); world_is = q.world_is ∙ (λ i. (e i).world) }
