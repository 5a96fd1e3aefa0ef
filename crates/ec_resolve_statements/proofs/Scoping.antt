-- What stands in a scope or in a block of its own.
use Rattle.std.proofs.Common.{◌≡◌, ◌∙◌, ℕ, List, [], Option, Some, sym, ap}
use Rattle.ec_ctypes.specs.trees.Stmts.{StmtList}
use Rattle.ec_ctypes.specs.trees.Types.{TyData}
use Rattle.ec_resolve_forms.specs.declared.resolver.Resolver.{Resolver}
use Rattle.ec_resolve_forms.specs.Seen.{from, mapped, IsReached}
use Rattle.ec_resolve_forms.proofs.Following.{reached_as}
use Rattle.ec_resolving_defs.specs.Programs.{Body, body_rule, in_body}
use Rattle.ec_resolving_defs.specs.Statements.{scoped, objects_in_all, statements}
use Rattle.ec_resolving_defs.specs.Storage.{BlockObjects, Reached, Resolving, chain, pure, checks, stored, arrange, in_block, inside_block, back_in_block}
use Rattle.ec_scopes.specs.Seen.{world_of, IsDone}
use Rattle.ec_resolve_values.specs.storage.Stored.{storage_of}
use Rattle.ec_typing_defs.specs.Statements.{labels_in_all}
use Rattle.ec_typing_defs.specs.Tables.{Named}
use Rattle.ec_typing_defs.specs.Worlds.{change, enter, leave}
use Rattle.ec_meaning_defs.specs.resolved.Resolved.{Stms}

-- a scope is left
abbrev behind_scope : {A : Type 0} → Reached A → Reached A
behind_scope r = record { answer = r.answer; storage = r.storage; world = (leave r.world).world }

-- a rule was followed in a scope of its own
pub scoped_reached : {A : Type 0} (m : Resolving A) (old mid last new : Resolver) {x : A}
    → IsDone (enter (world_of old.checker)) old.checker mid.checker tt → storage_of mid.storage ≡ storage_of old.storage
    → IsReached (from m mid) last x
    → IsDone (leave (world_of last.checker)) last.checker new.checker tt → storage_of new.storage ≡ storage_of last.storage
    → IsReached (from (scoped m) old) new x
unfolding chain pure checks
scoped_reached m old mid last new e s p l t =
    let whole : from (scoped m) old ≡ behind_scope (from m mid) = λ i. behind_scope (m (sym s i) (sym e.world_is i)) in
    reached_as (sym whole) (record { answer_is = p.answer_is; storage_is = t ∙ p.storage_is; world_is = l.world_is ∙ ap (λ w. (leave w).world) p.world_is })

-- a block is left
abbrev behind_block : {A : Type 0} → BlockObjects → Reached A → Reached (List ℕ × A)
behind_block outer r = record { answer = (r.storage.block.sizes, r.answer); storage = back_in_block outer r.storage; world = r.world }

-- a rule was followed in a block of its own
pub block_reached : {A : Type 0} (n count : ℕ) (m : Resolving A) (old mid last new : Resolver) {x : A} {outer : BlockObjects} {sizes : List ℕ}
    → count ≡ n
    → storage_of mid.storage ≡ inside_block count (storage_of old.storage) → world_of mid.checker ≡ world_of old.checker
    → outer ≡ (storage_of old.storage).block
    → IsReached (from m mid) last x
    → storage_of new.storage ≡ back_in_block outer (storage_of last.storage) → world_of new.checker ≡ world_of last.checker
    → sizes ≡ (storage_of last.storage).block.sizes
    → IsReached (from (in_block n m) old) new (sizes, x)
unfolding chain pure stored arrange
block_reached n count m old mid last new {x} {outer} {sizes} same inside w round p back v are =
    let enters : storage_of mid.storage ≡ inside_block n (storage_of old.storage) = inside ∙ ap (λ k. inside_block k (storage_of old.storage)) same in
    let whole : from (in_block n m) old ≡ behind_block outer (from m mid) = λ i. behind_block (sym round i) (m (sym enters i) (sym w i)) in
    let own = are ∙ ap (λ s. s.block.sizes) p.storage_is in
    reached_as (sym whole) (record { answer_is = λ i. (own i, p.answer_is i); storage_is = back ∙ ap (back_in_block outer) p.storage_is; world_is = v ∙ p.world_is })

-- what a rule finds is made into something else
pub made_reached : {A B : Type 0} (m : Resolving A) (f : A → B) (old : Resolver) {new : Resolver} {x : A} {y : B} → IsReached (from m old) new x → y ≡ f x → IsReached (from (chain m (λ a. pure (f a))) old) new y
unfolding chain pure
made_reached m f old p e = record { answer_is = e ∙ ap f p.answer_is; storage_is = p.storage_is; world_is = p.world_is }

abbrev some_body : List ℕ × Stms → Body
some_body b = Some b

-- a body was resolved, with the labels that stand in it
pub body_reached : (r : Option TyData) (ss : StmtList) (labels : Named (Unit {0})) (old mid : Resolver) {new : Resolver} {b : List ℕ × Stms}
    → labels ≡ labels_in_all ss []
    → IsDone (change (λ w. record w { labels = [] }) (world_of old.checker)) old.checker mid.checker tt → storage_of mid.storage ≡ storage_of old.storage
    → IsReached (from (in_block (objects_in_all ss) (statements (record { embs = []; labels = labels; result = r }) ss)) mid) new b
    → IsReached (from (body_rule [] r (Some ss)) old) new (Some b)
unfolding chain pure checks
body_reached r ss labels old mid {new} {b} same d s p =
    let n = objects_in_all ss in
    let m : Resolving (List ℕ × Stms) = in_block n (statements (in_body [] r ss) ss) in
    let whole : from (body_rule [] r (Some ss)) old ≡ mapped some_body (from (in_block n (statements (record { embs = []; labels = labels; result = r }) ss)) mid) =
    (λ i. mapped some_body (m (sym s i) (sym d.world_is i))) ∙ (λ i. mapped some_body (from (in_block n (statements (record { embs = []; labels = sym same i; result = r }) ss)) mid)) in
    reached_as (sym whole) (record { answer_is = ap some_body p.answer_is; storage_is = p.storage_is; world_is = p.world_is })
