use Rattle.std.proofs.Common.{◌≡◌, ◌∙◌, ap, ℕ, length, map, replicate, subst, sym}
use Rattle.std.proofs.lemmas.List.{length-replicate}
use Rattle.ec_code.specs.Objects.{AreInside, stored_view}
use Rattle.ec_meaning_defs.specs.resolved.Programs.{global_bytes, with_values}
use Rattle.ec_interp.specs.opening.Filling.{IsLast}
use Rattle.ec_interp.proofs.opening_lemmas.Making.{last_zeros, opens_one, stopped_one}
use Rattle.ec_interp.proofs.opening_lemmas.Putting.{length_values}
use Rattle.ec_interp.proofs.opening.opening.open_global.Goals as goal

pub returns-in-Ok-clause-opens : goal.returns-in-Ok-clause-opens
returns-in-Ok-clause-opens c =
    let old = c.args.store.now in
    let g = c.args.global.now in
    let p = c.in-Ok.object.0 in
    let n = c.size-size.result in
    let zeros = last_zeros old c.make_zeroed.new.self p n c.in-Ok.ensures.ok in
    let same : with_values (replicate n 0) (map stored_view c.values-parts.result.now) ≡ global_bytes g = λ i. with_values (replicate (c.size-size.ensures.value i) 0) (c.values-parts.ensures.values i) in
    let last : IsLast c.put_parts.new.store p old (global_bytes g) =
    subst (IsLast c.put_parts.new.store p old) same (c.put_parts.ensures old (replicate n 0) zeros (length-replicate {A = ℕ} n 0)) in
    let inside = subst (λ k. AreInside k c.values-parts.result.now) (sym c.size-size.ensures.value) c.values-parts.ensures.inside in
    let sized : length (global_bytes g) ≡ n = ap length (sym same) ∙ length_values n c.values-parts.result.now (replicate n 0) (length-replicate {A = ℕ} n 0) inside in
    opens_one old c.make_zeroed.new.self p n c.in-Ok.ensures.ok c.put_parts.new.store (global_bytes g) sized last

pub returns-in-Ok-clause-objects : goal.returns-in-Ok-clause-objects
returns-in-Ok-clause-objects c =
    let old = c.args.store.now in
    let g = c.args.global.now in
    let p = c.in-Ok.object.0 in
    let n = c.size-size.result in
    let zeros = last_zeros old c.make_zeroed.new.self p n c.in-Ok.ensures.ok in
    let same : with_values (replicate n 0) (map stored_view c.values-parts.result.now) ≡ global_bytes g = λ i. with_values (replicate (c.size-size.ensures.value i) 0) (c.values-parts.ensures.values i) in
    let last : IsLast c.put_parts.new.store p old (global_bytes g) =
    subst (IsLast c.put_parts.new.store p old) same (c.put_parts.ensures old (replicate n 0) zeros (length-replicate {A = ℕ} n 0)) in
    last.memory

pub returns-in-Err-clause-opens : goal.returns-in-Err-clause-opens
returns-in-Err-clause-opens c =
    let old = c.args.store.now in
    let g = c.args.global.now in
    let n = c.size-size.result in
    let same : with_values (replicate n 0) (map stored_view c.values-parts.result.now) ≡ global_bytes g = λ i. with_values (replicate (c.size-size.ensures.value i) 0) (c.values-parts.ensures.values i) in
    let inside = subst (λ k. AreInside k c.values-parts.result.now) (sym c.size-size.ensures.value) c.values-parts.ensures.inside in
    let sized : length (global_bytes g) ≡ n = ap length (sym same) ∙ length_values n c.values-parts.result.now (replicate n 0) (length-replicate {A = ℕ} n 0) inside in
    stopped_one c.make_zeroed.result c.in-Err.why old c.make_zeroed.new.self (global_bytes g) n c.in-Err.is sized c.make_zeroed.ensures.spent c.in-Err.ensures.unchanged
