use Rattle.std.proofs.Common.{◌≡◌, ℕ, ◌+◌, ◌≤◌, ◌∙◌, ap, arith, length, replicate, subst, sym}
use Rattle.std.proofs.lemmas.List.{length-replicate, length_push}
use Rattle.ec_meaning_defs.specs.resolved.Programs.{literal_bytes}
use Rattle.ec_interp.specs.opening.Filling.{IsLast}
use Rattle.ec_interp.proofs.opening_lemmas.Making.{last_zeros, opens_one}
use Rattle.ec_interp.proofs.opening_lemmas.Putting.{literal_written}
use Rattle.ec_interp.proofs.opening.opening.open_literal.Goals as goal

pub returns-in-Ok-clause-opens : goal.returns-in-Ok-clause-opens
returns-in-Ok-clause-opens c =
    let old = c.args.store.now in
    let l = c.args.literal.now in
    let b = c.bytes-bytes.result.now in
    let p = c.in-Ok.object.0 in
    let zeros = last_zeros old c.make_zeroed.new.self p (length b + 1) c.in-Ok.ensures.ok in
    let fits : 0 + length b ≤ length (replicate (length b + 1) 0) = omega (arith, length-replicate {A = ℕ} (length b + 1) 0) in
    let last : IsLast c.put_part.new.store p old (literal_bytes l) =
    subst (IsLast c.put_part.new.store p old) (literal_written b ∙ ap literal_bytes c.bytes-bytes.ensures.value) (c.put_part.ensures old (replicate (length b + 1) 0) zeros fits) in
    let sized : length (literal_bytes l) ≡ length b + 1 = ap (λ x. length (literal_bytes x)) (sym c.bytes-bytes.ensures.value) ∙ length_push b 0 in
    opens_one old c.make_zeroed.new.self p (length b + 1) c.in-Ok.ensures.ok c.put_part.new.store (literal_bytes l) sized last

pub returns-in-Ok-clause-objects : goal.returns-in-Ok-clause-objects
returns-in-Ok-clause-objects c =
    let old = c.args.store.now in
    let l = c.args.literal.now in
    let b = c.bytes-bytes.result.now in
    let p = c.in-Ok.object.0 in
    let zeros = last_zeros old c.make_zeroed.new.self p (length b + 1) c.in-Ok.ensures.ok in
    let fits : 0 + length b ≤ length (replicate (length b + 1) 0) = omega (arith, length-replicate {A = ℕ} (length b + 1) 0) in
    let last : IsLast c.put_part.new.store p old (literal_bytes l) =
    subst (IsLast c.put_part.new.store p old) (literal_written b ∙ ap literal_bytes c.bytes-bytes.ensures.value) (c.put_part.ensures old (replicate (length b + 1) 0) zeros fits) in
    last.memory
