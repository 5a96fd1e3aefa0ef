use Rattle.std.proofs.Common.{◌≡◌, ◌≤◌, ℕ, ◌+◌, ◌-◌, List, ◌++◌, length, take, drop, min, sym, ap, ◌∙◌, arith, length-drop, drop_of_length-le, take-append-drop}
use Rattle.std.proofs.lemmas.List.{take_at, take_rest, drop-drop, length-take-le}
use Rattle.ec_base.proofs.mem_source.MemSourceSource.read.Goals as goal

-- what goes to the front of the buffer is gone from the bytes that are left
moves_front : (bytes rest : List ℕ) (given count : ℕ) → count ≤ length bytes - given
    → drop given bytes ≡ take count (take count (drop given bytes) ++ rest) ++ drop (given + count) bytes
moves_front bytes rest given count h =
    let left = drop given bytes in
    let long : length (take count left) ≡ count = length-take-le count left (omega (arith, length-drop given bytes)) in
    sym (take-append-drop count left) ∙ ap (λ l. l ++ drop count left) (sym (take_at (take count left) rest count long))
    ∙ ap (λ l. take count (take count left ++ rest) ++ l) (drop-drop count given bytes)

pub returns-clause-bytes : goal.returns-clause-bytes
returns-clause-bytes c =
    let bytes = c.self.inside.bytes in
    let given = c.self.inside.given in
    let count = c.min-count.result in
    let buf = c.args.buf.now in
    let whole : take (length c.as_slice.result.now - given) (drop given c.as_slice.result.now) ≡ drop given bytes =
    take_rest c.as_slice.result.now given ∙ ap (drop given) c.as_slice.ensures in
    let front : c.copy_from_slice.new.self ≡ take count (drop given bytes) = c.copy_from_slice.ensures.after ∙ ap (take count) whole in
    let amount : count ≡ min c.self.inside.chunk (min (length buf) (length bytes - given)) =
    c.min-count.ensures ∙ ap (min c.self.inside.chunk) (c.min.ensures ∙ ap (λ l. min (length buf) (length l)) whole ∙ ap (min (length buf)) (length-drop given bytes)) in (
      sym (ap (λ s. s.left) c.self.view_is) ∙ moves_front bytes (drop count buf) given count (omega arith)
          ∙ ap (λ l. take count (l ++ drop count buf) ++ drop (given + count) bytes) (sym front),
      λ none room. drop_of_length-le bytes (omega arith),
    )
