-- An int is made with its value before the others are made.
use Rattle.std.proofs.Common.{◌≡◌, ◌∙◌, ap, subst, sym, map, pos, rules, Ok, suc, ◌-◌, [], ◌∷◌, length, take, drop}
use Rattle.std.specs.Int.{w32}
use mir.Val.{SFits, of_z, to_z}
use Rattle.ec_memory.specs.Room.{HasRoom, int_cells}
use Rattle.ec_memory_defs.specs.declared.kind.Kind.TheVariants as kind
use Rattle.ec_memory_defs.specs.Memory.{number, with_object}
use Rattle.ec_plain.specs.Answered.{at, scope_view}
use Rattle.ec_values.specs.Words.{word_view}
use Rattle.ec_values.specs.declared.word.Word.TheVariants as word
use Rattle.ec_machine.specs.Arguments.{with_arguments}
use Rattle.ec_machine.specs.Frames.{objects_of}
use Rattle.ec_machine.proofs.Arguments.{next_int, next_room}
use Rattle.ec_machine.proofs.Moves.{grown_on, scope_push}
use Rattle.ec_machine.proofs.Parts.{front_any}
use Rattle.ec_machine.proofs.making.make_ints.Goals as goal

pub loop-kinds-preserved : goal.loop-kinds-preserved
loop-kinds-preserved c =
    let line = c.args.line.0 in
    let kinds = c.loop-kinds.kinds.now in
    let values = c.loop-kinds.values.now in
    let more = take (length kinds - 1) (drop 1 kinds) in
    let others = take (length values - 1) (drop 1 values) in
    let z = c.in-Some.number in
    let m = c.in-Ok.ensures.made in
    let fits : SFits w32 z = search rules in
    let back : to_z w32 (of_z w32 z) ≡ z = search rules in
    let made : with_object c.loop-kinds.store (int_cells z) ≡ Ok (m.pointer.0, c.make_int.new.store) = ap (λ y. with_object c.loop-kinds.store (int_cells y)) (sym back) ∙ m.made in
    let first : kinds ≡ kind.Int ∷ more = front_any kinds kind.Bool c.in-len1-up.len_at_least ∙ ap (λ k. k ∷ more) c.in-Some.ensures.int in
    let value : map word_view values ≡ number z ∷ map word_view others = ap (map word_view) (front_any values (word.Signed (pos 0)) c.in-len1-up-values.len_at_least ∙ ap (λ v. v ∷ others) c.in-Some.ensures.signed) in
    let room : HasRoom c.loop-kinds.store (suc (length more)) = subst (λ k. HasRoom c.loop-kinds.store (length k)) first c.loop-kinds.invariant.room in
    record {
      room = next_room z (length more) c.loop-kinds.store c.make_int.new.store m.pointer.0 made room;
      made = λ s go.
          c.loop-kinds.invariant.made s go
          ∙ (λ i. with_arguments line (first i) (value i) (scope_view (objects_of c.loop-kinds.scope)) (at s c.loop-kinds.store) go)
          ∙ next_int line s go z more (map word_view others) c.loop-kinds.store c.make_int.new.store m.pointer.0 (scope_view (objects_of c.loop-kinds.scope)) made room
          ∙ ap (λ os. with_arguments line more (map word_view others) os (at s c.make_int.new.store) go) (sym (scope_push c.loop-kinds.scope c.make_int.new.scope m.pointer m.put));
      grown = grown_on c.args.scope.now.pointers c.loop-kinds.scope.pointers c.make_int.new.scope.pointers c.loop-kinds.invariant.grown (m.pointer ∷ [], ap (λ x. x.pointers) m.put);
    }
