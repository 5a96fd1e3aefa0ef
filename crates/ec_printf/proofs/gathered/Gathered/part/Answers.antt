use Rattle.std.proofs.Common.{◌≡◌, ◌∙◌, [], ◌∷◌, ◌++◌, map, ap, sym, append_assoc}
use Rattle.std.proofs.lemmas.List.{map-append}
use Rattle.ec_printf.specs.formats.Known.{part_view}
use Rattle.ec_printf.specs.Gathering.{front_of, plain_before}
use Rattle.ec_printf.proofs.Joining.{directive_behind}
use Rattle.ec_printf.proofs.gathered.Gathered.part.Goals as goal

pub returns : goal.returns
returns c = λ ps.
    let d = part_view c.args.part in
    let old = c.args.self.now in
    let pushed : c.push.new.self ≡ c.end_plain.new.self.parts ++ c.args.part ∷ [] = (rw c.in_ok-part.ensures.same at c.in_ok-push.ensures.ok) in
    let ended : map part_view c.end_plain.new.self.parts ≡ front_of old = (rw c.in_ok-part.ensures.value at c.end_plain.ensures.same) in
    let emptied : c.end_plain.new.self.plain ≡ [] = (rw c.in_ok-part.ensures.value at c.end_plain.ensures.none) in
    let all : map part_view c.push.new.self ≡ front_of old ++ d ∷ [] =
    ap (map part_view) pushed ∙ map-append part_view c.end_plain.new.self.parts (c.args.part ∷ []) ∙ ap (λ xs. xs ++ d ∷ []) ended in
    (λ i. all i ++ plain_before (emptied i) ps)
    ∙ append_assoc (front_of old) (d ∷ []) ps
    ∙ append_assoc (map part_view old.parts) (plain_before old.plain []) (d ∷ ps)
    ∙ ap (λ xs. map part_view old.parts ++ xs) (sym (directive_behind old.plain d ps c.requires))
