use Rattle.std.proofs.Common.{refl}
use Rattle.ec_language.specs.First.{first_of}
use Rattle.ec_typing_defs.specs.Answers.{violations, checked}
use Rattle.ec_typing_defs.proofs.First.{refused_first, typed_without}
use Rattle.ec_typing_defs.proofs.laws.answers_are_first.Goals as goal

pub returns : goal.returns
returns c = record {
  refused = λ written u hosts handlers stop q. refused_first c.first_is_first.ensures.some c.first_is_first.ensures.none u hosts handlers (checked written u).world (violations written u) (first_of (violations written u)) stop refl q;
  typed = λ written u hosts handlers typed q. typed_without c.first_is_first.ensures.some c.first_is_first.ensures.none u hosts handlers (checked written u).world (violations written u) (first_of (violations written u)) typed refl q;
}
