use Rattle.std.proofs.Common.{refl}
use Rattle.ec_sound_defs.specs.Sound.{no_atoms}
use Rattle.ec_sound_form_laws.proofs.Answered.{value_tells, address_tells, target_tells, sign_tells, binary_tells, index_tells, assign_tells, compound_tells, bump_tells, cast_tells}
use Rattle.ec_sound_form_laws.proofs.Found.{value_is, address_is, target_is, sign_is, both_is, index_is, set_is, compounded_is, bump_is, cast_fits, alone_is}
use Rattle.ec_sound_form_laws.proofs.laws.operands_fit.Goals as goal

pub returns-clause-values : goal.returns-clause-values
returns-clause-values c = λ gs n w at f h none. value_is gs no_atoms n f h _ ((value_tells w at f.operand h.type h.is).tells none)

pub returns-clause-addresses : goal.returns-clause-addresses
returns-clause-addresses c = λ gs n w at f h none. let t = (address_tells w at f.operand h.type h.is).tells none in address_is gs no_atoms n f h _ t.0 t.1

pub returns-clause-targets : goal.returns-clause-targets
returns-clause-targets c = λ gs n w at f h none. target_is gs no_atoms n f h _ ((target_tells w at f.operand h.type h.is).tells none)

pub returns-clause-signs : goal.returns-clause-signs
returns-clause-signs c = λ gs n w at op f g h none. sign_is gs no_atoms n op f h _ g ((sign_tells w at op f.operand h.type h.is).tells none)

pub returns-clause-binaries : goal.returns-clause-binaries
returns-clause-binaries c = λ gs n w at op a b h g none. both_is gs no_atoms n w op a b h g _ ((binary_tells w at op a.operand b.operand h.type g.type h.is g.is).tells none)

pub returns-clause-elements : goal.returns-clause-elements
returns-clause-elements c = λ gs n w at a b h g none. index_is gs no_atoms n w a b h g _ ((index_tells w at a.operand b.operand h.type g.type h.is g.is).tells none)

pub returns-clause-assignments : goal.returns-clause-assignments
returns-clause-assignments c = λ gs n w at a b h g none. set_is gs no_atoms n w a b h g _ ((assign_tells w at a.operand b.operand h.type g.type h.is g.is).tells none)

pub returns-clause-compounds : goal.returns-clause-compounds
returns-clause-compounds c = λ gs n w at op a b q h g none. compounded_is gs no_atoms n w op a b h g _ q ((compound_tells w at op a.operand b.operand h.type g.type h.is g.is).tells none)

pub returns-clause-counters : goal.returns-clause-counters
returns-clause-counters c = λ gs n w at before up f h none. bump_is gs no_atoms n w before up f h _ ((bump_tells w at f.operand h.type h.is).tells none)

pub returns-clause-casts : goal.returns-clause-casts
returns-clause-casts c = λ gs n w at s f h none. cast_fits gs no_atoms n w f h s _ ((cast_tells w at _ f.operand s h.type refl h.is).tells none)

pub returns-clause-unused : goal.returns-clause-unused
returns-clause-unused c = λ gs n w e f h. alone_is gs no_atoms n w e f h
