-- At the start of a program all that is asked is known.
use Rattle.std.proofs.Common.{◌≡◌, ◌∙◌, zero, suc, Bool, List, refl, sym, ap, subst, arith}
use Rattle.ec_ctypes.specs.trees.Units.{UnitData}
use Rattle.ec_typing_defs.specs.Expressions.{Members}
use Rattle.ec_typing_defs.specs.Programs.{start}
use Rattle.ec_typing_defs.specs.Worlds.{MembersData, unlisted, begun, listed, StructInfo}
use Rattle.ec_resolving_defs.specs.Programs.{no_storage}
use Rattle.ec_sim_world_laws.proofs.closing_lemmas.Lists.{some_is}
use Rattle.ec_sim_program_laws.proofs.types_lemmas.Structs.{GoodStruct, GoodStructs}
use Rattle.ec_sound_defs.specs.Sound.{Signature}
use Rattle.ec_sound_expression_laws.proofs.Basics.{none_not}
use Rattle.ec_sound_program_laws.specs.Standing.{IsKnown}

listed_is : {ms ns : Members} → listed ms ≡ listed ns → ms ≡ ns
listed_is {ms} {ns} e = λ j. members_or (e j)
  where
    members_or : MembersData → Members
    members_or unlisted = ms
    members_or begun = ms
    members_or (listed os) = os

-- this struct and no other
same_struct : (ss : List StructInfo) (info other : StructInfo) (ms ns : Members) → info ≡ other → info.members ≡ listed ms → other.members ≡ listed ns → GoodStruct ss info ms → GoodStruct ss other ns
same_struct ss info other ms ns same are also h = subst (λ xs. GoodStruct ss other xs) (listed_is (sym are ∙ ap (λ s. s.members) same ∙ also)) (subst (λ s. GoodStruct ss s ms) same h)

-- the structs of sqlca
starts_good : (b : Bool) (u : UnitData) → GoodStructs (start b u).structs
starts_good b u zero info ms is are = same_struct (start b u).structs _ info _ ms (some_is is) refl are (record { good = ((tt, omega arith), ((tt, omega arith), tt)); first = refl; shape = record { shape = _; is = refl } })
starts_good b u (suc zero) info ms is are = same_struct (start b u).structs _ info _ ms (some_is is) refl are (record {
  good = ((tt, omega arith), ((tt, omega arith), ((tt, omega arith), ((refl, omega arith), ((tt, omega arith), ((tt, omega arith), ((tt, omega arith), ((tt, omega arith), tt))))))));
  first = refl;
  shape = record { shape = _; is = refl };
})
starts_good b u (suc (suc k)) info ms is are = none_not is

pub start_is_known : (gs : List Signature) (b : Bool) (u : UnitData) → IsKnown gs b (no_storage u) (start b u)
start_is_known gs b u = record {
  good = record { is_written = refl; sound = record { here = λ x entry e. none_not e; outer = tt; structs = starts_good b u }; free = λ name entry e. none_not e };
  defined = refl;
  standing = record { here = λ x entry e. none_not e; outer = tt; sites = refl };
}
