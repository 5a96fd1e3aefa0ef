-- What holds of the tables at the start, and so behind a whole program.
use Rattle.std.proofs.Common.{◌≡◌, ◌∙◌, ℕ, zero, suc, Bool, true, false, [], Some, refl, subst}
use Rattle.std.specs.Prelude.{slice_get}
use Rattle.ec_ctypes.specs.trees.Units.{UnitData}
use Rattle.ec_written_laws.specs.source.SourceShape.{is_source_shape}
use Rattle.ec_typing_defs.specs.Answers.{checked, violations}
use Rattle.ec_typing_defs.specs.Worlds.{listed, StructInfo, is_within}
use Rattle.ec_typing_defs.specs.Expressions.{Members}
use Rattle.ec_typing_defs.specs.Programs.{start}
use Rattle.ec_sim_world_laws.specs.closing.Closing.{members_at, HaveTypes, AreInTheirOrder}
use Rattle.ec_sim_world_laws.proofs.closing_lemmas.Lists.{none_not, false_not, some_is}
use Rattle.ec_sim_world_laws.proofs.closing_lemmas.Closed.{with_shapes, starts_in_order}
use Rattle.ec_sim_world_laws.proofs.closing_lemmas.Programs.{unit_keeps as closing_unit}
use Rattle.ec_sim_world_laws.proofs.closing_lemmas.Shaped.{have_shapes}
use Rattle.ec_sim_host_laws.specs.table.Tables.{VarcharsAre, TypesFit, AreSound}
use Rattle.ec_sim_host_laws.proofs.table_lemmas.Full.{tops_full}
use Rattle.ec_sim_host_laws.proofs.table_lemmas.Fitting.{AreFit, fit_fitting, are_fitting}
use Rattle.ec_sim_host_laws.proofs.table_lemmas.Rules.{if_so, Sound}
use Rattle.ec_sim_host_laws.proofs.table_lemmas.Expressions.{listed_is}
use Rattle.ec_sim_host_laws.proofs.table_lemmas.Programs.{unit_keeps}

-- ---- at the start

starts_with_varchars : (written : Bool) (u : UnitData) → VarcharsAre (start written u)
starts_with_varchars written u zero info e v = false_not (subst (λ i. false ≡ i.varchar) (some_is e) refl ∙ v)
starts_with_varchars written u (suc zero) info e v = false_not (subst (λ i. false ≡ i.varchar) (some_is e) refl ∙ v)
starts_with_varchars written u (suc (suc k)) info e v = none_not e

starts_fit : (written : Bool) (u : UnitData) (k : ℕ) (ms : Members) → members_at (start written u).structs k ≡ Some (listed ms) → AreFit (start written u).structs ms
starts_fit written u zero ms e = subst (AreFit (start written u).structs) (listed_is (some_is e)) (tt, ((refl, (tt, tt)), tt))
starts_fit written u (suc zero) ms e = subst (AreFit (start written u).structs) (listed_is (some_is e))
    ((refl, (tt, tt)), (tt, (tt, (tt, ((refl, (tt, tt)), ((refl, (tt, tt)), ((refl, (tt, tt)), ((refl, (tt, tt)), tt))))))))
starts_fit written u (suc (suc k)) ms e = none_not e

starts_small : (written : Bool) (u : UnitData) (k : ℕ) (info : StructInfo) → slice_get (start written u).structs k ≡ Some info → is_within info.shape ≡ true
starts_small written u zero info e = subst (λ i. is_within i.shape ≡ true) (some_is e) refl
starts_small written u (suc zero) info e = subst (λ i. is_within i.shape ≡ true) (some_is e) refl
starts_small written u (suc (suc k)) info e = none_not e

starts_sound : (quiet written : Bool) (u : UnitData) → Sound quiet (start written u).structs (start written u).types
starts_sound quiet written u = record {
  varchars = starts_with_varchars written u;
  fit = if_so quiet (record { types = λ k t e. none_not e; members = starts_fit written u; structs = starts_small written u });
}

-- ---- behind a program

pub varchars_are : (written : Bool) (u : UnitData) → VarcharsAre (checked written u).world
varchars_are written u = ((unit_keeps {quiet = false} u tt).keeps (start written u) (starts_sound false written u) tt).sound.varchars

pub types_fit : (u : UnitData) → is_source_shape u ≡ true → violations false u ≡ [] → TypesFit (checked false u).world
types_fit u shape e =
    let z = (checked false u).world in
    let tables = ((unit_keeps {quiet = true} u (tops_full u.tops shape)).keeps (start false u) (starts_sound true false u) e).sound.fit in
    record {
      types = λ k t is. fit_fitting z t (tables.types k t is);
      members = λ k ms is. are_fitting z ms (tables.members k ms is);
      structs = tables.structs;
    }

order_kept : (u : UnitData) → AreInTheirOrder (checked false u).world
order_kept u = ((closing_unit u).keeps (start false u) (starts_in_order false u)).order

pub tables_sound : (u : UnitData) → is_source_shape u ≡ true → violations false u ≡ [] → HaveTypes (checked false u).world → AreSound (checked false u).world
tables_sound u shape none have =
    let z = (checked false u).world in
    record {
      closed = with_shapes z (have_shapes z (order_kept u) have) (order_kept u);
      have_types = have;
      varchars = varchars_are false u;
      fit = types_fit u shape none;
    }
