-- The tree of a source is flat.
use Rattle.std.proofs.Common.{◌≡◌, List, Result, Ok, Err, sym, ap, subst}
use Rattle.ec_base.specs.declared.stop.Stop.{Stop}
use Rattle.ec_ctypes.specs.trees.Embedded.{EmbData}
use Rattle.ec_ctypes.specs.trees.Units.{UnitData}
use Rattle.ec_host_defs.specs.Statements.{with_statements}
use Rattle.ec_language.specs.Letters.{Text}
use Rattle.ec_phases_defs.specs.Sources.{ReadsTree, statements}
use Rattle.ec_sim_program_laws.specs.types.Flat.{TopsAreFlat}
use Rattle.ec_sim_program_laws.proofs.flat_lemmas.FlatTrees.{tree_is_flat}

-- with its statements it has the same items
pub same_tops : (u v : UnitData) (es : Result (List EmbData) Stop) → Ok v ≡ with_statements u es → v.tops ≡ u.tops
same_tops u v (Ok es) e = let same : v ≡ record u { embs = es } = cc in ap (λ x. x.tops) same
same_tops u v (Err stop) e = absurd (cc)

pub source_is_flat : (text : Text) (u : UnitData) → ReadsTree text (Ok u) → TopsAreFlat u.tops
source_is_flat text u (statements pieces ts v es answer short cut read derived reads is) =
    subst TopsAreFlat (sym (same_tops v u es is)) (tree_is_flat ts v derived)
