use Rattle.ec_sound_text_laws.proofs.Fitting.{unit_fits}
use Rattle.ec_sound_text_laws.proofs.Plain.{decl_plain, stmts_plain, tops_plain}
use Rattle.ec_sound_text_laws.proofs.laws.what_is_read_has_types.Goals as goal

pub returns-clause-declarations : goal.returns-clause-declarations
returns-clause-declarations c = decl_plain

pub returns-clause-statements : goal.returns-clause-statements
returns-clause-statements c = stmts_plain

pub returns-clause-items : goal.returns-clause-items
returns-clause-items c = tops_plain

pub returns-clause-programs : goal.returns-clause-programs
returns-clause-programs c = unit_fits
