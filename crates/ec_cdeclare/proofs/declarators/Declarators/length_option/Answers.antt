use Rattle.std.proofs.Common.{sym, rules}
use Rattle.ec_grammar.specs.Input.{whole}
use Rattle.ec_grammar.specs.ReadDeclarations.{length_option}
use Rattle.ec_cursor.proofs.Levels.{operators_deeper}
use Rattle.ec_cdeclare.proofs.declarators.Declarators.length_option.Goals as goal

pub returns-in_err-length : goal.returns-in_err-length
unfolding length_option whole
returns-in_err-length g c = rw (sym (operators_deeper _ c.requires.some)) (search rules)

pub returns : goal.returns
unfolding length_option whole
returns g c = rw (sym (operators_deeper _ c.requires.some)) (search rules)
