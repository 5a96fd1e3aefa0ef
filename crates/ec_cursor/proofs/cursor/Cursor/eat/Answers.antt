use Rattle.std.proofs.Common.{rules, arith}
use Rattle.std.proofs.lemmas.Grind.{common_steps}
use Rattle.ec_ctypes.specs.views.Tokens.{token_view}
use Rattle.ec_grammar.specs.Input.{expect}
use Rattle.ec_cursor.specs.States.{seen}
use Rattle.ec_cursor.proofs.Sees.{same_is_sees}
use Rattle.ec_cursor.proofs.cursor.Cursor.eat.Goals as goal

pub returns-else-not-same_kind : goal.returns-else-not-same_kind
unfolding seen expect
returns-else-not-same_kind c = (search (rules, same_is_sees), record { token = token_view c.first-item.result; section = c.args.self.now.section }, grind (arith, common_steps))
