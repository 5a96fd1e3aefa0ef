use Rattle.std.proofs.Common.{◌≡◌, ◌++◌, drop, map}
use Rattle.ec_ctypes.specs.views.Tokens.{token_view}
use Rattle.ec_host_defs.specs.Statements.{statement_places}
use Rattle.ec_front.proofs.source.statements.statement_places.Given as goal

abbrev pub invariant-loop-token : goal.invariant-loop-token
invariant-loop-token l = l.places ++ statement_places (map token_view (drop l.token-index l.tokens)) ≡ statement_places (map token_view l.tokens)
