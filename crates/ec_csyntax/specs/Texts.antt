-- Which tokens hold what.
use Rattle.ec_ctypes.specs.trees.Tokens.{TokData, emb_token}

abbrev pub IsEmbedded : TokData → Type 0
IsEmbedded (emb_token n executed) = Unit {0}
IsEmbedded _ = ⊥
