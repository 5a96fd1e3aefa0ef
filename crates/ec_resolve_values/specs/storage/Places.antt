-- Names with their places.
use Rattle.std.specs.Prelude.{ℕ, suc, [], ◌∷◌, map}
use Rattle.ec_typing_defs.specs.Tables.{Named}

-- the names alone
abbrev pub names_of : Named ℕ → Named (Unit {0})
names_of es = map (λ e. (e.0, tt)) es

-- names with their places, of which the first has this one
abbrev pub placed : ℕ → Named (Unit {0}) → Named ℕ
placed n [] = []
placed n (e ∷ es) = (e.0, n) ∷ placed (suc n) es
