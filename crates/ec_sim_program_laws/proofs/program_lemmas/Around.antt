-- What stays alike in worlds and storages as statements are looked at.
use Rattle.std.proofs.Common.{◌≡◌, ℕ, ◌+◌, List, [], ◌∷◌, refl, sym, subst}
use Rattle.ec_typing_defs.specs.Worlds.{ScopeData, World, left, left_to}
use Rattle.ec_resolving_defs.specs.Storage.{BlockObjects, Storage, inside_block, back_in_block}
use Rattle.ec_sim_world_laws.specs.growth.Growth.{Grows}
use Rattle.ec_sim_statement_laws.specs.expression.Worlds.{AllKeepReserved, AreAlike}
use Rattle.ec_sim_statement_laws.specs.expression.Alike.{SameStorage}
use Rattle.ec_sim_statement_laws.specs.expression.Known.{with_places}

pub with_places_here : (w v : World) → AreAlike w v → (n : ℕ) → AreAlike (record w { places = n }) v
with_places_here w v alike n = with_places w v alike n v.places

pub with_places_there : (w v : World) → AreAlike w v → (n : ℕ) → AreAlike w (record v { places = n })
with_places_there w v alike n = with_places w v alike w.places n

left_to_alike : (ss : List ScopeData) (w v : World) → AllKeepReserved ss → AreAlike w v → AreAlike (left_to ss w) (left_to ss v)
left_to_alike [] w v kept alike = record {
  is_source = alike.is_source;
  is_written = alike.is_written;
  here = refl;
  outer = refl;
  structs = alike.structs;
  closed = alike.closed;
  types = alike.types;
  defined = alike.defined;
  labels = alike.labels;
  reserved_here = λ x e. refl;
  reserved_outer = tt;
}
left_to_alike (s ∷ ss) w v kept alike = record {
  is_source = alike.is_source;
  is_written = alike.is_written;
  here = refl;
  outer = refl;
  structs = alike.structs;
  closed = alike.closed;
  types = alike.types;
  defined = alike.defined;
  labels = alike.labels;
  reserved_here = kept.0;
  reserved_outer = kept.1;
}

pub left_alike : (w v : World) → AreAlike w v → AreAlike (left w) (left v)
left_alike w v alike = subst (λ ss. AreAlike (left w) (left_to ss v)) (sym alike.outer) (left_to_alike w.outer w v alike.reserved_outer alike)

left_to_denoted : (ss : List ScopeData) (w : World) → (left_to ss w).denoted ≡ w.denoted
left_to_denoted [] w = refl
left_to_denoted (s ∷ ss) w = refl

pub left_denoted : (w : World) → (left w).denoted ≡ w.denoted
left_denoted w = left_to_denoted w.outer w

left_to_types : (ss : List ScopeData) (w : World) → (left_to ss w).types ≡ w.types
left_to_types [] w = refl
left_to_types (s ∷ ss) w = refl

pub left_types : (w : World) → (left w).types ≡ w.types
left_types w = left_to_types w.outer w

before_left_to : (ss : List ScopeData) (w z : World) → Grows (left_to ss w) z → Grows w z
before_left_to [] w z h = record { written = h.written; defined = h.defined; types = h.types; denoted = h.denoted; closed = h.closed; structs = h.structs }
before_left_to (s ∷ ss) w z h = record { written = h.written; defined = h.defined; types = h.types; denoted = h.denoted; closed = h.closed; structs = h.structs }

pub grows_before_left : (w z : World) → Grows (left w) z → Grows w z
grows_before_left w z h = before_left_to w.outer w z h

pub inside_same : (k : ℕ) (s t : Storage) → SameStorage s t → SameStorage (inside_block k s) (inside_block k t)
inside_same k s t same = record {
  defined = same.defined;
  before_literals = same.before_literals;
  sites = same.sites;
  globals = same.globals;
  literals = same.literals;
  block = λ i. record { below = (same.block i).below + (same.block i).count; count = k; sizes = [] };
}

pub back_same : (a b : BlockObjects) (s t : Storage) → b ≡ a → SameStorage s t → SameStorage (back_in_block a s) (back_in_block b t)
back_same a b s t e same = record {
  defined = same.defined;
  before_literals = same.before_literals;
  sites = same.sites;
  globals = same.globals;
  literals = same.literals;
  block = e;
}
