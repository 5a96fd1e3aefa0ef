-- What the state of the walk holds, as the definitions see it.
use Rattle.std.specs.Prelude.{List, map, reverse, Option, option_map}
use Rattle.ec_ctypes.specs.declared.types.ty.Ty.{Ty}
use Rattle.ec_ctypes.specs.trees.Types.{TyData}
use Rattle.ec_ctypes.specs.views.Types.{ty_view}
use Rattle.ec_language.specs.First.{Violation}
use Rattle.ec_typing_defs.specs.Tables.{Named}
use Rattle.ec_typing_defs.specs.Worlds as rule
use Rattle.ec_typing_defs.specs.Worlds.{EntryData, object, function, ScopeData, max_size}
use Rattle.ec_scopes.specs.declared.entries.Entry.{Entry}
use Rattle.ec_scopes.specs.declared.entries.Entry.TheVariants as e
use Rattle.ec_scopes.specs.declared.entries.Scope.{Scope}
use Rattle.ec_scopes.specs.declared.found.Found.{Found}
use Rattle.ec_scopes.specs.declared.places.Place.{Place}

abbrev pub type_view : Option Ty → Option TyData
type_view = option_map ty_view

abbrev pub place_view : Place → rule.Place
place_view p = record { number = p.number; line = p.line }

abbrev pub found_view : Found → Violation
found_view f = record { place = f.place; stop = f.stop }

abbrev pub entry_view : Entry → EntryData
entry_view (e.Object number global ty) = object number global (type_view ty)
entry_view (e.Function number done ty params) =
    function number done (type_view ty) (option_map (map type_view) params)

abbrev pub named_view : {V W : Type 0} → (V → W) → Named V → Named W
named_view f es = map (λ e. (e.0, f e.1)) es

abbrev pub scope_view : Scope → ScopeData
scope_view s = record { names = named_view entry_view s.names; tags = s.tags }

-- the scopes round the innermost one, of which the last is the nearest
abbrev pub outer_view : List Scope → List ScopeData
outer_view ss = reverse (map scope_view ss)
