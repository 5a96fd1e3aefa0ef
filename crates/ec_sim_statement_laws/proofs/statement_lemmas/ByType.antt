-- Symbol and length say what the type says.
use Rattle.std.proofs.Common.{◌≡◌, ℕ, zero, suc, Bool, true, false, List, Option, Some, None, refl}
use Rattle.std.specs.Prelude.{slice_get, option_map, option_and_then}
use Rattle.ec_ctypes.specs.declared.types.arith.Arith.{Arith}
use Rattle.ec_ctypes.specs.declared.types.arith.Arith.TheVariants as arith
use Rattle.ec_ctypes.specs.trees.Types.{TyData, void, arithmetic, pointer, array, structure, StructData}
use Rattle.ec_host_defs.specs.Elements.{Symbol, symbol_of, struct_symbol, varchar_symbol, capacity}
use Rattle.ec_host_defs.specs.Leaves.{LeafData}
use Rattle.ec_host_defs.specs.Places.{size_of, symbol_or_none, symbol_in}
use Rattle.ec_transfer_defs.specs.Hosts.{Holding, holding, indicator_type, IndicatorData, HostData}
use Rattle.ec_call_defs.specs.Inputs as call
use Rattle.ec_direct_defs.specs.Leaves.{element_holds, struct_holds, capacity_holds, indicator_kind, indicators_data, leaf_data, Leaf}
use Rattle.ec_sim_statement_laws.specs.statement.Calls.{indicator_of, place_of}

abbrev held_by : Symbol → Option Holding
held_by s = holding s.0 s.1

module _ (structs : List StructData) where
  arith_holds_same : (t : Arith) → held_by (symbol_or_none (symbol_of structs (arithmetic t))) ≡ element_holds structs (arithmetic t)
  arith_holds_same arith.Bool = refl
  arith_holds_same arith.Char = refl
  arith_holds_same arith.UChar = refl
  arith_holds_same arith.Short = refl
  arith_holds_same arith.UShort = refl
  arith_holds_same arith.Int = refl
  arith_holds_same arith.UInt = refl
  arith_holds_same arith.Long = refl
  arith_holds_same arith.ULong = refl
  arith_holds_same arith.LLong = refl
  arith_holds_same arith.ULLong = refl

  pointed_same : (t : Arith) → held_by (symbol_or_none (symbol_of structs (pointer (arithmetic t)))) ≡ element_holds structs (pointer (arithmetic t))
  pointed_same arith.Char = refl
  pointed_same arith.UChar = refl
  pointed_same _ = refl

  characters_same : (t : Arith) (n : ℕ) → held_by (symbol_or_none (symbol_of structs (array (arithmetic t) (suc n)))) ≡ element_holds structs (array (arithmetic t) (suc n))
  characters_same arith.Char n = refl
  characters_same arith.UChar n = refl
  characters_same _ n = refl

  capacity_same : (n : Option ℕ) → held_by (symbol_or_none (varchar_symbol n)) ≡ capacity_holds n
  capacity_same None = refl
  capacity_same (Some zero) = refl
  capacity_same (Some (suc n)) = refl

  varchar_same : (d : StructData) (b : Bool)
      → held_by (symbol_or_none (elim b [ true ↦ varchar_symbol (capacity d.members) | false ↦ None ]))
      ≡ elim b [ true ↦ capacity_holds (capacity d.members) | false ↦ None ]
  varchar_same d true = capacity_same (capacity d.members)
  varchar_same d false = refl

  struct_same : (d : Option StructData) → held_by (symbol_or_none (option_and_then struct_symbol d)) ≡ option_and_then struct_holds d
  struct_same None = refl
  struct_same (Some d) = varchar_same d d.varchar

  pub holds_same : (t : TyData) → held_by (symbol_or_none (symbol_of structs t)) ≡ element_holds structs t
  holds_same void = refl
  holds_same (arithmetic t) = arith_holds_same t
  holds_same (pointer void) = refl
  holds_same (pointer (arithmetic t)) = pointed_same t
  holds_same (pointer (pointer t)) = refl
  holds_same (pointer (array t n)) = refl
  holds_same (pointer (structure k)) = refl
  holds_same (array t zero) = refl
  holds_same (array void (suc n)) = refl
  holds_same (array (arithmetic t) (suc n)) = characters_same t n
  holds_same (array (pointer t) (suc n)) = refl
  holds_same (array (array t m) (suc n)) = refl
  holds_same (array (structure k) (suc n)) = refl
  holds_same (structure k) = struct_same (slice_get structs k)

  -- ---- indicators

  arith_kind : (t : Arith) → indicator_type (symbol_or_none (symbol_of structs (arithmetic t))).0 ≡ indicator_kind (arithmetic t)
  arith_kind arith.Bool = refl
  arith_kind arith.Char = refl
  arith_kind arith.UChar = refl
  arith_kind arith.Short = refl
  arith_kind arith.UShort = refl
  arith_kind arith.Int = refl
  arith_kind arith.UInt = refl
  arith_kind arith.Long = refl
  arith_kind arith.ULong = refl
  arith_kind arith.LLong = refl
  arith_kind arith.ULLong = refl

  pointer_kind : (t : Arith) → indicator_type (symbol_or_none (symbol_of structs (pointer (arithmetic t)))).0 ≡ None
  pointer_kind arith.Char = refl
  pointer_kind arith.UChar = refl
  pointer_kind _ = refl

  array_kind : (t : Arith) (n : ℕ) → indicator_type (symbol_or_none (symbol_of structs (array (arithmetic t) (suc n)))).0 ≡ None
  array_kind arith.Char n = refl
  array_kind arith.UChar n = refl
  array_kind _ n = refl

  capacity_kind : (n : Option ℕ) → indicator_type (symbol_or_none (varchar_symbol n)).0 ≡ None
  capacity_kind None = refl
  capacity_kind (Some zero) = refl
  capacity_kind (Some (suc n)) = refl

  varchar_kind : (d : StructData) (b : Bool)
      → indicator_type (symbol_or_none (elim b [ true ↦ varchar_symbol (capacity d.members) | false ↦ None ])).0 ≡ None
  varchar_kind d true = capacity_kind (capacity d.members)
  varchar_kind d false = refl

  struct_kind : (d : Option StructData) → indicator_type (symbol_or_none (option_and_then struct_symbol d)).0 ≡ None
  struct_kind None = refl
  struct_kind (Some d) = varchar_kind d d.varchar

  pub kinds_same : (t : TyData) → indicator_type (symbol_or_none (symbol_of structs t)).0 ≡ indicator_kind t
  kinds_same void = refl
  kinds_same (arithmetic t) = arith_kind t
  kinds_same (pointer void) = refl
  kinds_same (pointer (arithmetic t)) = pointer_kind t
  kinds_same (pointer (pointer t)) = refl
  kinds_same (pointer (array t n)) = refl
  kinds_same (pointer (structure k)) = refl
  kinds_same (array t zero) = refl
  kinds_same (array void (suc n)) = refl
  kinds_same (array (arithmetic t) (suc n)) = array_kind t n
  kinds_same (array (pointer t) (suc n)) = refl
  kinds_same (array (array t m) (suc n)) = refl
  kinds_same (array (structure k) (suc n)) = refl
  kinds_same (structure k) = struct_kind (slice_get structs k)

  indicators_same : (i : Option (ℕ × LeafData)) → call.indicators_data (option_map (indicator_of structs) i) ≡ indicators_data structs i
  indicators_same None = refl
  indicators_same (Some i) = λ j.
      option_map Some (option_map (λ kind. record { kind = kind; place = i.0; step = size_of structs i.1.apart }) (kinds_same i.1.element j))

  -- a leaf is the same host, whether it is told by its type or by its symbol
  pub data_same : (l : Leaf ℕ) → call.host_data (place_of structs l) ≡ leaf_data structs l
  data_same l = λ j.
      option_and_then (λ holds. option_map (λ indicator. record {
        holds = holds;
        place = l.place;
        step = size_of structs l.leaf.apart;
        indicator = indicator;
      }) (indicators_same l.indicator j)) (holds_same l.leaf.element j)
