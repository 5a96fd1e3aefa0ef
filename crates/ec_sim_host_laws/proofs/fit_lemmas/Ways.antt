-- The ways to the leaves of a struct: there is one, and each leads to an element that is no larger than the struct.
use Rattle.std.proofs.Common.{◌≡◌, ◌∙◌, ℕ, zero, suc, ◌≤◌, Bool, true, false, List, [], ◌∷◌, ◌++◌, map, length, Option, Some, refl, sym, subst, slice_get, option_map}
use Rattle.std.specs.Prelude.{option_and_then}
use Rattle.ec_ctypes.specs.declared.types.sizes.Shape.{Shape}
use Rattle.ec_ctypes.specs.trees.Types.{TyData, void, arithmetic, pointer, array, structure, MemberData, StructData}
use Rattle.ec_ctypes.specs.Layout.{shape_of}
use Rattle.ec_language.specs.Letters.{Text}
use Rattle.ec_host_defs.specs.Elements.{is_element, plain_if, plain_number, plain_struct}
use Rattle.ec_host_defs.specs.Leaves.{Way, with_step, member_ways, members_ways, ways_within, ways}
use Rattle.ec_typing_defs.specs.Worlds.{World}
use Rattle.ec_typing_defs.specs.Answers.{structs_of}
use Rattle.ec_sim_world_laws.proofs.closing_lemmas.Lists.{none_not, some_is}
use Rattle.ec_sim_host_laws.specs.table.Tables.{AreSound}
use Rattle.ec_sim_host_laws.proofs.fit_lemmas.Options.{Follows, follows, Mapped, mapped, Joined, joined, up_to}
use Rattle.ec_sim_host_laws.proofs.fit_lemmas.Types.{ShapesAreSame, Good}
use Rattle.ec_sim_host_laws.proofs.fit_lemmas.Structs.{Inner, AllInner, AreMembers, Laid, laid}

-- a way to an element of at most so many bytes
pub record WayFits (z : World) (n : ℕ) (w : Way) : Type 0 where
  pub inner : Inner z n w.1
  pub element : is_element (structs_of z) w.1 ≡ true

abbrev pub AllWays : World → ℕ → List Way → Type 0
AllWays z n [] = Unit {0}
AllWays z n (w ∷ ws) = WayFits z n w × AllWays z n ws

abbrev pub AreWays : List Way → Type 0
AreWays [] = ⊥
AreWays (w ∷ ws) = Unit {0}

-- the struct that a type stands for
pub plain_is : (structs : List StructData) (t : TyData) {j : ℕ} → plain_struct structs t ≡ Some j → t ≡ structure j
plain_is structs void e = none_not e
plain_is structs (arithmetic a) e = none_not e
plain_is structs (pointer t) e = none_not e
plain_is structs (array t n) e = none_not e
plain_is structs (structure k) {j} e = of_data (follows (plain_number k) (slice_get structs k) e)
  where
    plain : (b : Bool) → plain_if b k ≡ Some j → structure k ≡ structure j
    plain true e = none_not e
    plain false e = λ i. structure (some_is e i)

    of_data : Follows (plain_number k) (slice_get structs k) j → structure k ≡ structure j
    of_data f = plain f.value.varchar f.then'

append_some : (xs ys : List Way) → AreWays xs → AreWays (xs ++ ys)
append_some [] ys h = absurd h
append_some (x ∷ xs) ys h = tt

step_some : (step : ℕ × Text) (ws : List Way) → AreWays ws → AreWays (map (with_step step) ws)
step_some step [] h = absurd h
step_some step (w ∷ ws) h = tt

module _ (z : World) (s : AreSound z) (same : ShapesAreSame z) where
  abbrev structs : List StructData
  structs = structs_of z

  append_all : (n : ℕ) (xs ys : List Way) → AllWays z n xs → AllWays z n ys → AllWays z n (xs ++ ys)
  append_all n [] ys h g = g
  append_all n (x ∷ xs) ys h g = (h.0, append_all n xs ys h.1 g)

  -- one step before ways that are within fewer bytes
  step_all : (m n : ℕ) → m ≤ n → (step : ℕ × Text) (ws : List Way) → AllWays z m ws → AllWays z n (map (with_step step) ws)
  step_all m n p step [] h = tt
  step_all m n p step (w ∷ ws) h = (
    record {
      inner = record {
        is_good = h.0.inner.is_good;
        shape = h.0.inner.shape;
        is = h.0.inner.is;
        within = up_to h.0.inner.shape.size m n h.0.inner.within p;
      };
      element = h.0.element;
    },
    step_all m n p step ws h.1,
  )

  -- ---- those through a member

  abbrev Inside : (ℕ → Option (List Way)) → Type 0
  Inside inside = (j : ℕ) (l : Laid z j) (ws : List Way) → inside j ≡ Some ws → AllWays z l.shape.size ws × AreWays ws

  module _ (inside : ℕ → Option (List Way)) (deeper : Inside inside) (n : ℕ) where
    member_fits : (k : ℕ) (m : MemberData) → Inner z n m.1 → (ws : List Way) → member_ways structs inside k m ≡ Some ws → AllWays z n ws × AreWays ws
    member_fits k m i ws e = by_element (is_element structs m.1) refl e
      where
        step : ℕ × Text
        step = (k, m.0)

        of_laid : (j : ℕ) → m.1 ≡ structure j → (vs : List Way) → inside j ≡ Some vs → Laid z j → AllWays z n (map (with_step step) vs) × AreWays (map (with_step step) vs)
        of_laid j is vs e l = stepped (deeper j l vs e)
          where
            shapes : l.shape ≡ i.shape
            shapes = some_is (sym l.shape_is ∙ sym (λ p. shape_of structs (is p)) ∙ i.is)

            stepped : AllWays z l.shape.size vs × AreWays vs → AllWays z n (map (with_step step) vs) × AreWays (map (with_step step) vs)
            stepped h = (
              step_all l.shape.size n (subst (λ (a : Shape). a.size ≤ n) (sym shapes) i.within) step vs h.0,
              step_some step vs h.1,
            )

        of_struct : (vs : List Way) → Follows inside (plain_struct structs m.1) vs → AllWays z n (map (with_step step) vs) × AreWays (map (with_step step) vs)
        of_struct vs f =
            of_laid f.value (plain_is structs m.1 f.is) vs f.then' (laid z s same f.value (subst (Good z) (plain_is structs m.1 f.is) i.is_good))

        of_mapped : Mapped (map (with_step step)) (option_and_then inside (plain_struct structs m.1)) ws → AllWays z n ws × AreWays ws
        of_mapped v =
            subst (λ vs. AllWays z n vs × AreWays vs) v.gives (of_struct v.value (follows inside (plain_struct structs m.1) v.is))

        by_element : (b : Bool) → is_element structs m.1 ≡ b → elim b [
          | true ↦ Some (((k, m.0) ∷ [], m.1) ∷ [])
          | false ↦ option_map (map (with_step (k, m.0))) (option_and_then inside (plain_struct structs m.1))
        ] ≡ Some ws → AllWays z n ws × AreWays ws
        by_element true is e = subst (λ vs. AllWays z n vs × AreWays vs) (some_is e) ((record { inner = i; element = is }, tt), tt)
        by_element false is e = of_mapped (mapped (map (with_step step)) (option_and_then inside (plain_struct structs m.1)) e)

    members_all : (k : ℕ) (ms : List MemberData) → AllInner z n ms → (ws : List Way) → members_ways structs inside k ms ≡ Some ws → AllWays z n ws
    members_all k [] i ws e = subst (AllWays z n) (some_is e) tt
    members_all k (m ∷ ms) i ws e =
        both_all (λ vs e. members_all k ms i.1 vs e) (joined (member_ways structs inside k m) (members_ways structs inside k ms) e)
      where
        both_all : ((vs : List Way) → members_ways structs inside k ms ≡ Some vs → AllWays z n vs)
            → Joined (member_ways structs inside k m) (members_ways structs inside k ms) ws → AllWays z n ws
        both_all more v = subst (AllWays z n) v.are
            (append_all n v.first v.second (member_fits k m i.0 v.first v.is_first).0 (more v.second v.is_second))

    members_some : (k : ℕ) (ms : List MemberData) → AreMembers ms → AllInner z n ms → (ws : List Way) → members_ways structs inside k ms ≡ Some ws → AreWays ws
    members_some k [] h i ws e = absurd h
    members_some k (m ∷ ms) h i ws e = both_some (joined (member_ways structs inside k m) (members_ways structs inside k ms) e)
      where
        both_some : Joined (member_ways structs inside k m) (members_ways structs inside k ms) ws → AreWays ws
        both_some v = subst AreWays v.are (append_some v.first v.second (member_fits k m i.0 v.first v.is_first).1)

  struct_fits : (inside : ℕ → Option (List Way)) → Inside inside → (k : ℕ) (l : Laid z k) (ws : List Way)
      → option_and_then (λ d. members_ways structs inside k d.members) (slice_get structs k) ≡ Some ws → AllWays z l.shape.size ws × AreWays ws
  struct_fits inside deeper k l ws e = (
    members_all inside deeper l.shape.size k l.there.members l.inner ws there,
    members_some inside deeper l.shape.size k l.there.members l.are_some l.inner ws there,
  )
    where
      there : members_ways structs inside k l.there.members ≡ Some ws
      there = sym (λ j. option_and_then (λ d. members_ways structs inside k d.members) (l.is j)) ∙ e

  within_fit : (depth : ℕ) → Inside (ways_within depth structs)
  within_fit zero k l ws e = none_not e
  within_fit (suc depth) k l ws e = struct_fits (ways_within depth structs) (λ j l ws e. within_fit depth j l ws e) k l ws e

  pub ways_fit : (k : ℕ) (l : Laid z k) (ws : List Way) → ways structs k ≡ Some ws → AllWays z l.shape.size ws × AreWays ws
  ways_fit k l ws e = within_fit (length structs) k l ws e
