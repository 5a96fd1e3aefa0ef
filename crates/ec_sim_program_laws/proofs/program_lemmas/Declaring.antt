-- Declarations without VARCHARs are alike, wherever types, lengths and initializers are.
use Rattle.std.proofs.Common.{◌≡◌, ℕ, zero, suc, ◌+◌, Bool, true, false, ◌&&◌, List, [], ◌∷◌, ◌++◌, length, Option, Some, None, refl, sym, subst}
use Rattle.std.proofs.lemmas.Bool.{true≢false}
use Rattle.ec_base.specs.declared.fault.LimitKind.{LimitKind}
use Rattle.ec_base.specs.declared.fault.LimitKind.TheVariants.{L1}
use Rattle.ec_base.specs.declared.line.Line.{Line}
use Rattle.ec_ctypes.specs.trees.Types.{TyData, void, arithmetic, pointer, array, structure}
use Rattle.ec_ctypes.specs.trees.Exprs.{BaseData, words, varchar, tagged, struct_base, DimList, InitOption, no_init, some_init, DeclaratorData, declarator, DeclaratorList, no_declarators, declarators, decl}
use Rattle.ec_language.specs.Letters.{Text}
use Rattle.ec_expansion_defs.specs.Declarations.{written_base, written_dims, written_initializer, written_declarator, written_declarators}
use Rattle.ec_typing_defs.specs.Tables.{find}
use Rattle.ec_typing_defs.specs.Expressions as checked_parts
use Rattle.ec_typing_defs.specs.Expressions.{has_init, tagged_struct}
use Rattle.ec_typing_defs.specs.Operands.{declared_type, within_rule}
use Rattle.ec_typing_defs.specs.Statements as checked
use Rattle.ec_typing_defs.specs.Statements.{type_or_void, waits_for_length, object_rule, declared_tag, tag_alone}
use Rattle.ec_typing_defs.specs.Worlds.{Place, MembersData, StructInfo, unlisted, object as object_entry, World, Rule, chain as check_chain, pure as check_pure, ask as check_ask, keep_within, declare, know_better, number_as, next_number, new_struct, struct_named}
use Rattle.ec_meaning_defs.specs.resolved.Resolved.{slot, Stm}
use Rattle.ec_resolving_defs.specs.Agreement.{itself, nothing_of, type_of}
use Rattle.ec_resolving_defs.specs.Initializers.{PartData, scalar_part, text_part, struct_part, place_in_object, parts_stored, parts_known}
use Rattle.ec_resolving_defs.specs.Statements.{size_of_type, initial, object_made, object_type, object_item, object_items, specifier, declaration}
use Rattle.ec_resolving_defs.specs.Expressions.{lengths}
use Rattle.ec_resolving_defs.specs.Storage.{Site, numbered, slotted, nowhere, Storage, next_site, with_site, with_object_of, Resolving, chain, checks, ask, stored, arrange}
use Rattle.ec_sim_statement_laws.specs.statement.Blocks.{has_call, have_call}
use Rattle.ec_sim_statement_laws.specs.statement.Copies.{unset, filled}
use Rattle.ec_sim_statement_laws.specs.expression.Worlds.{AreAlike}
use Rattle.ec_sim_statement_laws.specs.expression.Alike.{SameStorage, AddsNone, FindAlike, IsAlike}
use Rattle.ec_sim_statement_laws.specs.expression.Lengths.{BaseHasLengths, DimsHaveLengths, InitHasLengths, ItemHasLengths, ItemsHaveLengths}
use Rattle.ec_sim_statement_laws.specs.expression.Laws.{TypesAreAlike, LengthsAreAlike, InitializersAreAlike}
use Rattle.ec_sim_statement_laws.specs.expression.Silent.{Nothing, PartsCallNone, InitializerCallsNone}
use Rattle.ec_sim_statement_laws.specs.expression.Known.{complete_same, within_same, size_same, next_struct_same, with_structs, joined_same, same_struct, with_tags}
use Rattle.ec_sim_statement_laws.specs.expression.Forms.{neither_calls}
use Rattle.ec_sim_statement_laws.specs.expression.Rules.{CheckFinds, CheckAlike, check_chain_alike, check_pure_alike, check_ask_alike, change_alike, check_either, some_found, QuietAlike, pure_quietly, asked_quietly, chain_alike, pure_alike, checks_alike, ask_alike, ask_first, arrange_first, quiet_first, placed_alike}
use Rattle.ec_sim_statement_laws.specs.expression.Checks.{elements_quietly, complete_alike, free_tag_alike}
use Rattle.ec_sim_program_laws.specs.program.Declared.{AllDeclare, DeclaresOne, PlainAreAlike}
use Rattle.ec_sim_program_laws.proofs.program_lemmas.Conditions.{made_alike as made_of_alike}
use Rattle.ec_sim_program_laws.proofs.program_lemmas.Names.{declare_first, better_alike, number_alike}

-- ---- rules of the checks

limit_quietly : (at there : Place) (kind : LimitKind) (b : Bool) → QuietAlike (keep_within at kind b) (keep_within there kind b)
unfolding keep_within check_pure
limit_quietly at there kind true = record { here = λ w. refl; there = λ v. refl; without_fault = λ w v alike e. refl }
limit_quietly at there kind false = record { here = λ w. refl; there = λ v. refl; without_fault = λ w v alike e. absurd (some_found e) }

pub within_quietly : (at there : Place) (t : Option TyData) → QuietAlike (within_rule at t) (within_rule there t)
unfolding within_rule
within_quietly at there None = pure_quietly
within_quietly at there (Some t) = asked_quietly _ _ _ _ (λ w v alike. within_same w v alike t) (λ small. limit_quietly at there L1 small)

waits_same : (w v : World) → AreAlike w v → (has : Bool) (t : TyData) → waits_for_length has t v ≡ waits_for_length has t w
waits_same w v alike has void = refl
waits_same w v alike has (arithmetic a) = refl
waits_same w v alike has (pointer t) = refl
waits_same w v alike has (array t zero) = λ i. has && complete_same w v alike t i
waits_same w v alike has (array t (suc n)) = refl
waits_same w v alike has (structure k) = refl

object_alike : (at there : Place) (has : Bool) (t : Option TyData) → CheckAlike (object_rule at has t) (object_rule there has t)
unfolding object_rule
object_alike at there has None = check_pure_alike None
object_alike at there has (Some t) =
    check_chain_alike _ _ _ _ (check_ask_alike _ _ (λ w v alike. waits_same w v alike has t)) (λ waits.
    check_either waits _ _ _ _ (check_pure_alike (Some t)) (complete_alike at there (Some t)))

-- ---- what an object leaves

-- a last rule of the checks, and what only the walk does behind it
checks_then : {A : Type 0} {P : A → Type 0} (c d : Rule (Unit {0})) (k l : Unit {0} → Resolving A)
    → CheckAlike c d → IsAlike P nothing_of (check_pure tt) (check_pure tt) (k tt) (l tt)
    → IsAlike P nothing_of c d (chain (checks c) k) (chain (checks d) l)
unfolding chain checks check_pure
checks_then {P} c d k l p q = record {
  finds = λ s t w v same alike e.
      let x : CheckFinds (c w) (d v) = p.finds w v alike e
      in let y : FindAlike P nothing_of s t (check_pure tt (c w).world) (check_pure tt (d v).world) (k tt s (c w).world) (l tt t (d v).world) =
      q.finds s t (c w).world (d v).world same x.worlds refl
      in record {
        answer = y.answer;
        silent = y.silent;
        worlds = y.worlds;
        storages = y.storages;
        adds_none = y.adds_none;
        adds_none_there = y.adds_none_there;
        checked = refl;
        checked_world = y.checked_world;
        checked_there = refl;
        checked_world_there = y.checked_world_there;
        without_fault = x.without_fault;
      };
}

-- what is known of where things are
pub stored_known : {A B C : Type 0} {P : B → Type 0} {seen : B → C} (Q : A → Type 0) (f : Storage → A) (c d : Rule C) (k l : A → Resolving B)
    → ((s t : Storage) → SameStorage s t → f t ≡ f s) → ((s : Storage) → Q (f s))
    → ((a : A) → Q a → IsAlike P seen c d (k a) (l a))
    → IsAlike P seen c d (chain (stored f) k) (chain (stored f) l)
unfolding chain stored
stored_known {P} {seen} Q f c d k l same known p = record {
  finds = λ s t w v sames alike e.
      subst (λ a. FindAlike P seen s t (c w) (d v) (k (f s) s w) (l a t v)) (sym (same s t sames)) ((p (f s) (known s)).finds s t w v sames alike e);
}

abbrev SiteOf : Bool → Site → Type 0
SiteOf true (numbered n) = Unit {0}
SiteOf true (slotted i) = ⊥
SiteOf true nowhere = ⊥
SiteOf false (numbered n) = ⊥
SiteOf false (slotted i) = Unit {0}
SiteOf false nowhere = ⊥

next_known : (global : Bool) (s : Storage) → SiteOf global (next_site global s)
next_known true s = tt
next_known false s = tt

pub next_same : (global : Bool) (s t : Storage) → SameStorage s t → next_site global t ≡ next_site global s
next_same true s t same = λ i. numbered (length (same.globals i) + 2)
next_same false s t same = λ i. slotted ((same.block i).below + length (same.block i).sizes)

pub site_same : (site : Site) (s t : Storage) → SameStorage s t → SameStorage (with_site site s) (with_site site t)
site_same site s t same = record {
  defined = same.defined;
  before_literals = same.before_literals;
  sites = λ i. same.sites i ++ site ∷ [];
  globals = same.globals;
  literals = same.literals;
  block = same.block;
}

pub site_adds : (site : Site) (s : Storage) → AddsNone s (with_site site s)
site_adds site s = record { functions = refl; calls = refl; statements = refl }

pub object_same : (size : ℕ) (s t : Storage) → SameStorage s t → SameStorage (with_object_of size s) (with_object_of size t)
object_same size s t same = record {
  defined = same.defined;
  before_literals = same.before_literals;
  sites = same.sites;
  globals = same.globals;
  literals = same.literals;
  block = λ i. record (same.block i) { sizes = (same.block i).sizes ++ size ∷ [] };
}

pub object_adds : (size : ℕ) (s : Storage) → AddsNone s (with_object_of size s)
object_adds size s = record { functions = refl; calls = refl; statements = refl }

part_place_silent : (offset : ℕ) (i : ℕ) → has_call (place_in_object offset (slot i)) ≡ false
part_place_silent zero i = refl
part_place_silent (suc n) i = refl

stored_silent : (i : ℕ) (ps : List PartData) → PartsCallNone ps → have_call (parts_stored (slot i) ps) ≡ false
stored_silent i [] h = refl
stored_silent i (scalar_part offset kind e ∷ ps) h = neither_calls (neither_calls (part_place_silent offset i) h.0) (stored_silent i ps h.1)
stored_silent i (text_part offset text ∷ ps) h = neither_calls (part_place_silent offset i) (stored_silent i ps h.1)
stored_silent i (struct_part offset size e ∷ ps) h = neither_calls (neither_calls (part_place_silent offset i) h.0) (stored_silent i ps h.1)

module _ (n : ℕ) where
  made_alike : (global : Bool) (site : Site) → SiteOf global site → (size : ℕ) (init : InitOption) (ps : List PartData) → PartsCallNone ps
      → IsAlike (DeclaresOne global) nothing_of (check_pure tt) (check_pure tt) (object_made site size init ps) (object_made site size (written_initializer n init) ps)
  made_alike true (numbered k) is size init ps silent = arrange_first _ _ _ _ _ _
      (λ s t same. record {
        defined = same.defined;
        before_literals = same.before_literals;
        sites = same.sites;
        globals = λ i. same.globals i ++ record { size = size; values = parts_known ps } ∷ [];
        literals = same.literals;
        block = same.block;
      })
      (λ s. record { functions = refl; calls = refl; statements = refl }) (λ t. record { functions = refl; calls = refl; statements = refl })
      (pure_alike nothing_of [] tt)
  made_alike true (slotted k) is size init ps silent = absurd is
  made_alike true nowhere is size init ps silent = absurd is
  made_alike false (numbered k) is size init ps silent = absurd is
  made_alike false (slotted k) is size no_init ps silent =
      arrange_first _ _ _ _ _ _ (λ s t same. object_same size s t same) (λ s. object_adds size s) (λ t. object_adds size t) (pure_alike nothing_of _ (unset k size))
  made_alike false (slotted k) is size (some_init j) ps silent =
      arrange_first _ _ _ _ _ _ (λ s t same. object_same size s t same) (λ s. object_adds size s) (λ t. object_adds size t) (pure_alike nothing_of _ (filled k size _ (stored_silent k ps silent)))
  made_alike false nowhere is size init ps silent = absurd is

  pub sized_same : (w v : World) → AreAlike w v → (t : Option TyData) → size_of_type v t ≡ size_of_type w t
  sized_same w v alike None = refl
  sized_same w v alike (Some t) = size_same w v alike t

  has_same : (init : InitOption) → has_init (written_initializer n init) ≡ has_init init
  has_same no_init = refl
  has_same (some_init i) = refl

  module _ (initializers : InitializersAreAlike) (at there : Place) (global : Bool) (name : Text) (init : InitOption) (h : InitHasLengths init) where
    initial_alike : (t : Option TyData)
        → IsAlike InitializerCallsNone type_of (checked.initial at global t init) (checked.initial there global t (written_initializer n init))
        (initial at global t init) (initial there global t (written_initializer n init))
    initial_alike t = by_form init h
      where
        by_form : (i : InitOption) → InitHasLengths i → IsAlike InitializerCallsNone type_of (checked.initial at global t i) (checked.initial there global t (written_initializer n i)) (initial at global t i) (initial there global t (written_initializer n i))
        by_form no_init l = pure_alike type_of (t, []) tt
        by_form (some_init i) l = initializers at there n global t i l

    -- an object behind its type
    pub typed_alike : (whole : Option TyData) → IsAlike (DeclaresOne global) nothing_of
        (check_chain (within_rule at whole) (λ _. check_chain (object_rule at (has_init init) whole) (λ before. check_chain (check_ask next_number) (λ k. check_chain (declare at name (object_entry k global before)) (λ _.
        check_chain (checked.initial at global before init) (λ ty. check_chain (within_rule at ty) (λ _. check_chain (know_better name (object_entry k global ty)) (λ _. number_as (type_or_void ty)))))))))
        (check_chain (within_rule there whole) (λ _. check_chain (object_rule there (has_init (written_initializer n init)) whole) (λ before. check_chain (check_ask next_number) (λ k. check_chain (declare there name (object_entry k global before)) (λ _.
        check_chain (checked.initial there global before (written_initializer n init)) (λ ty. check_chain (within_rule there ty) (λ _. check_chain (know_better name (object_entry k global ty)) (λ _. number_as (type_or_void ty)))))))))
        (chain (checks (object_rule at (has_init init) whole)) (λ before. chain (ask next_number) (λ k. chain (checks (declare at name (object_entry k global before))) (λ _. chain (stored (next_site global)) (λ site. chain (arrange (with_site site)) (λ _.
        chain (initial at global before init) (λ made. chain (checks (know_better name (object_entry k global made.0))) (λ _. chain (checks (number_as (type_or_void made.0))) (λ _. chain (ask (λ w. size_of_type w made.0)) (λ size. object_made site size init made.1))))))))))
        (chain (checks (object_rule there (has_init (written_initializer n init)) whole)) (λ before. chain (ask next_number) (λ k. chain (checks (declare there name (object_entry k global before))) (λ _. chain (stored (next_site global)) (λ site. chain (arrange (with_site site)) (λ _.
        chain (initial there global before (written_initializer n init)) (λ made. chain (checks (know_better name (object_entry k global made.0))) (λ _. chain (checks (number_as (type_or_void made.0))) (λ _. chain (ask (λ w. size_of_type w made.0)) (λ size. object_made site size (written_initializer n init) made.1))))))))))
    typed_alike whole =
        quiet_first _ _ _ _ _ _ (within_quietly at there whole)
        (chain_alike _ _ _ _ _ _ _ _ (checks_alike _ _ (subst (λ b. CheckAlike (object_rule at (has_init init) whole) (object_rule there b whole)) (sym (has_same init)) (object_alike at there (has_init init) whole))) (λ before _.
        chain_alike _ _ _ _ _ _ _ _ (ask_alike {P = Nothing} next_number next_number (λ w v alike. λ i. length (alike.types i)) (λ w. tt)) (λ k _.
        declare_first at there name (object_entry k global before) _ _ _ _ (λ free.
        stored_known (SiteOf global) (next_site global) _ _ _ _ (next_same global) (next_known global) (λ site is.
        arrange_first _ _ _ _ _ _ (site_same site) (site_adds site) (site_adds site)
        (chain_alike _ _ _ _ _ _ _ _ (initial_alike before) (λ made silent.
        quiet_first _ _ _ _ _ _ (within_quietly at there made.0)
        (chain_alike _ _ _ _ _ _ _ _ (checks_alike _ _ (better_alike name (object_entry k global made.0) free)) (λ _ _.
        checks_then _ _ _ _ (number_alike (type_or_void made.0))
        (ask_first Nothing _ _ _ _ _ _ (λ w v alike. sized_same w v alike made.0) (λ w. tt) (λ size _. made_alike global site is size init made.1 silent)))))))))))

-- ---- declarators

pub one_of_all : (global : Bool) (xs : List Stm) → DeclaresOne global xs → AllDeclare xs
one_of_all true [] h = tt
one_of_all true (x ∷ xs) h = absurd h
one_of_all false [] h = absurd h
one_of_all false (x ∷ []) h = (h, tt)
one_of_all false (x ∷ y ∷ xs) h = absurd h

pub all_joined : (xs ys : List Stm) → AllDeclare xs → AllDeclare ys → AllDeclare (xs ++ ys)
all_joined [] ys p q = q
all_joined (x ∷ xs) ys p q = (p.0, all_joined xs ys p.1 q)

-- a new struct whose members aren't known
new_alike : (info : StructInfo) → CheckAlike (new_struct info) (new_struct info)
unfolding new_struct
new_alike info = record {
  finds = λ w v alike e. record {
    answer = next_struct_same w v alike;
    without_fault = refl;
    worlds = with_structs w v alike _ _ (joined_same w.structs v.structs (info ∷ []) (info ∷ []) alike.structs (same_struct info, tt));
  };
}

struct_alike : (tag : Text) (ms : MembersData) → CheckAlike (tagged_struct tag ms) (tagged_struct tag ms)
unfolding tagged_struct
struct_alike tag ms = check_chain_alike _ _ _ _ (new_alike (struct_named (Some tag) ms)) (λ k.
    check_chain_alike _ _ _ _ (change_alike _ _ (λ w v alike. with_tags w v alike tag k)) (λ _. check_pure_alike k))

declared_alike : (tag : Text) (k : Option ℕ) → CheckAlike (declared_tag tag k) (declared_tag tag k)
declared_alike tag None = check_chain_alike _ _ _ _ (struct_alike tag unlisted) (λ _. check_pure_alike None)
declared_alike tag (Some k) = check_pure_alike None

tag_alone_alike : (at there : Place) (tag : Text) → CheckAlike (tag_alone at tag) (tag_alone there tag)
unfolding tag_alone
tag_alone_alike at there tag = check_chain_alike _ _ _ _ (free_tag_alike at there tag) (λ _.
    check_chain_alike _ _ _ _ (check_ask_alike _ _ (λ w v alike. λ i. find tag (alike.here i).tags)) (λ before. declared_alike tag before))

module _ (types : TypesAreAlike) (lengths_alike : LengthsAreAlike) (initializers : InitializersAreAlike) (n : ℕ) where
  specifier_alike : (at there : Place) (b : BaseData) (ds : DeclaratorList) → BaseHasLengths b
      → IsAlike Nothing itself (checked.specifier at b ds) (checked.specifier there (written_base n b) (written_declarators n ds)) (specifier at b ds) (specifier there (written_base n b) (written_declarators n ds))
  specifier_alike at there (tagged tag) no_declarators h = checks_alike _ _ (tag_alone_alike at there tag)
  specifier_alike at there (tagged tag) (declarators d ds) h = types at there n (tagged tag) h
  specifier_alike at there (words ws) ds h = types at there n (words ws) h
  specifier_alike at there varchar ds h = types at there n varchar h
  specifier_alike at there (struct_base tag ms) ds h = types at there n (struct_base tag ms) h

  module _ (at there : Place) (global : Bool) (t : Option TyData) where
    plain_type_alike : (stars : ℕ) (name : Text) (ns : DimList) → DimsHaveLengths ns
        → IsAlike Nothing itself (checked.object_type at false t stars name ns) (checked.object_type there false t stars name (written_dims n ns))
        (object_type at false t stars name ns) (object_type there false t stars name (written_dims n ns))
    plain_type_alike stars name ns h = chain_alike _ _ _ _ _ _ _ _ (lengths_alike at there n ns h) (λ sizes _.
        quiet_first _ _ _ _ _ _ (elements_quietly at there t stars sizes) (pure_alike itself (declared_type t stars sizes) tt))

    plain_item_alike : (d : DeclaratorData) → ItemHasLengths false d
        → IsAlike (DeclaresOne global) nothing_of (checked.object_item at global false t d) (checked.object_item there global false t (written_declarator n d))
        (object_item at global false t d) (object_item there global false t (written_declarator n d))
    plain_item_alike (declarator stars name ns init) h = chain_alike _ _ _ _ _ _ _ _ (plain_type_alike stars name ns h.1) (λ whole _.
        typed_alike n initializers at there global name init h.2 whole)

    plain_items_alike : (ds : DeclaratorList) → ItemsHaveLengths false ds
        → IsAlike AllDeclare nothing_of (checked.object_items at global false t ds) (checked.object_items there global false t (written_declarators n ds))
        (object_items at global false t ds) (object_items there global false t (written_declarators n ds))
    plain_items_alike no_declarators h = pure_alike nothing_of [] tt
    plain_items_alike (declarators d ds) h = chain_alike _ _ _ _ _ _ _ _ (plain_item_alike d h.0) (λ first one.
        made_of_alike (λ more. first ++ more) (λ more all. all_joined first more (one_of_all global first one) all) (plain_items_alike ds h.1))

  plain_alike : (global : Bool) (b : BaseData) (items : DeclaratorList) (section : Bool) (line there : Line) → checked_parts.is_varchar b ≡ false → BaseHasLengths b → ItemsHaveLengths false items
      → IsAlike AllDeclare nothing_of (checked.declaration global (decl b items section line)) (checked.declaration global (decl (written_base n b) (written_declarators n items) false there))
      (declaration global (decl b items section line)) (declaration global (decl (written_base n b) (written_declarators n items) false there))
  plain_alike global (words ws) items section line there is h hs = placed_alike _ _ _ _ _ _ (λ at there. chain_alike _ _ _ _ _ _ _ _ (specifier_alike at there (words ws) items h) (λ t _. plain_items_alike at there global t items hs))
  plain_alike global (tagged tag) items section line there is h hs = placed_alike _ _ _ _ _ _ (λ at there. chain_alike _ _ _ _ _ _ _ _ (specifier_alike at there (tagged tag) items h) (λ t _. plain_items_alike at there global t items hs))
  plain_alike global (struct_base tag ms) items section line there is h hs = placed_alike _ _ _ _ _ _ (λ at there. chain_alike _ _ _ _ _ _ _ _ (specifier_alike at there (struct_base tag ms) items h) (λ t _. plain_items_alike at there global t items hs))
  plain_alike global varchar items section line there is h hs = absurd (true≢false is)

pub plain_are_alike : TypesAreAlike → LengthsAreAlike → InitializersAreAlike → PlainAreAlike
plain_are_alike types lengths initializers = λ global n b items section line there is h hs. plain_alike types lengths initializers n global b items section line there is h hs
