-- A declaration has its site, and so has a parameter.
use Rattle.std.proofs.Common.{ℕ, Bool, true, false, List, [], ◌∷◌, refl, Option}
use Rattle.ec_ctypes.specs.trees.Types.{TyData}
use Rattle.ec_ctypes.specs.trees.Exprs.{BaseData, words, varchar, tagged, struct_base, DimList, InitOption, no_init, some_init, DeclaratorData, declarator, DeclaratorList, no_declarators, declarators, DeclData, decl}
use Rattle.ec_ctypes.specs.trees.Units.{ParamData}
use Rattle.ec_language.specs.Letters.{Text}
use Rattle.ec_typing_defs.specs.Expressions.{has_init, is_varchar}
use Rattle.ec_typing_defs.specs.Worlds.{Place}
use Rattle.ec_resolving_defs.specs.Initializers.{PartData}
use Rattle.ec_resolving_defs.specs.Programs.{param, params}
use Rattle.ec_resolving_defs.specs.Statements.{initial, object_made, object_type, object_item, object_items, specifier, declaration}
use Rattle.ec_resolving_defs.specs.Storage.{Site, numbered, slotted, nowhere}
use Rattle.ec_sim_world_laws.proofs.known_lemmas.SitesChecks.{object_idle, param_type_idle, place_still, declare_still, better_still, declare_param_still, varchar_object_still, tag_alone_still}
use Rattle.ec_sim_world_laws.proofs.known_lemmas.SitesRules.{Stands, chained, pure_stands, ask_stands, stored_stands, arrange_stands, checks_stand, Leads, then_leads, stands_lead, site_leads, number_leads}
use Rattle.ec_sim_world_laws.proofs.known_lemmas.SitesWalk.{idle_stands, base_stands, lengths_stand, last_stands, outer_stand, initializer_stands}

initial_stands : (at : Place) (global : Bool) (t : Option TyData) (i : InitOption) → Stands (initial at global t i)
initial_stands at global t no_init = pure_stands _
initial_stands at global t (some_init i) = initializer_stands at global t i

made_stands : (site : Site) (size : ℕ) (init : InitOption) (ps : List PartData) → Stands (object_made site size init ps)
made_stands (numbered n) size init ps = chained (arrange_stands _ (λ s. refl)) (λ u. pure_stands _)
made_stands (slotted i) size init ps = chained (arrange_stands _ (λ s. refl)) (λ u. pure_stands _)
made_stands nowhere size init ps = pure_stands _

type_stands : (at : Place) (v : Bool) (t : Option TyData) (stars : ℕ) (name : Text) (ns : DimList) → Stands (object_type at v t stars name ns)
type_stands at false t stars name ns = chained (lengths_stand at ns) (λ sizes. pure_stands _)
type_stands at true t stars name ns = chained (last_stands at ns) (λ n. chained (checks_stand (varchar_object_still at name n)) (λ own. chained (outer_stand at ns) (λ sizes. pure_stands _)))

pub item_leads : (at : Place) (global v : Bool) (t : Option TyData) (d : DeclaratorData) → Leads 1 1 (object_item at global v t d)
item_leads at global v t (declarator stars name ns init) =
    then_leads (stands_lead (type_stands at v t stars name ns)) (λ whole.
    then_leads (stands_lead (idle_stands (object_idle at (has_init init) whole))) (λ before.
    then_leads (stands_lead (ask_stands _)) (λ k.
    then_leads (stands_lead (checks_stand (declare_still at name _))) (λ a.
    then_leads (stands_lead (stored_stands _)) (λ site.
    then_leads (site_leads 1 site) (λ b.
    then_leads (stands_lead (initial_stands at global before init)) (λ made.
    then_leads (stands_lead (checks_stand (better_still name _))) (λ c.
    then_leads (number_leads 1 _) (λ d.
    then_leads (stands_lead (ask_stands _)) (λ size. stands_lead (made_stands site size init made.1)))))))))))

items_lead : (at : Place) (global v : Bool) (t : Option TyData) (ds : DeclaratorList) → Leads 1 1 (object_items at global v t ds)
items_lead at global v t no_declarators = stands_lead (pure_stands _)
items_lead at global v t (declarators d ds) = then_leads (item_leads at global v t d) (λ first. then_leads (items_lead at global v t ds) (λ more. stands_lead (pure_stands _)))

specifier_stands : (at : Place) (b : BaseData) (ds : DeclaratorList) → Stands (specifier at b ds)
specifier_stands at (tagged tag) no_declarators = checks_stand (tag_alone_still at tag)
specifier_stands at (tagged tag) (declarators d ds) = base_stands at (tagged tag)
specifier_stands at (words ws) ds = base_stands at (words ws)
specifier_stands at varchar ds = base_stands at varchar
specifier_stands at (struct_base t ms) ds = base_stands at (struct_base t ms)

pub declaration_leads : (global : Bool) (d : DeclData) → Leads 1 1 (declaration global d)
declaration_leads global (decl b items section line) =
    then_leads (stands_lead (checks_stand (place_still line))) (λ at. then_leads (stands_lead (specifier_stands at b items)) (λ t. items_lead at global (is_varchar b) t items))

param_leads : (at : Place) (defined : Bool) (p : ParamData) → Leads 1 1 (param at defined p)
param_leads at defined p =
    then_leads (stands_lead (base_stands at p.base)) (λ b.
    then_leads (stands_lead (lengths_stand at p.dims)) (λ sizes.
    then_leads (stands_lead (idle_stands (param_type_idle at b p.stars sizes))) (λ t.
    then_leads (stands_lead (ask_stands _)) (λ k.
    then_leads (stands_lead (checks_stand (declare_param_still at defined p.name k t))) (λ a.
    then_leads (number_leads 0 _) (λ c.
    then_leads (stands_lead (stored_stands _)) (λ site.
    then_leads (site_leads 0 site) (λ d.
    then_leads (stands_lead (ask_stands _)) (λ size.
    then_leads (stands_lead (arrange_stands _ (λ s. refl))) (λ e. stands_lead (pure_stands _)))))))))))

pub params_lead : (at : Place) (defined : Bool) (ps : List ParamData) → Leads 1 1 (params at defined ps)
params_lead at defined [] = stands_lead (pure_stands _)
params_lead at defined (p ∷ ps) = then_leads (param_leads at defined p) (λ t. then_leads (params_lead at defined ps) (λ ts. stands_lead (pure_stands _)))
