-- Which call it is, and what is found of it.
use Rattle.std.proofs.Common.{◌≡◌, ◌≢◌, ℕ, zero, suc, List, Some, None, refl, ap, ◌∙◌}
use Rattle.ec_ctypes.specs.declared.checked.library.LibName.{LibName}
use Rattle.ec_ctypes.specs.trees.Exprs.{ExprData, ExprList, no_exprs, exprs, integer, character, string, identifier, unary, binary, assign, bump, call, call_other, index, member, arrow, cast, size_type, size_expr}
use Rattle.ec_resolve_forms.specs.declared.resolver.Resolver.{Resolver}
use Rattle.ec_resolve_forms.specs.Seen.{from, IsReached}
use Rattle.ec_resolve_forms.proofs.Following.{reached_as}
use Rattle.ec_meaning_defs.specs.functions.Functions.{standard_output}
use Rattle.ec_language.specs.Letters.{Text}
use Rattle.ec_meaning_defs.specs.resolved.Resolved.{Exp}
use Rattle.ec_resolving_defs.specs.Operands as of
use Rattle.ec_resolving_defs.specs.Storage.{Resolving, chain, pure, checks, ask, stored}
use Rattle.ec_scopes.specs.Seen.{world_of, IsDone}
use Rattle.ec_resolve_values.specs.storage.Stored.{storage_of}
use Rattle.ec_typing_defs.specs.Library.{library_call}
use Rattle.ec_typing_defs.specs.Operands.{OperandData}
use Rattle.ec_typing_defs.specs.Worlds.{Rule, look_up}
use Rattle.ec_resolve_expressions.specs.call_forms.Printing.{stream_channel}

-- the name is that of a call of the library
pub of_library : (old : Resolver) (name : Text) (es : ExprList) (fs : List of.Found) (lib : LibName) {new : Resolver} {e : Exp} → Some lib ≡ library_call (world_of old.checker).written name
    → IsReached (from (of.library_exp lib es fs) old) new e → IsReached (from (of.called name es fs) old) new e
unfolding chain ask
of_library old name es fs lib h p = reached_as (λ i. (elim (h i) as (λ _. Resolving Exp) [ Some l ↦ of.library_exp l es fs | None ↦ of.function_called name es fs ]) (storage_of old.storage) (world_of old.checker)) p

-- the name is another one, and nothing changes
pub of_program : (old : Resolver) (name : Text) (es : ExprList) (fs : List of.Found) {e : Exp} → None ≡ library_call (world_of old.checker).written name
    → e ≡ of.call_exp (storage_of old.storage).defined name es fs (look_up name (world_of old.checker)) → IsReached (from (of.called name es fs) old) old e
unfolding chain ask stored
of_program old name es fs h e = reached_as (λ i. (elim (h i) as (λ _. Resolving Exp) [ Some l ↦ of.library_exp l es fs | None ↦ of.function_called name es fs ]) (storage_of old.storage) (world_of old.checker))
    (record { answer_is = e; storage_is = refl; world_is = refl })

-- what the checks find, with a form
pub form_done : (k : OperandData → of.Found) (m : Rule OperandData) (old new : Resolver) {o : OperandData} {f : of.Found} → f ≡ k o → IsDone (m (world_of old.checker)) old.checker new.checker o
    → storage_of new.storage ≡ storage_of old.storage → IsReached (from (of.with_form k m) old) new f
unfolding chain pure checks
form_done k m old new e d s = record { answer_is = e ∙ ap k d.answer_is; storage_is = s; world_is = d.world_is }

-- ---- the output of a format

pub no_stream : (n : ℕ) → standard_output ≡ of.channel_of n no_exprs
no_stream zero = refl
no_stream (suc n) = refl

pub no_stream_first : (es : ExprList) → standard_output ≡ of.channel_of zero es
no_stream_first no_exprs = refl
no_stream_first (exprs e es) = refl

pub first_stream : (n : ℕ) (e : ExprData) (es : ExprList) → n ≢ 0 → stream_channel e ≡ of.channel_of n (exprs e es)
first_stream zero e es h = absurd (h refl)
first_stream (suc n) (integer m t) es h = refl
first_stream (suc n) (character c) es h = refl
first_stream (suc n) (string s) es h = refl
first_stream (suc n) (identifier x) es h = refl
first_stream (suc n) (unary op a) es h = refl
first_stream (suc n) (binary op a b) es h = refl
first_stream (suc n) (assign op a b) es h = refl
first_stream (suc n) (bump before up a) es h = refl
first_stream (suc n) (call f bs) es h = refl
first_stream (suc n) (call_other f bs) es h = refl
first_stream (suc n) (index a b) es h = refl
first_stream (suc n) (member a m) es h = refl
first_stream (suc n) (arrow a m) es h = refl
first_stream (suc n) (cast b stars a) es h = refl
first_stream (suc n) (size_type b stars) es h = refl
first_stream (suc n) (size_expr a) es h = refl
