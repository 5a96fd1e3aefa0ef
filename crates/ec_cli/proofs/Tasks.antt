-- What words ask for is one thing.
use Rattle.std.proofs.Common.{◌≡◌, ℕ, List, subst}
use Rattle.std.specs.Prelude.{String}
use Rattle.std.specs.declared.alloc.Global.{Global as Allocator}
use Rattle.ec_cli.specs.declared.form.Form.{Form}
use Rattle.ec_cli.specs.Tasks.{IsUnnamed, IsTranslating, HasTurns}

-- no run is a translation
pub never_both : (words : List (String Allocator)) (form : Form) (turns : ℕ) → HasTurns words form turns → IsTranslating words → ⊥
never_both words form turns h k = cc (h, k)

-- and neither is unnamed
pub run_named : (words : List (String Allocator)) (form : Form) (turns : ℕ) → HasTurns words form turns → IsUnnamed words → ⊥
run_named words form turns h k = cc (h, k)

pub translation_named : (words : List (String Allocator)) → IsTranslating words → IsUnnamed words → ⊥
translation_named words h k = cc (h, k)

-- words name the run of one form alone, for one number of turns
same_form : (words : List (String Allocator)) (f g : Form) (m n : ℕ) → HasTurns words f m → HasTurns words g n → f ≡ g
same_form words f g m n h k = cc (h, k)

same_turns : (words : List (String Allocator)) (f g : Form) (m n : ℕ) → HasTurns words f m → HasTurns words g n → m ≡ n
same_turns words f g m n h k = cc (h, k)

-- what holds of the run that words name holds of it under each name
pub as_named : (words : List (String Allocator)) (P : Form → ℕ → Type 0) (f g : Form) (m n : ℕ) → HasTurns words f m → HasTurns words g n → P f m → P g n
as_named words P f g m n h k p =
    subst (λ w. P g w) (same_turns words f g m n h k) (subst (λ w. P w m) (same_form words f g m n h k) p)
