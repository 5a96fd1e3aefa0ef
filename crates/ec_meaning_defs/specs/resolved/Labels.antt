-- Whether a label, or a case of a `switch`, stands in a statement, however deep (6.8.1). A case belongs to the innermost `switch` round it (6.8.4.2), so none is looked for in a `switch` further in.
use Rattle.std.specs.Prelude.{ℕ, Bool, true, false, ◌||◌, ◌&&◌, nat_eq}
use Rattle.ec_meaning_defs.specs.resolved.Operations.{equal, compares}
use Rattle.ec_meaning_defs.specs.resolved.Resolved.{Mark, named, case, default, Stm, on_line, nothing, evaluate, declare, initialize, block, choose, loop, leave, next, return, goto, label, select, embedded_statement, Stms, no_stms, stms}

abbrev pub same : Mark → Mark → Bool
same (named m) (named l) = nat_eq m l
same (case y) (case z) = compares equal y z
same default default = true
same _ _ = false

abbrev pub is_named : Mark → Bool
is_named (named l) = true
is_named (case z) = false
is_named default = false

abbrev mutual
  pub holds : Mark → Stm → Bool
  holds l (on_line n s) = holds l s
  holds l nothing = false
  holds l (evaluate e) = false
  holds l (declare i size) = false
  holds l (initialize i size es) = false
  holds l (block sizes b) = holds_any l b
  holds l (choose e a b) = holds l a || holds l b
  holds l (loop first test behind s) = holds l s
  holds l leave = false
  holds l next = false
  holds l (return e) = false
  holds l (goto m) = false
  holds l (label m s) = same m l || holds l s
  holds l (select e s) = is_named l && holds l s
  holds l (embedded_statement n) = false

  pub holds_any : Mark → Stms → Bool
  holds_any l no_stms = false
  holds_any l (stms s ss) = holds l s || holds_any l ss
