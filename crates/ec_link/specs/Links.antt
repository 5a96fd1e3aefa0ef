-- What boxed links tell. A clause names the links by their trait, as `talk_by ⟦<dyn Link as Link>⟧`.
use Rattle.std.specs.Prelude.{ℕ, Option}
use Rattle.std.specs.declared.alloc.Global.{Global}
use Rattle.std.specs.declared.dyn_box.DynBox.{DynBox}
use Rattle.ec_link.specs.declared.link.Link.{Ghosts}
use Rattle.ec_link.specs.Logged.{Talk}

module _ {X : Type 0} {F : X → Type 0} (links : (x : X) → Ghosts (F x)) where
  -- what was said over a link, where it tells it
  abbrev pub talk_by : DynBox X Global F → Option Talk
  talk_by b = (links b.vtable).talk b.value

  -- how often a link broke
  abbrev pub faults_by : DynBox X Global F → ℕ
  faults_by b = (links b.vtable).faults b.value
