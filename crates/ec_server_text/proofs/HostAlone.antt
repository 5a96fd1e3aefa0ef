-- A host behind which no indicator begins.
use Rattle.std.proofs.Common.{◌≡◌, Bool, true, false, Option, Some, None, ap, ◌∙◌}
use Rattle.std.specs.Prelude.{codes}
use Rattle.ec_ctypes.specs.trees.Exprs.{ExprData}
use Rattle.ec_embedded.specs.shapes.ReadShapes.{done, and_then}
use Rattle.ec_language.proofs.Classes.{neither}
use Rattle.ec_embedded.specs.ServerText.{Tokens, begins_host, begins_indicator}
use Rattle.ec_embedded.specs.Terminals.{Counts, Begins, reference, keyword}
use Rattle.ec_references.specs.Readers.{Reader, returns, ◌>>=◌, ◌>>◌, taken}
use Rattle.ec_server_text.specs.Readers.{has_indicator, long_reference, long_indicator, long_host}

abbrev choice : Bool → Bool → Reader (Option ExprData)
choice x y = λ n w. elim x [
  | true ↦ (long_reference reference >>= (λ i. returns (Some i))) n w
  | false ↦ elim y [
    | true ↦ (taken (keyword (codes "INDICATOR")) >> (long_reference reference >>= (λ i. returns (Some i)))) n w
    | false ↦ done None n w
  ]
]

none_here : (n : Counts) (w : Tokens) → has_indicator w ≡ false → long_indicator n w ≡ done None n w
unfolding long_indicator
none_here n w e = let h = neither (begins_host w) (begins_indicator w) e in λ i. choice (h.0 i) (h.1 i) n w

pub host_alone : (b : Begins) (e : ExprData) (n m : Counts) (w r : Tokens) → long_reference b n w ≡ done e m r → has_indicator r ≡ false
    → long_host b n w ≡ done (record { value = e; indicator = None }) m r
unfolding long_host
host_alone b e n m w r read none =
    ap (λ o. and_then o (λ f k v. and_then (long_indicator k v) (λ i l u. done (record { value = f; indicator = i }) l u))) read
    ∙ ap (λ o. and_then o (λ i l u. done (record { value = e; indicator = i }) l u)) (none_here m r none)
