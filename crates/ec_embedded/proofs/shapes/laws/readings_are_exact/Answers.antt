use Rattle.ec_embedded.proofs.shapes_lemmas.Beginnings.{begins, once}
use Rattle.ec_embedded.proofs.shapes_lemmas.Exact.{exact}
use Rattle.ec_embedded.proofs.shapes_lemmas.Single.{single}
use Rattle.ec_embedded.proofs.shapes.laws.readings_are_exact.Goals as goal

pub returns : goal.returns
returns c = record {
  exact = λ l s h n w. exact l h.sound s h.deterministic n w;
  single = λ l s h n w a b. single l h.sound s h.deterministic n w a b;
  begins = λ l s h n w. begins l h.sound s h.deterministic n w;
  once = λ l s h n w a b. once l h.sound s h.deterministic n w a b;
}
