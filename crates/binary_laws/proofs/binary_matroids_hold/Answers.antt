use Rattle.binary_laws.proofs.Even.{even_places}
use Rattle.binary_laws.proofs.Laws.{means, meant, binary_is}
use Rattle.binary_laws.proofs.Odd.{binary_odd, graphic_odd}
use Rattle.binary_laws.proofs.binary_matroids_hold.Goals as goal

pub returns : goal.returns
returns c = record {
  is = binary_is;
  means = λ n v s. (means n v s, meant n v s);
  even = even_places;
  odd = binary_odd;
  graphic = graphic_odd;
}
