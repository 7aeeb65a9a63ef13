use Rattle.headline.proofs.Sentence.{one-inside, is-turn, is-headline}
use Rattle.headline.proofs.headline.Goals as goal

pub returns : goal.returns
returns c = λ start. record {
  one_inside = λ about s. one-inside _ _ _ _ about s;
  turn = λ old new call given before after result is.
      is-turn c.A.Returned.kind.says old new call given before after result is;
  history = is-headline;
}
