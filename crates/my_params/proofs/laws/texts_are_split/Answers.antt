use Rattle.my_params.proofs.Texts.{split_found, split_again}
use Rattle.my_params.proofs.laws.texts_are_split.Goals as goal

pub returns : goal.returns
returns c = λ text pieces. (split_again text pieces, split_found text pieces)
