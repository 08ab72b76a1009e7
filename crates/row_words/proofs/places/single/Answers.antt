use Rattle.std.proofs.lemmas.Nat.{one_shl}
use Rattle.row_words.proofs.WordLemmas.{set_in_pow}
use Rattle.row_words.proofs.places.single.Goals as goal

pub returns : goal.returns
returns c = λ i. rw (one_shl c.args.place 64 c.requires) (set_in_pow c.args.place i)
