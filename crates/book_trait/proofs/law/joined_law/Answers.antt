use Rattle.book_trait.proofs.SharedLemmas.{all_theirs}
use Rattle.book_trait.proofs.law.joined_law.Goals as goal

pub returns : goal.returns
returns c = all_theirs
