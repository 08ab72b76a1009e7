use Rattle.book_trait.proofs.SharedLemmas.{history}
use Rattle.book_trait.proofs.law.shared_law.Goals as goal

pub returns : goal.returns
returns c = history
