-- Callers that are joined, one behind the other.
use Rattle.std.specs.Prelude.{ℕ, ◌+◌, List, [], ◌∷◌}
use Rattle.book_trait.specs.declared.ended_book.EndedCaller.{EndedCaller, EndedCaller', Held-EndedCaller-next, None', Some'}

-- their numbers
abbrev mutual
  pub callers_in : EndedCaller → List ℕ
  callers_in (EndedCaller' caller again next) = caller ∷ callers_behind next

  pub callers_behind : Held-EndedCaller-next → List ℕ
  callers_behind None' = []
  callers_behind (Some' p n) = callers_in n

-- how often they were answered 'again', together
abbrev mutual
  pub again_in : EndedCaller → ℕ
  again_in (EndedCaller' caller again next) = again + again_behind next

  pub again_behind : Held-EndedCaller-next → ℕ
  again_behind None' = 0
  again_behind (Some' p n) = again_in n
