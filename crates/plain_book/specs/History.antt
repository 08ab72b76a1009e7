-- The answers of a book are a strong history.
use Rattle.std.specs.Prelude.{List}
use Rattle.fleet_base.specs.declared.request.Entry.{Entry}
use Rattle.fleet_base.specs.History.{Past, past_of, followed_by, IsStronglyAllowed, IsStrong}
use Rattle.plain_book.specs.BookState.{BookState, LeadsTo}

-- the entry may follow each past that leads to the book as it was, and leads on to the book as it is
pub record AnswersBook (old new : BookState) (e : Entry) : Type 0 where
  pub follows : (p : Past) → LeadsTo p old → IsStronglyAllowed old.grid old.horizon p e
  pub leads : (p : Past) → LeadsTo p old → LeadsTo (followed_by p e) new

-- a strong list of entries that leads to the book: a new book has the empty one, and each answer adds its entry
pub record IsHistoryOf (entries : List Entry) (s : BookState) : Type 0 where
  pub strong : IsStrong s.grid s.horizon entries
  pub leads : LeadsTo (past_of entries) s
