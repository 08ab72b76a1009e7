use Rattle.plain_book.proofs.Books.{kept_added}
use Rattle.plain_book.proofs.book.PlainBook.enter.Goals as goal

pub invariant_of-self-2 : goal.invariant_of-self-2
invariant_of-self-2 c =
    rw c.max-self-inside.ensures
    (kept_added c.self.inside.grid c.self.inside.horizon c.self.inside.stamp c.self.inside.routes.entries c.add_route.new.routes.entries c.self.inside.calendars
    c.add_route.new.calendars c.self.inside.searcher c.self.invariant c.add_route.ensures.size
    (c.add_route.ensures.ordered c.self.invariant.ordered) c.add_route.ensures.calendars c.args.id c.args.walk c.in_ok-add_route.ensures.ok)
