use Rattle.std.proofs.lemmas.Result.{IfOk-weaker}
use Rattle.plain_book.proofs.Searching.{finds_walk}
use Rattle.plain_book.proofs.finding.find_counting.Goals as goal

pub returns-clause-found : goal.returns-clause-found
returns-clause-found g c =
    IfOk-weaker c.find_walk.result _ _ (λ found answer.
    finds_walk c.args.grid.now c.args.searcher.now.horizon c.args.request c.args.calendars.now c.find_walk.new.view.calendars.now c.find_walk.ensures.went found answer) c.find_walk.ensures.answer
