use Rattle.std.proofs.Common.{rules, ap, ◌∙◌, [], length}
use Rattle.std.proofs.lemmas.List.{length-replicate}
use Rattle.plain_book.proofs.Keeping.{calendars_none}
use Rattle.plain_book.proofs.book.PlainBook.without_routes.Goals as goal

pub invariant_of-result : goal.invariant_of-result
invariant_of-result c =
    record {
      in_range = c.requires;
      size = ap length c.in_ok-calendars.ensures ∙ (length-replicate _ [] ∙ ap length c.cells.ensures.cells);
      searches = search rules;
      ordered = search rules;
      stamps = search rules;
      calendars_are = rw (c.new-3.ensures.empty, c.in_ok-calendars.ensures) (calendars_none _);
    }
