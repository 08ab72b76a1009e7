use Rattle.std.proofs.Common.{◌⊎◌, inl, inr}
use Rattle.row_words.specs.Words.{IsSet, LeadsTo}
use Rattle.row_words.proofs.WordLemmas.{set_below}
use Rattle.row_words.proofs.flow.next_to.Goals as goal

pub returns : goal.returns
returns c = λ i. (
  λ set. (let new = (c.without.ensures i).0 set in
      let open_place = (c.both-3.ensures i).0 new.0 in
      let leads : LeadsTo c.args.word c.args.up c.args.down i = elim ((c.either.ensures i).0 open_place.0) [
        | inl risen ↦ (let from = (c.raised-risen.ensures i).0 risen in
            let is = (c.both.ensures from.0).0 from.3 in
            inl (from.0, from.1, is.0, is.1))
        | inr fallen ↦ inr ((c.both-2.ensures _).0 ((c.lowered-fallen.ensures i).0 fallen))
      ] in
      (leads, open_place.1, new.1)),
  λ next. (let comes : IsSet c.raised-risen.result i ⊎ IsSet c.lowered-fallen.result i = elim next.0 [
    | inl (j, after, set, rises) ↦ inl ((c.raised-risen.ensures i).1 (j, after, set_below c.args.free i c.ranges.free.fits next.1, (c.both.ensures j).1 (set, rises)))
    | inr is ↦ inr ((c.lowered-fallen.ensures i).1 ((c.both-2.ensures _).1 is))
  ] in
      (c.without.ensures i).1 ((c.both-3.ensures i).1 ((c.either.ensures i).1 comes, next.1), next.2)),
)
