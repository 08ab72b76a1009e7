-- The history of a book, entry by entry.
use Rattle.std.proofs.Common.{ℕ, ◌≤◌, List, [], ◌∷◌, ◌++◌, refl, sym, subst}
use Rattle.std.proofs.lemmas.Grind.{fold-append}
use Rattle.std.proofs.lemmas.List.Elements.{All-nil}
use Rattle.std.proofs.lemmas.List.Sorted.{IsPermutation-refl}
use Rattle.fleet_base.specs.declared.request.RouteId.{RouteId}
use Rattle.fleet_base.specs.declared.request.Live.{Live}
use Rattle.fleet_base.specs.declared.request.Entry.{Entry}
use Rattle.fleet_base.specs.Terrain.{Terrain}
use Rattle.fleet_base.specs.History.{Past, nothing, followed_by, past_of, IsStronglyAllowed, IsStrong}
use Rattle.fleet_base.proofs.HistoryLemmas.{follows_push}
use Rattle.plain_book.specs.BookState.{BookState, LeadsTo, IsOnSameGrid}
use Rattle.plain_book.specs.History.{AnswersBook, IsHistoryOf}

-- a book without routes has the empty history
pub history_none : (g : Terrain) (horizon : ℕ) → IsHistoryOf [] (record { grid = g; horizon = horizon; routes = []; stamp = 0; era = 0 })
history_none g horizon = record {
  strong = tt;
  leads = record { routes = IsPermutation-refl []; era = refl; stamps = All-nil (λ (id : RouteId). id.stamp ≤ 0); live_stamps = All-nil (λ (r : Live). r.id.stamp ≤ 0) };
}

-- an answer adds its entry
pub history_more : (entries : List Entry) (e : Entry) (old new : BookState) → IsHistoryOf entries old → AnswersBook old new e → IsOnSameGrid old new → IsHistoryOf (entries ++ e ∷ []) new
history_more entries e old new history answers same = record {
  strong = subst (λ (g : Terrain). IsStrong g new.horizon (entries ++ e ∷ [])) (sym same.grid)
      (subst (λ (n : ℕ). IsStrong old.grid n (entries ++ e ∷ [])) (sym same.horizon)
      (follows_push (IsStronglyAllowed old.grid old.horizon) nothing entries e history.strong (answers.follows (past_of entries) history.leads)));
  leads = subst (λ (p : Past). LeadsTo p new) (sym (fold-append followed_by nothing entries (e ∷ []))) (answers.leads (past_of entries) history.leads);
}
