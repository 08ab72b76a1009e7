-- The answers of a book are a strong history.
use Rattle.std.proofs.Common.{◌≡◌, ℕ, ◌+◌, ◌<◌, ◌≤◌, ◌∷◌, sym, ap, subst, ◌∙◌, arith, not}
use Rattle.std.specs.Prelude.{All, filter, IsPermutation}
use Rattle.std.proofs.lemmas.List.Elements.{All-cons, All-weaker, All-filter}
use Rattle.std.proofs.lemmas.List.Sorted.{All-permutation, IsPermutation-sym, IsPermutation-trans, IsPermutation-cons, list_any-IsPermutation}
use Rattle.fleet_base.specs.declared.request.Live.{Live}
use Rattle.fleet_base.specs.declared.request.RouteId.{RouteId}
use Rattle.fleet_base.specs.declared.request.Request.{Request}
use Rattle.fleet_base.specs.declared.request.Entry.{Entry}
use Rattle.fleet_base.specs.declared.request.Entry.TheVariants.{Commit, Cancel, NoRoute}
use Rattle.fleet_base.specs.TimedWalk.{TimedWalk}
use Rattle.fleet_base.specs.History.{Past, IsAbove, IsNewStamp, same_id, followed_by}
use Rattle.fleet_base.proofs.Reorder.{Reorder-from_permutation, Reorder-sym, Reorder-filter, Reorder-is_permutation}
use Rattle.fleet_base.proofs.BookLemmas.{free-reorder, before_more, none_more}
use Rattle.fleet_base.proofs.HistoryLemmas.{strong-commit, strong-refuse}
use Rattle.plain_book.specs.BookState.{BookState, LeadsTo}
use Rattle.plain_book.specs.Replies.{IsCommit, IsRefusal, EndsRoute}
use Rattle.plain_book.specs.History.{AnswersBook}

module _ (s : BookState) (id : RouteId) (next : id.stamp ≡ s.stamp + 1) (room : s.stamp < 67108863) where
  -- each live route has a lower stamp
  all_lower : (p : Past) → LeadsTo p s → All (λ (r : Live). r.id.stamp < id.stamp) p.book
  all_lower p lead =
      All-weaker (λ (r : Live). r.id.stamp ≤ s.stamp) (λ r. r.id.stamp < id.stamp) (λ r h. omega arith) p.book
      (All-permutation (λ (r : Live). r.id.stamp ≤ s.stamp) s.routes p.book (IsPermutation-sym p.book s.routes lead.routes) lead.live_stamps)

  is_new : (p : Past) → LeadsTo p s → IsNewStamp id p.replies
  is_new p lead = record {
    low = omega arith;
    high = omega arith;
    above = All-weaker (λ (old : RouteId). old.stamp ≤ s.stamp) (IsAbove id) (λ old h _. omega arith) p.replies lead.stamps;
  }

  more_stamps : (p : Past) → LeadsTo p s → All (λ (old : RouteId). old.stamp ≤ s.stamp + 1) (id ∷ p.replies)
  more_stamps p lead =
      All-cons (λ (old : RouteId). old.stamp ≤ s.stamp + 1) id p.replies (omega arith)
      (All-weaker (λ (old : RouteId). old.stamp ≤ s.stamp) (λ old. old.stamp ≤ s.stamp + 1) (λ old h. omega arith) p.replies lead.stamps)

  more_live : (p : Past) → LeadsTo p s → All (λ (r : Live). r.id.stamp ≤ s.stamp + 1) s.routes
  more_live p lead = All-weaker (λ (r : Live). r.id.stamp ≤ s.stamp) (λ r. r.id.stamp ≤ s.stamp + 1) (λ r h. omega arith) s.routes lead.live_stamps

pub commit_answers : (old : BookState) (caller : ℕ) (q : Request) (id : RouteId) (era : ℕ) (asked : Request) (w : TimedWalk) (new : BookState) → IsCommit old caller q id era asked w new
    → old.stamp < 67108863 → AnswersBook old new (Commit id era asked w)
commit_answers old caller q id era asked w new is room =
    let next : id.stamp ≡ old.stamp + 1 = ap (λ (i : RouteId). i.stamp) is.id_is in
    subst (λ (r : Request). AnswersBook old new (Commit id era r w)) (sym is.request_is)
    (record {
      follows = λ p lead.
          let same = Reorder-from_permutation p.book old.routes lead.routes in
          strong-commit old.grid old.horizon p id era q w (all_lower old id next room p lead) (record {
            in_era = is.in_era ∙ sym lead.era;
            new_stamp = is_new old id next room p lead;
            least = record {
              walk_of = is.walk_is.least.walk_of;
              free = free-reorder w (Reorder-sym same) is.walk_is.least.free;
              least = before_more (λ v free. free-reorder v same free) is.walk_is.least.least;
            };
          });
      leads = λ p lead.
          let route : Live = record { id = id; walk = w } in
          let back : IsPermutation (route ∷ old.routes) new.routes = IsPermutation-sym new.routes (route ∷ old.routes) is.routes_are in
          subst (λ (s : BookState). LeadsTo (followed_by p (Commit id era q w)) s) (sym is.rest_is) (record {
            routes = IsPermutation-trans (route ∷ p.book) (route ∷ old.routes) new.routes (IsPermutation-cons route p.book old.routes lead.routes) back;
            era = lead.era;
            stamps = more_stamps old id next room p lead;
            live_stamps = All-permutation (λ (r : Live). r.id.stamp ≤ old.stamp + 1) (route ∷ old.routes) new.routes back
                (All-cons (λ (r : Live). r.id.stamp ≤ old.stamp + 1) route old.routes (omega arith) (more_live old id next room p lead));
          });
    })

pub refusal_answers : (old : BookState) (caller : ℕ) (q : Request) (stamp c era : ℕ) (asked : Request) (new : BookState) → IsRefusal old caller q stamp c era asked new
    → old.stamp < 67108863 → AnswersBook old new (NoRoute stamp c era asked)
refusal_answers old caller q stamp c era asked new is room =
    subst (λ (r : Request). AnswersBook old new (NoRoute stamp c era r)) (sym is.request_is)
    (record {
      follows = λ p lead.
          let same = Reorder-from_permutation p.book old.routes lead.routes in
          strong-refuse old.grid old.horizon p stamp c era q (all_lower old (record { stamp = stamp; caller = c }) is.stamp_is room p lead) (record {
            in_era = is.in_era ∙ sym lead.era;
            new_stamp = is_new old (record { stamp = stamp; caller = c }) is.stamp_is room p lead;
            none_free = none_more (λ v free. free-reorder v same free) is.none_free;
          });
      leads = λ p lead.
          subst (λ (s : BookState). LeadsTo (followed_by p (NoRoute stamp c era q)) s) (sym is.rest_is) (record {
            routes = lead.routes;
            era = lead.era;
            stamps = more_stamps old (record { stamp = stamp; caller = c }) is.stamp_is room p lead;
            live_stamps = more_live old (record { stamp = stamp; caller = c }) is.stamp_is room p lead;
          });
    })

pub end_answers : (old : BookState) (id : RouteId) (e : Entry) (new : BookState) → EndsRoute old id e new → AnswersBook old new e
end_answers old id e new is =
    subst (λ (x : Entry). AnswersBook old new x) (sym is.entry_is)
    (record {
      follows = λ p lead. (
        record {
          in_era = sym lead.era;
          live = list_any-IsPermutation (λ r. same_id r.id id) p.book old.routes lead.routes ∙ is.was_live;
        },
        tt,
      );
      leads = λ p lead.
          let same = Reorder-is_permutation (Reorder-filter (λ (r : Live). not (same_id r.id id)) (Reorder-from_permutation p.book old.routes lead.routes)) in
          let back = IsPermutation-sym new.routes (filter (λ r. not (same_id r.id id)) old.routes) is.routes_are in
          subst (λ (s : BookState). LeadsTo (followed_by p (Cancel id old.era)) s) (sym is.rest_is) (record {
            routes = IsPermutation-trans _ _ _ same back;
            era = ap (λ (n : ℕ). n + 1) lead.era;
            stamps = lead.stamps;
            live_stamps = All-permutation (λ (r : Live). r.id.stamp ≤ old.stamp) (filter (λ r. not (same_id r.id id)) old.routes) new.routes back
                (All-filter (λ r. not (same_id r.id id)) (λ (r : Live). r.id.stamp ≤ old.stamp) old.routes lead.live_stamps);
          });
    })
