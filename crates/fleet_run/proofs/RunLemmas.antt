-- The run by one worker is printed in the order of its orders, and is a journal.
use Rattle.std.proofs.Common.{◌≡◌, ℕ, zero, suc, ◌+◌, ◌<◌, ◌≤◌, inl, inr, List, [], ◌∷◌, ◌++◌, length, take, get_or, map, Some, None, refl, sym, ap, ◌∙◌, subst, arith}
use Rattle.std.specs.Borrow.{Bor}
use Rattle.std.specs.Prelude.{All, slice_get}
use Rattle.std.specs.List.{concat}
use Rattle.std.proofs.lemmas.List.{take_more, map-append}
use Rattle.std.proofs.lemmas.List.Sums.{fold-append}
use Rattle.std.proofs.lemmas.Option.{slice_get-get_or, slice_get_within, slice_get_cases}
use Rattle.fleet_base.specs.declared.request.Entry.{Entry}
use Rattle.fleet_base.specs.Terrain.{Terrain}
use Rattle.fleet_base.specs.History.{Past, nothing, followed_by, IsAllowed, IsStronglyAllowed, EachFollows, IsStrong}
use Rattle.fleet_base.specs.Journal.{IsInOrder}
use Rattle.order_text.specs.declared.order.Order.{Order}
use Rattle.order_text.specs.declared.order.Order.TheVariants.{Plan, Cancel}
use Rattle.order_text.specs.declared.lane.Lane.{Lane}
use Rattle.order_text.specs.Lanes.{all_orders, AreNumberedFrom, AreLanes}
use Rattle.lane_runs.specs.declared.answer.Answer.{Answer}
use Rattle.lane_runs.specs.declared.answer.Answer.TheVariants.{Gone}
use Rattle.lane_runs.specs.Answers.{entries_made, order_of}
use Rattle.lane_runs.specs.Runs.{IsRun, KeepsLanes}
use Rattle.plain_book.specs.BookState.{BookState}
use Rattle.plain_run.specs.PlainRun.{IsPlainAnswer, IsPlainRun}
use Rattle.journal_lines.specs.declared.totals.Totals.{Totals}
use Rattle.journal_lines.specs.Totals.{no_totals, with_answer, totals_of}
use Rattle.journal_lines.specs.Lines.{journal_lines, last_line}
use Rattle.journal_lines.specs.Printing.{GoneStandBehind, AreAJournal}
use Rattle.fleet_run.specs.Workers.{AnswerLanes}
use Rattle.fleet_run.specs.Due.{IsRunText, IsLastLine}

legal_from : (g : Terrain) (horizon : ℕ) (p : Past) (entries : List Entry) → EachFollows (IsStronglyAllowed g horizon) p entries → EachFollows (IsAllowed g horizon) p entries
legal_from g horizon p [] h = tt
legal_from g horizon p (e ∷ es) h = (h.0.0, legal_from g horizon (followed_by p e) es h.1)

module _ (g : Terrain) (horizon : ℕ) (lanes : List Lane) (answers : List Answer) (plain : IsPlainRun g horizon (all_orders lanes) answers) where
  -- the order that an answer answers
  order_there : (k : ℕ) (a : Answer) → slice_get answers k ≡ Some a → (o : Order) × (slice_get (all_orders lanes) k ≡ Some o)
  order_there k a at = elim (slice_get_cases (all_orders lanes) k).1 [
    | inl here ↦ (here.0, here.2)
    | inr past ↦ let over = past.0 in absurd (omega (arith, over, plain.whole, slice_get_within answers k a at))
  ]

  number_is : (k : ℕ) (a : Answer) → slice_get answers k ≡ Some a → order_of a ≡ k
  number_is k a at = let there = order_there k a at in (plain.right.each k there.0 a there.1 at).0

  number_at : (k : ℕ) (d : Answer) → k < length answers → order_of (get_or answers k d) ≡ k
  number_at k d within = number_is k (get_or answers k d) (slice_get-get_or answers k d within)

  pub numbers_within : All (λ a. order_of a < length (all_orders lanes)) answers
  numbers_within k d within = let n = number_at k d within in omega (arith, plain.whole)

  keeps : KeepsLanes lanes answers
  keeps i j d less within one_lane = omega (arith, number_at i d (omega arith), number_at j d within)

  -- nothing is refused before the first answer
  none_first : (n target : ℕ) → slice_get answers 0 ≡ Some (Gone n target) → ⊥
  none_first n target at =
      let there = order_there 0 (Gone n target) at in
      by_order there.0 (plain.right.each 0 there.0 (Gone n target) there.1 at).1
    where
      by_order : (o : Order) → IsPlainAnswer g horizon [] o (Gone n target) → ⊥
      by_order (Plan q) h = h
      by_order (Cancel t) h = let r = h.1 in let e = r.at in cc

  gone : GoneStandBehind answers
  gone zero n target at = absurd (none_first n target at)
  gone (suc k) n target at = record {
    place = k;
    next = omega arith;
    before = get_or answers k (Gone n target);
    at = slice_get-get_or answers k (Gone n target) (omega (arith, slice_get_within answers (suc k) _ at));
    order = omega (arith, number_at k (Gone n target) (omega (arith, slice_get_within answers (suc k) _ at)), number_is (suc k) _ at);
  }

  pub journal_of : IsRun lanes answers → IsStrong g horizon (entries_made answers) → IsInOrder (entries_made answers) → AreAJournal g horizon lanes answers
  journal_of run strong in_order = record {
    run = run;
    legal = legal_from g horizon nothing (entries_made answers) strong;
    in_order = in_order;
    keeps = keeps;
    gone = gone;
  }

-- ---- in the words of the code

module _ (g : Terrain) (horizon : ℕ) (lanes : List Lane) (answers : List Answer) (book : BookState) (is : book ≡ record { grid = g; horizon = horizon; routes = []; stamp = 0; era = 0 })
    (plain : IsPlainRun book.grid book.horizon (all_orders lanes) answers) (run : IsRun lanes answers) (strong : IsStrong book.grid book.horizon (entries_made answers)) (in_order : IsInOrder (entries_made answers)) where
  grid : book.grid ≡ g
  grid = ap (λ (b : BookState). b.grid) is

  same : book.horizon ≡ horizon
  same = ap (λ (b : BookState). b.horizon) is

  plain_here : IsPlainRun g horizon (all_orders lanes) answers
  plain_here = subst (λ (z : Terrain × ℕ). IsPlainRun z.0 z.1 (all_orders lanes) answers) (λ j. (grid j, same j)) plain

  journal_here : AreAJournal g horizon lanes answers
  journal_here = journal_of g horizon lanes answers plain_here run (subst (λ (z : Terrain × ℕ). IsStrong z.0 z.1 (entries_made answers)) (λ j. (grid j, same j)) strong) in_order

  pub journal_text : (new : BookState) → new.grid ≡ book.grid → (text : List ℕ) → text ≡ concat (journal_lines new.grid lanes answers) → IsRunText g horizon lanes 1 text None
  journal_text new kept text says = record {
    printed = answers;
    journal = journal_here;
    by = (refl, plain_here);
    says = says ∙ ap (λ (h : Terrain). concat (journal_lines h lanes answers)) (kept ∙ grid);
  }

  pub last_text : (t : Totals) → t ≡ totals_of answers → (text : List ℕ) → text ≡ last_line t → IsLastLine g horizon lanes 1 text None
  last_text t counted text says = record {
    printed = answers;
    journal = journal_here;
    by = (refl, plain_here);
    says = says ∙ ap last_line counted;
  }

pub can_be_written : (g : Terrain) (horizon cells : ℕ) (lanes : List Lane) (answers : List Answer) → AreLanes cells lanes → IsPlainRun g horizon (all_orders lanes) answers
    → AnswerLanes lanes answers
can_be_written g horizon cells lanes answers are plain =
    let few = are.few_orders in
    (are.numbered, omega (arith, plain.whole), numbers_within g horizon lanes answers plain)

pub few_answers : (g : Terrain) (horizon cells : ℕ) (lanes : List Lane) (answers : List Answer) → AreLanes cells lanes → IsPlainRun g horizon (all_orders lanes) answers → length answers ≤ 32767
few_answers g horizon cells lanes answers are plain = let few = are.few_orders in omega (arith, plain.whole)

pub totals_more : (lent : List (Bor Answer)) (k : ℕ) (a : Bor Answer) → k < length lent → a ≡ get_or lent k a → totals_of (map (λ b. b.now) (take (k + 1) lent)) ≡ with_answer (totals_of (map (λ b. b.now) (take k lent))) a.now
totals_more lent k a within is =
    ap (λ l. totals_of (map (λ b. b.now) l)) (take_more lent k a within ∙ ap (λ (x : Bor Answer). take k lent ++ x ∷ []) (sym is)) ∙ ap totals_of (map-append (λ (b : Bor Answer). b.now) (take k lent) (a ∷ []))
    ∙ fold-append with_answer no_totals (map (λ b. b.now) (take k lent)) (a.now ∷ [])
