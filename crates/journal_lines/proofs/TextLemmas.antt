-- The lines of the printed answers, one after the other.
use Rattle.std.proofs.Common.{◌≡◌, ℕ, suc, ◌+◌, ◌<◌, ◌≤◌, List, [], ◌∷◌, ◌++◌, length, map, sym, ap, ◌∙◌, arith, add-one, append_assoc, get_or, drop, drop-cons}
use Rattle.std.specs.Prelude.{All}
use Rattle.std.specs.Borrow.{Bor}
use Rattle.std.proofs.lemmas.List.{length-map}
use Rattle.std.proofs.lemmas.List.Sorted.{All-permutation, length_permutation}
use Rattle.std.proofs.lemmas.List.Elements.{All-nil, All-cons, All-head, All-tail}
use Rattle.fleet_base.specs.Terrain.{Terrain}
use Rattle.order_text.specs.declared.lane.Lane.{Lane}
use Rattle.order_text.specs.Lanes.{all_orders, AreLanes}
use Rattle.lane_runs.specs.declared.answer.Answer.{Answer}
use Rattle.lane_runs.specs.Answers.{order_of}
use Rattle.lane_runs.specs.Runs.{IsRun}
use Rattle.journal_lines.specs.declared.totals.Totals.{Totals}
use Rattle.journal_lines.specs.Totals.{with_answer}
use Rattle.journal_lines.specs.Lines.{answer_line, lines_from}
use Rattle.journal_lines.specs.Printing.{ArePrinted}
use Rattle.journal_lines.proofs.Numbering.{all_within}

-- one line more of those to come
pub lines_more : (g : Terrain) (lanes : List Lane) (t t' : Totals) (lines lines' : List (List ℕ)) (printed : List (Bor Answer)) (i : ℕ) (a : Bor Answer) (line : List ℕ) (whole : List (List ℕ))
    → i < length printed → a ≡ get_or printed i a → lines' ≡ lines ++ line ∷ [] → line ≡ answer_line g lanes t.cancelled a.now → t' ≡ with_answer t a.now
    → lines ++ lines_from g lanes t (map (λ b. b.now) (drop i printed)) ≡ whole → lines' ++ lines_from g lanes t' (map (λ b. b.now) (drop (i + 1) printed)) ≡ whole
lines_more g lanes t t' lines lines' printed i a line whole less is pushed written counted h =
    let later : List Answer = map (λ (b : Bor Answer). b.now) (drop (i + 1) printed) in
    let split : drop i printed ≡ a ∷ drop (i + 1) printed = rw (add-one, drop-cons printed i a) (ap (λ (z : Bor Answer). z ∷ drop (suc i) printed) (sym is)) in
    let first : map (λ (b : Bor Answer). b.now) (drop i printed) ≡ a.now ∷ later = ap (map (λ (b : Bor Answer). b.now)) split in
    let joined : (lines ++ line ∷ []) ++ lines_from g lanes (with_answer t a.now) later ≡ lines ++ (line ∷ lines_from g lanes (with_answer t a.now) later) = append_assoc lines (line ∷ []) _ in
    ap (λ (z : List (List ℕ) × Totals). z.0 ++ lines_from g lanes z.1 later) (λ k. (pushed k, counted k))
    ∙ (joined ∙ (ap (λ (z : List ℕ). lines ++ (z ∷ lines_from g lanes (with_answer t a.now) later)) written ∙ (ap (λ (l : List Answer). lines ++ lines_from g lanes t l) (sym first) ∙ h)))

module _ (cells : ℕ) (lanes : List Lane) (answers : List Answer) (printed : List (Bor Answer)) (are : AreLanes cells lanes) (run : IsRun lanes answers) (order : ArePrinted answers (map (λ b. b.now) printed)) where
  of_lent : (P : Answer → Type 0) (es : List (Bor Answer)) → All P (map (λ b. b.now) es) → All (λ b. P b.now) es
  of_lent P [] h = All-nil (λ b. P b.now)
  of_lent P (e ∷ es) h =
      All-cons (λ b. P b.now) e es (All-head P e.now (map (λ b. b.now) es) h) (of_lent P es (All-tail P e.now (map (λ b. b.now) es) h))

  -- each is an answer to an order of the lanes
  pub printed_within : All (λ b. order_of b.now < length (all_orders lanes)) printed
  printed_within =
      of_lent (λ a. order_of a < length (all_orders lanes)) printed
      (All-permutation (λ a. order_of a < length (all_orders lanes)) answers (map (λ b. b.now) printed) order.same
      (all_within answers record { cells = cells; lanes = lanes; are = are; run = run }))

  pub printed_few : length printed ≤ 32767
  printed_few =
      let few = are.few_orders in let whole = run.whole in
      omega (arith, length_permutation answers (map (λ b. b.now) printed) order.same, length_permutation run.by_number answers run.same, length-map printed (λ (b : Bor Answer). b.now))
