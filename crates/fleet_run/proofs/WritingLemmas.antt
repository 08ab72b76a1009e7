-- A text that is written piece by piece.
use Rattle.std.proofs.Common.{◌≡◌, ℕ, zero, suc, ◌+◌, ◌<◌, ◌≤◌, inr, length, map, drop, get_or, List, [], ◌∷◌, ◌++◌, Option, Some, None, Result, Ok, Err, refl, sym, ap, ◌∙◌, subst, arith, append-nil, append_assoc}
use Rattle.std.specs.Borrow.{Bor}
use Rattle.std.specs.Prelude.{OnOk, All}
use Rattle.std.specs.List.{concat}
use Rattle.std.specs.Option.{option_map}
use Rattle.std.proofs.lemmas.List.{drop_more, length-map, get_or-map}
use Rattle.std.proofs.lemmas.List.Sorted.{All-permutation, length_permutation}
use Rattle.fleet_base.specs.Terrain.{Terrain}
use Rattle.fleet_io.specs.Written.{Writes, WritesFront}
use Rattle.order_text.specs.declared.lane.Lane.{Lane}
use Rattle.order_text.specs.Lanes.{all_orders}
use Rattle.lane_runs.specs.declared.answer.Answer.{Answer}
use Rattle.lane_runs.specs.Answers.{order_of}
use Rattle.journal_lines.specs.declared.totals.Totals.{Totals}
use Rattle.journal_lines.specs.Totals.{with_answer}
use Rattle.journal_lines.specs.Lines.{answer_line, last_line, lines_from}
use Rattle.fleet_run.specs.declared.writing.WriteStop.{WriteStop}
use Rattle.fleet_run.specs.declared.writing.WriteStop.TheVariants.{SinkFailed, NoMemory}
use Rattle.journal_lines.specs.Printing.{ArePrinted}
use Rattle.fleet_run.specs.Ended.{HasRisen}
use Rattle.fleet_run.specs.Workers.{AnswerLanes}
use Rattle.fleet_run.specs.Writing.{IsWritingOn, IsCut, IsCutOf, WritesOne}

writes_nothing : (old : Option (List ℕ)) → Writes old [] old
writes_nothing None = refl
writes_nothing (Some bytes) = ap (λ (b : List ℕ). Some b) (sym (append-nil bytes))

writes_both : (old middle new : Option (List ℕ)) (front piece : List ℕ) → Writes old front middle → Writes middle piece new → Writes old (front ++ piece) new
writes_both None middle new front piece a b = b ∙ ap (option_map (λ bytes. bytes ++ piece)) a
writes_both (Some bytes) middle new front piece a b = b ∙ ap (option_map (λ bytes. bytes ++ piece)) a ∙ ap (λ (x : List ℕ). Some x) (append_assoc bytes front piece)

pub write_begins : (old : Option (List ℕ)) (faults : ℕ) (text : List ℕ) → IsWritingOn old faults old faults text text
write_begins old faults text = record { front = []; is = refl; written = writes_nothing old; later = omega arith }

pub write_goes_on : (old middle new : Option (List ℕ)) (faults faults_then faults_now : ℕ) (text piece rest : List ℕ) → IsWritingOn old faults middle faults_then text (piece ++ rest) → Writes middle piece new → faults_then ≤ faults_now
    → IsWritingOn old faults new faults_now text rest
write_goes_on old middle new faults faults_then faults_now text piece rest was wrote later =
    let since = was.later in
    record { front = was.front ++ piece; is = was.is ∙ sym (append_assoc was.front piece rest); written = writes_both old middle new was.front piece was.written wrote; later = omega arith }

pub write_ends : (old new : Option (List ℕ)) (faults faults_now : ℕ) (text rest : List ℕ) → rest ≡ [] → IsWritingOn old faults new faults_now text rest → Writes old text new
write_ends old new faults faults_now text rest none was =
    subst (λ (t : List ℕ). Writes old t new) (sym (was.is ∙ ap (λ (r : List ℕ). was.front ++ r) none ∙ append-nil was.front)) was.written

-- where nothing more was written
pub write_stops : (old new : Option (List ℕ)) (faults faults_now : ℕ) (text rest : List ℕ) → IsWritingOn old faults new faults_now text rest → WritesFront old text new
write_stops old new faults faults_now text rest was = (was.front, rest, was.is, was.written)

raised_more : (a b c : ℕ) → a ≤ b → HasRisen b c → HasRisen a c
raised_more a b c le h = omega (arith, h)

-- where a write failed
pub write_fails : {T : Type 0} (old middle new : Option (List ℕ)) (faults faults_then faults_now : ℕ) (text piece rest : List ℕ) (result : Result T WriteStop)
    → IsWritingOn old faults middle faults_then text (piece ++ rest) → IsCut middle faults_then piece new faults_now result → IsCut old faults text new faults_now result
write_fails old middle new faults faults_then faults_now text piece rest (Ok done) was cut = tt
write_fails old middle new faults faults_then faults_now text piece rest (Err SinkFailed) was cut =
    ((was.front ++ cut.0.0, cut.0.1 ++ rest, text_is cut.0.0 cut.0.1 cut.0.2, writes_both old middle new was.front cut.0.0 was.written cut.0.3), raised_more faults faults_then faults_now was.later cut.1)
  where
    text_is : (a b : List ℕ) → piece ≡ a ++ b → text ≡ (was.front ++ a) ++ (b ++ rest)
    text_is a b is = was.is ∙ ap (λ (p : List ℕ). was.front ++ (p ++ rest)) is ∙ ap (λ (x : List ℕ). was.front ++ x) (append_assoc a b rest) ∙ sym (append_assoc was.front a (b ++ rest))
write_fails old middle new faults faults_then faults_now text piece rest (Err NoMemory) was cut =
    (was.front ++ cut.0, cut.1 ++ rest, text_is cut.0 cut.1 cut.2, writes_both old middle new was.front cut.0 was.written cut.3)
  where
    text_is : (a b : List ℕ) → piece ≡ a ++ b → text ≡ (was.front ++ a) ++ (b ++ rest)
    text_is a b is = was.is ∙ ap (λ (p : List ℕ). was.front ++ (p ++ rest)) is ∙ ap (λ (x : List ℕ). was.front ++ x) (append_assoc a b rest) ∙ sym (append_assoc was.front a (b ++ rest))

-- ---- the lines of a journal

drop_all : {X : Type 0} (k : ℕ) (xs : List X) → length xs ≤ k → drop k xs ≡ []
drop_all zero [] over = refl
drop_all zero (x ∷ xs) over = absurd (omega arith)
drop_all (suc k) [] over = refl
drop_all (suc k) (x ∷ xs) over = drop_all k xs (omega arith)

module _ (g : Terrain) (lanes : List Lane) (answers : List Answer) (old middle new : Option (List ℕ)) (faults faults_then faults_now : ℕ) (text : List ℕ) where
  abbrev rest_from : Totals → ℕ → List ℕ
  rest_from t k = concat (lines_from g lanes t (drop k answers))

  next_line : (t : Totals) (k : ℕ) (a : Answer) → k < length answers → a ≡ get_or answers k a → rest_from t k ≡ answer_line g lanes t.cancelled a ++ rest_from (with_answer t a) (k + 1)
  next_line t k a within is = ap (λ (l : List Answer). concat (lines_from g lanes t l)) (drop_more answers k a within ∙ ap (λ (x : Answer). x ∷ drop (k + 1) answers) (sym is))

  no_line : (t : Totals) (k : ℕ) → length answers ≤ k → rest_from t k ≡ last_line t ++ []
  no_line t k over = ap (λ (l : List Answer). concat (lines_from g lanes t l)) (drop_all k answers over)

  pub answer_written : (t u : Totals) (k : ℕ) (a : Answer) → IsWritingOn old faults middle faults_then text (rest_from t k) → k < length answers → a ≡ get_or answers k a
      → Writes middle (answer_line g lanes t.cancelled a) new → faults_then ≤ faults_now → u ≡ with_answer t a → IsWritingOn old faults new faults_now text (rest_from u (k + 1))
  answer_written t u k a was within is wrote later counted =
      subst (λ (x : Totals). IsWritingOn old faults new faults_now text (rest_from x (k + 1))) (sym counted)
      (write_goes_on old middle new faults faults_then faults_now text (answer_line g lanes t.cancelled a) (rest_from (with_answer t a) (k + 1))
      (subst (IsWritingOn old faults middle faults_then text) (next_line t k a within is) was) wrote later)

  pub answer_cut : {T : Type 0} (t : Totals) (k : ℕ) (a : Answer) (result : Result T WriteStop) → IsWritingOn old faults middle faults_then text (rest_from t k) → k < length answers → a ≡ get_or answers k a
      → IsCut middle faults_then (answer_line g lanes t.cancelled a) new faults_now result → IsCut old faults text new faults_now result
  answer_cut t k a result was within is cut =
      write_fails old middle new faults faults_then faults_now text (answer_line g lanes t.cancelled a) (rest_from (with_answer t a) (k + 1)) result
      (subst (IsWritingOn old faults middle faults_then text) (next_line t k a within is) was) cut

  pub totals_written : {T : Type 0} (t : Totals) (k : ℕ) (result : Result T WriteStop) → IsWritingOn old faults middle faults_then text (rest_from t k) → length answers ≤ k
      → OnOk result (Writes middle (last_line t) new) → OnOk result (Writes old text new)
  totals_written t k (Ok done) was over wrote =
      write_ends old new faults faults_then text [] refl
      (write_goes_on old middle new faults faults_then faults_then text (last_line t) [] (subst (IsWritingOn old faults middle faults_then text) (no_line t k over) was) wrote (omega arith))
  totals_written t k (Err stop) was over wrote = tt

  pub totals_cut : {T : Type 0} (t : Totals) (k : ℕ) (result : Result T WriteStop) → IsWritingOn old faults middle faults_then text (rest_from t k) → length answers ≤ k
      → IsCut middle faults_then (last_line t) new faults_now result → IsCut old faults text new faults_now result
  totals_cut t k result was over cut =
      write_fails old middle new faults faults_then faults_now text (last_line t) [] result (subst (IsWritingOn old faults middle faults_then text) (no_line t k over) was) cut

-- ---- answers that are lent

-- an answer at its place
pub lent_at : (lent : List (Bor Answer)) (k : ℕ) (a : Bor Answer) → k < length lent → a ≡ get_or lent k a → a.now ≡ get_or (map (λ b. b.now) lent) k a.now
lent_at lent k a less is = ap (λ (b : Bor Answer). b.now) is ∙ sym (get_or-map (λ (b : Bor Answer). b.now) lent k a a.now less)

pub lent_within : (lanes : List Lane) (lent : List (Bor Answer)) (k : ℕ) (a : Bor Answer) → AnswerLanes lanes (map (λ b. b.now) lent) → k < length lent → a ≡ get_or lent k a → order_of a.now < length (all_orders lanes)
lent_within lanes lent k a right less is =
    subst (λ (b : Answer). order_of b < length (all_orders lanes)) (sym (lent_at lent k a less is)) (right.2 k a.now (omega (arith, length-map lent (λ (b : Bor Answer). b.now))))

pub lent_few : (lanes : List Lane) (lent : List (Bor Answer)) → AnswerLanes lanes (map (λ b. b.now) lent) → length lent ≤ 32767
lent_few lanes lent right = let few = right.1 in omega (arith, length-map lent (λ (b : Bor Answer). b.now))

pub lent_longer : (lent : List (Bor Answer)) (k : ℕ) → k < length lent → k < length (map (λ (b : Bor Answer). b.now) lent)
lent_longer lent k less = omega (arith, length-map lent (λ (b : Bor Answer). b.now))

pub lent_past : (lent : List (Bor Answer)) (k : ℕ) → length lent ≤ k → length (map (λ (b : Bor Answer). b.now) lent) ≤ k
lent_past lent k past = omega (arith, length-map lent (λ (b : Bor Answer). b.now))

-- answers that are printed are to orders of the same lanes
pub printed_lanes : (lanes : List Lane) (answers : List Answer) (printed lent : List (Bor Answer)) → AnswerLanes lanes answers → ArePrinted answers (map (λ b. b.now) printed) → lent ≡ printed → AnswerLanes lanes (map (λ b. b.now) lent)
printed_lanes lanes answers printed lent right in_order lends =
    subst (λ l. AnswerLanes lanes (map (λ (b : Bor Answer). b.now) l)) (sym lends) (
      right.0,
      omega (arith, right.1, length_permutation answers (map (λ (b : Bor Answer). b.now) printed) in_order.same),
      All-permutation (λ a. order_of a < length (all_orders lanes)) answers (map (λ (b : Bor Answer). b.now) printed) in_order.same right.2,
    )

-- ---- a text that is one of some

pub one_written : {T : Type 0} (Text : List ℕ → Type 0) (old new : Option (List ℕ)) (text : List ℕ) (result : Result T WriteStop) → Text text → OnOk result (Writes old text new) → OnOk result (WritesOne Text old new)
one_written Text old new text (Ok done) is wrote = (text, is, wrote)
one_written Text old new text (Err stop) is wrote = tt

pub one_cut : {T : Type 0} (Text : List ℕ → Type 0) (old new : Option (List ℕ)) (faults now : ℕ) (text : List ℕ) (result : Result T WriteStop) → Text text → IsCut old faults text new now result → IsCutOf Text old faults new now result
one_cut Text old new faults now text (Ok done) is cut = tt
one_cut Text old new faults now text (Err SinkFailed) is cut = ((text, is, cut.0), cut.1)
one_cut Text old new faults now text (Err NoMemory) is cut = inr (text, is, cut)
