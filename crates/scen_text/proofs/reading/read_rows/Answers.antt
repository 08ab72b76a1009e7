use Rattle.std.proofs.Common.{◌≡◌, ◌∙◌, sym, ◌++◌, cond, true, false, [], ◌∷◌, arith}
use Rattle.std.proofs.lemmas.List.{append-nil}
use Rattle.scen_text.specs.ScenGrammar.{is_kept}
use Rattle.scen_text.proofs.RowLemmas.{goes_on, bad_row, is_done, kept_room, kept_length, kept_few, kept_on_grid}
use Rattle.scen_text.proofs.reading.read_rows.Goals as goal
use Rattle.scen_text.proofs.reading.read_rows.Goals.{then-is_kept+in_ok-push, else-is_kept}

pub returns-in-Err-clause-rows : goal.returns-in-Err-clause-rows
returns-in-Err-clause-rows c =
    rw c.fault.ensures (bad_row c.args.grid.now c.args.take c.loop-found.index _ _ _ c.loop-found.requests.items c.in-Err.kind _ c.in-Some.ensures.line (sym c.next_row.ensures.row ∙ c.in-Err.is) c.loop-found.invariant.rows)

pub loop-found-preserved : goal.loop-found-preserved
loop-found-preserved c =
    let items : c.if-is_kept.requests.items ≡ c.loop-found.requests.items ++ cond (is_kept c.args.take c.loop-found.index) (c.in-Ok.request ∷ []) []
    = elim c.if-is_kept.branch [
      | then-is_kept+in_ok-push w ↦ let yes : is_kept c.args.take c.loop-found.index ≡ true = sym c.is_kept.ensures ∙ w.if-is_kept.true in rw (yes, w.requests-is) w.in_ok-push.ensures.items
      | else-is_kept w ↦ let no : is_kept c.args.take c.loop-found.index ≡ false = sym c.is_kept.ensures ∙ w.if-is_kept.false in rw (no, w.requests-is) (sym (append-nil c.loop-found.requests.items))
    ] in
    record {
      rows = rw items (goes_on c.args.grid.now c.args.take c.loop-found.index _ _ _ c.loop-found.requests.items c.in-Ok.request _ c.in-Some.ensures.line (sym c.next_row.ensures.row ∙ c.in-Ok.is) c.loop-found.invariant.rows);
      read = omega (arith, c.in-Some.ensures.room);
      counted = omega (arith, c.in-Some.ensures.shorter);
      kept = rw items (kept_length c.loop-found.requests.items c.in-Ok.request _ c.loop-found.index c.loop-found.invariant.kept);
      few = rw items (kept_few c.loop-found.requests.items c.in-Ok.request _ c.loop-found.index c.loop-found.invariant.kept c.loop-found.invariant.few
          (kept_room c.args.take c.loop-found.index c.requires.few c.in-Ok.ensures.room));
      on_grid = rw items (kept_on_grid c.args.grid.now c.loop-found.requests.items c.in-Ok.request _ c.loop-found.invariant.on_grid c.in-Ok.ensures.on_grid);
    }

pub returns-clause-rows : goal.returns-clause-rows
returns-clause-rows c = is_done c.args.grid.now c.args.take c.loop-found.index _ c.loop-found.requests.items _ c.in_default.ensures.line c.loop-found.invariant.rows
