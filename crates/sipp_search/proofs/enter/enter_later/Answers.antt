use Rattle.std.proofs.Common.{arith, subst, sym, ap, refl, ◌∙◌, ◌≡◌, ◌-◌, ℕ, length}
use Rattle.safe_intervals.specs.Safe.{IsGapAt, NoneSafeAt}
use Rattle.sipp_search.specs.Progress.{IsUnderWay}
use Rattle.sipp_search.proofs.Marking.{improves-trans}
use Rattle.sipp_search.proofs.Places.{few_before, in_gap}
use Rattle.sipp_search.proofs.Entering.{between_more, between_none, between_over, past_all, past_last, last_arrival}
use Rattle.sipp_search.proofs.enter.enter_later.Goals.{in-Some-gap_since+then-entry-interval+in_ok-enter_at, in-Some-gap_since+else-entry-interval, in_default-gap_since}
use Rattle.sipp_search.proofs.enter.enter_later.Goals as goal

pub calendar-here-requires : goal.calendar-here-requires
calendar-here-requires g c =
    let of = c.requires.sound.arranged.each c.requires.placed.0 c.args.from c.requires.placed.1 in
    rw of.known_is refl

pub last_entry-requires-clause-times : goal.last_entry-requires-clause-times
last_entry-requires-clause-times g c =
    let of = c.requires.sound.arranged.each c.requires.placed.0 c.args.from c.requires.placed.1 in
    omega (arith, of.safe.within, c.requires.ready.in_range)

pub enter_at-requires-clause-to : goal.enter_at-requires-clause-to
enter_at-requires-clause-to g c =
    let gap : IsGapAt c.calendar-there.result.now c.args.task.now.horizon c.loop-place.place c.in-Some-gap_since.interval = rw c.records-records.ensures.value at c.in-Some-gap_since.ensures.gap in
    record { records = c.calendar-there.result.now; known_is = c.calendar-there.ensures; safe = gap.safe; distance = c.requires.distance; place_is = gap.place_is }

pub overflow_cast-spot : goal.overflow_cast-spot
overflow_cast-spot g c =
    let gap : IsGapAt c.calendar-there.result.now c.args.task.now.horizon c.loop-place.place c.in-Some-gap_since.interval = rw c.records-records.ensures.value at c.in-Some-gap_since.ensures.gap in
    let few = few_before c.calendar-there.result.now c.args.task.now.horizon c.loop-place.place c.in-Some-gap_since.interval c.records-records.ensures.ordered gap in
    omega (arith, few, gap.safe.some, gap.safe.within, c.requires.ready.in_range)

pub returns-clause-led : goal.returns-clause-led
returns-clause-led g c = λ a x agrees source way.
    (let both = c.loop-place.invariant.led a x agrees source way in
    let there : a c.args.to.0 ≡ c.calendar-there.result.now = agrees c.args.to.0 _ c.calendar-there.ensures in (
      both.0,
      past_all c.args.task.now.grid.now c.args.task.now.request c.args.task.now.horizon a c.args.from c.args.arrival c.args.to c.calendar-there.result.now there
          c.loop-place.arena.states.items c.args.first c.loop-place.place both.1 (omega (arith, c.loop-place-test.false, ap length c.records-records.ensures.value)),
    ))

pub returns-in_default-clause-led : goal.returns-in_default-clause-led
returns-in_default-clause-led g c = λ a x agrees source way.
    (way, (λ t k since until low move near in_time. absurd (omega (arith, c.in_default.ensures.none, since, in_time, c.requires.distance.least near.left near.way, near.below))))

pub returns-in_default-begin_by-clause-led : goal.returns-in_default-begin_by-clause-led
returns-in_default-begin_by-clause-led g c = λ a x agrees source way.
    (let both = c.loop-place.invariant.led a x agrees source way in
    let records = c.calendar-there.result.now in
    let there : a c.args.to.0 ≡ records = agrees c.args.to.0 _ c.calendar-there.ensures in
    let latest = last_arrival c.args.task.now.grid.now c.args.task.now.request c.args.task.now.horizon c.args.from c.args.to c.args.left (c.args.task.now.horizon - c.args.left) c.in-Some.last c.requires.distance
    (omega arith) c.in-Some.ensures.some.0 in
    let gone = rw c.records-records.ensures.value at c.in_default-begin_by.ensures.none in (
      both.0,
      past_last c.args.task.now.grid.now c.args.task.now.request c.args.task.now.horizon a c.args.from c.args.arrival c.args.to records there
          c.loop-place.arena.states.items c.args.first c.loop-place.place _ gone.1.0 both.1 gone.0 gone.1.1 gone.1.2 latest,
    ))

pub loop-place-preserved : goal.loop-place-preserved
loop-place-preserved g c = elim c.match-gap_since.branch [
  | in-Some-gap_since+then-entry-interval+in_ok-enter_at w ↦
      let gap : IsGapAt c.calendar-there.result.now c.args.task.now.horizon c.loop-place.place w.in-Some-gap_since.interval = rw c.records-records.ensures.value at w.in-Some-gap_since.ensures.gap in
      rw w.arena-is (record {
        sound = w.in_ok-enter_at.ensures.sound;
        floor = w.in_ok-enter_at.ensures.floor ∙ c.loop-place.invariant.floor;
        spots = λ i p at. w.in_ok-enter_at.ensures.spots i p (c.loop-place.invariant.spots i p at);
        improves = improves-trans _ _ _ c.loop-place.invariant.improves w.in_ok-enter_at.ensures.improves;
        led = λ a x agrees source way.
            (let terrain = c.args.task.now.grid.now in
            let q = c.args.task.now.request in
            let horizon = c.args.task.now.horizon in
            let records = c.calendar-there.result.now in
            let there : a c.args.to.0 ≡ records = agrees c.args.to.0 _ c.calendar-there.ensures in
            let before = c.loop-place.invariant.led a x agrees source way in
            let step = w.in_ok-enter_at.ensures.led a x c.args.arrival agrees source (omega (arith, w.max-entry.ensures, w.in-Some-gap_since.ensures.from))
            (subst (λ (n : ℕ). IsUnderWay terrain q horizon a c.loop-place.arena.states.items n x) (sym c.loop-place.invariant.floor) before.0) in (
              subst (λ (n : ℕ). IsUnderWay terrain q horizon a w.enter_at.new.arena.states.items n x) c.loop-place.invariant.floor step.0,
              between_more terrain q horizon a c.args.from c.args.arrival c.args.to records there c.loop-place.arena.states.items w.enter_at.new.arena.states.items c.args.first c.loop-place.place
                  w.in-Some-gap_since.interval w.in_ok-enter_at.ensures.improves before.1 step.1
                  (in_gap records horizon c.loop-place.place w.in-Some-gap_since.interval c.records-records.ensures.ordered gap),
            ));
      })
  | in-Some-gap_since+else-entry-interval w ↦
      let gap : IsGapAt c.calendar-there.result.now c.args.task.now.horizon c.loop-place.place w.in-Some-gap_since.interval = rw c.records-records.ensures.value at w.in-Some-gap_since.ensures.gap in
      rw w.arena-is (record {
        sound = c.loop-place.invariant.sound;
        floor = c.loop-place.invariant.floor;
        spots = c.loop-place.invariant.spots;
        improves = c.loop-place.invariant.improves;
        led = λ a x agrees source way.
            (let horizon = c.args.task.now.horizon in
            let records = c.calendar-there.result.now in
            let there : a c.args.to.0 ≡ records = agrees c.args.to.0 _ c.calendar-there.ensures in
            let before = c.loop-place.invariant.led a x agrees source way in (
              before.0,
              between_over c.args.task.now.grid.now c.args.task.now.request horizon a c.args.from c.args.arrival c.args.to records there
                  c.loop-place.arena.states.items c.args.first c.loop-place.place w.in-Some-gap_since.interval before.1 (omega (arith, w.max-entry.ensures, w.in-Some-gap_since.ensures.from, w.if-entry-interval.false))
                  (in_gap records horizon c.loop-place.place w.in-Some-gap_since.interval c.records-records.ensures.ordered gap),
            ));
      })
  | in_default-gap_since w ↦
      let none : NoneSafeAt c.calendar-there.result.now c.args.task.now.horizon c.loop-place.place = rw (w.in_default-gap_since.is, c.records-records.ensures.value) at c.gap_since.ensures.gap in
      rw w.arena-is (record {
        sound = c.loop-place.invariant.sound;
        floor = c.loop-place.invariant.floor;
        spots = c.loop-place.invariant.spots;
        improves = c.loop-place.invariant.improves;
        led = λ a x agrees source way.
            (let there : a c.args.to.0 ≡ c.calendar-there.result.now = agrees c.args.to.0 _ c.calendar-there.ensures in
            let before = c.loop-place.invariant.led a x agrees source way in (
              before.0,
              between_none c.args.task.now.grid.now c.args.task.now.request c.args.task.now.horizon a c.args.from c.args.arrival c.args.to c.calendar-there.result.now there
                  c.loop-place.arena.states.items c.args.first c.loop-place.place before.1 none,
            ));
      })
]
