use Rattle.static_distance.proofs.SpanLemmas.{entered_none, spans_here, spans_next, entered_here, entered_next}
use Rattle.static_distance.proofs.distances.Distances.enter.Goals as goal

pub returns-then-entered-eq0-clause-entered : goal.returns-then-entered-eq0-clause-entered
returns-then-entered-eq0-clause-entered c =
    entered_none c.args.grid.now c.args.self.now c.look_at.new.self c.args.span c.args.word c.index.result.now c.both-entered.result
    c.requires.span c.look_at.ensures.looked c.index.ensures c.both-entered.ensures c.args.closer c.if-entered-eq0.true

pub returns-in_ok-add_after_farther-clause-spans : goal.returns-in_ok-add_after_farther-clause-spans
returns-in_ok-add_after_farther-clause-spans c =
    spans_here c.args.grid.now c.look_at.new.self c.args.span c.both-entered.result c.requires.span c.look_at.ensures.looked.spans c.look_at.ensures.looked.known
    c.add_after_farther.new.self c.in_ok-add_after_farther.ensures.added c.in_ok-add_after_farther.ensures.words

pub returns-in_ok-add_after_farther-clause-entered : goal.returns-in_ok-add_after_farther-clause-entered
returns-in_ok-add_after_farther-clause-entered c =
    entered_here c.args.grid.now c.args.self.now c.look_at.new.self c.args.span c.args.word c.index.result.now c.both-entered.result
    c.requires.span c.look_at.ensures.looked c.index.ensures c.both-entered.ensures c.add_after_farther.new.self c.args.closer c.if-closer.true c.in_ok-add_after_farther.ensures.added c.in_ok-add_after_farther.ensures.words

pub returns-in_ok-add-clause-spans : goal.returns-in_ok-add-clause-spans
returns-in_ok-add-clause-spans c =
    spans_next c.args.grid.now c.look_at.new.self c.args.span c.both-entered.result c.requires.span c.look_at.ensures.looked.spans c.look_at.ensures.looked.known
    c.add.new.self c.in_ok-add.ensures.added c.in_ok-add.ensures.words

pub returns-in_ok-add-clause-entered : goal.returns-in_ok-add-clause-entered
returns-in_ok-add-clause-entered c =
    entered_next c.args.grid.now c.args.self.now c.look_at.new.self c.args.span c.args.word c.index.result.now c.both-entered.result
    c.requires.span c.look_at.ensures.looked c.index.ensures c.both-entered.ensures c.add.new.self c.args.closer c.if-closer.false
    c.in_ok-add.ensures.added c.in_ok-add.ensures.words
