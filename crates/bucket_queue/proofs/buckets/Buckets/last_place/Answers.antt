use Rattle.std.proofs.Common.{rules, arith, refl, ◌≡◌, ◌<◌, ◌-◌, length}
use Rattle.std.specs.Prelude.{vec_len}
use Rattle.std.proofs.lemmas.Option.{slice_get_read}
use Rattle.bucket_queue.proofs.HeldLemmas.{none_has, one_place_more}
use Rattle.bucket_queue.proofs.buckets.Buckets.last_place.Goals as goal

pub returns-then-has_key-clause-some : goal.returns-then-has_key-clause-some
returns-then-has_key-clause-some c =
    let bs = c.args.self.now.by_key.items in
    let at = slice_get_read bs (length bs) c.args.key c.index-bucket.result.now refl c.requires.bound c.index-bucket.ensures in
    let len : vec_len c.index-bucket.result.now ≡ length c.index-bucket.result.now.items = search rules in
    let within : c.len-count.result - 1 - c.loop-back.back < length c.index-bucket.result.now.items = omega (arith, c.len-count.ensures, c.loop-back-test.true) in
    record {
      id = c.index.result.now;
      stands = record { bucket = c.index-bucket.result.now; at_key = at; at_place = slice_get_read c.index-bucket.result.now.items _ _ _ refl within c.index.ensures };
      has = c.if-has_key.ensures.yes;
      last = λ p other after stands. c.loop-back.invariant p other (omega (arith, c.loop-back-test.true)) stands;
    }

pub loop-back-preserved : goal.loop-back-preserved
loop-back-preserved c =
    let bs = c.args.self.now.by_key.items in
    let at = slice_get_read bs (length bs) c.args.key c.index-bucket.result.now refl c.requires.bound c.index-bucket.ensures in
    let len : vec_len c.index-bucket.result.now ≡ length c.index-bucket.result.now.items = search rules in
    let within : c.len-count.result - 1 - c.loop-back.back < length c.index-bucket.result.now.items = omega (arith, c.len-count.ensures, c.loop-back-test.true) in
    one_place_more bs c.args.self.now.keys.items c.args.key c.len-count.result c.loop-back.back c.index.result.now c.index-bucket.result.now at c.loop-back-test.true
    (slice_get_read c.index-bucket.result.now.items _ _ _ refl within c.index.ensures) c.if-has_key.ensures.no c.loop-back.invariant

pub returns-clause-none : goal.returns-clause-none
returns-clause-none c =
    none_has c.args.self.now.by_key.items c.args.self.now.keys.items c.args.key c.requires.held.there
    (λ p other stands. c.loop-back.invariant p other (omega (arith, c.loop-back-test.false)) stands)
