use Rattle.std.proofs.Common.{arith, refl, length}
use Rattle.std.specs.Prelude.{Some}
use Rattle.std.proofs.Math.ListN.{length-set}
use Rattle.std.proofs.lemmas.Option.{slice_get_read}
use Rattle.bucket_queue.proofs.HeldLemmas.{there_same, there_put}
use Rattle.bucket_queue.proofs.buckets.Buckets.put.Goals as goal

pub returns-in_err-push-clause-held : goal.returns-in_err-push-clause-held
returns-in_err-push-clause-held c =
    let bs = c.args.self.now.by_key.items in
    let at = slice_get_read bs (length bs) c.args.key c.index_mut.result.now refl c.requires.bound c.index_mut.ensures.value in
    record {
      there = there_same bs c.args.self.now.keys.items c.requires.held.there c.args.key c.index_mut.result.now c.push.new.self at c.in_err-push.ensures.items;
      few = c.requires.held.few;
    }

pub returns-clause-held : goal.returns-clause-held
returns-clause-held c =
    let bs = c.args.self.now.by_key.items in
    let at = slice_get_read bs (length bs) c.args.key c.index_mut.result.now refl c.requires.bound c.index_mut.ensures.value in
    record {
      there = there_put bs c.args.self.now.keys.items c.requires.held.there c.args.key c.index_mut.result.now c.push.new.self at c.args.id c.in_ok-push.ensures.items c.requires.known;
      few = omega (arith, c.requires.held.few, length-set c.args.self.now.keys.items c.args.id (Some c.args.key));
    }
