use Rattle.std.proofs.Common.{arith, refl, sym, ◌∙◌, ◌≡◌, ◌<◌, length}
use Rattle.std.specs.Prelude.{None}
use Rattle.std.proofs.Math.ListN.{length-set}
use Rattle.std.proofs.lemmas.Option.{slice_get_read, slice_get_within, same_Some}
use Rattle.bucket_queue.proofs.HeldLemmas.{stands_in, there_taken}
use Rattle.bucket_queue.proofs.buckets.Buckets.take_out.Goals as goal

pub returns-clause-held : goal.returns-clause-held
returns-clause-held c =
    let bs = c.args.self.now.by_key.items in
    let keys = c.args.self.now.keys.items in
    let last = c.requires.last in
    let lt : c.args.spot.key < length bs = slice_get_within _ _ _ last.stands.at_key in
    let read = slice_get_read bs (length bs) c.args.spot.key c.index.result.now refl lt c.index.ensures in
    let mine = stands_in bs c.args.spot.key c.index.result.now c.args.spot.place last.id read last.stands in
    let here = slice_get_read c.index.result.now.items _ c.args.spot.place c.index-2.result.now refl (slice_get_within _ _ _ mine) c.index-2.ensures in
    let same : c.index-2.result.now ≡ last.id = same_Some _ _ (sym here ∙ mine) in
    let at = slice_get_read bs (length bs) c.args.spot.key c.index_mut.result.now refl lt c.index_mut.ensures.value in
    record {
      there = there_taken bs keys c.requires.held.there c.args.spot.key c.index_mut.result.now c.truncate.new.self at c.index-2.result.now c.args.spot.place c.truncate.ensures.items
          (rw same (stands_in bs c.args.spot.key c.index_mut.result.now c.args.spot.place last.id at last.stands)) (rw same (slice_get_within _ _ _ last.has)) last.last;
      few = omega (arith, c.requires.held.few, length-set keys c.index-2.result.now None);
    }

pub returns-clause-queued : goal.returns-clause-queued
returns-clause-queued c =
    let bs = c.args.self.now.by_key.items in
    let last = c.requires.last in
    let lt : c.args.spot.key < length bs = slice_get_within _ _ _ last.stands.at_key in
    let read = slice_get_read bs (length bs) c.args.spot.key c.index.result.now refl lt c.index.ensures in
    let mine = stands_in bs c.args.spot.key c.index.result.now c.args.spot.place last.id read last.stands in
    let here = slice_get_read c.index.result.now.items _ c.args.spot.place c.index-2.result.now refl (slice_get_within _ _ _ mine) c.index-2.ensures in
    let same : c.index-2.result.now ≡ last.id = same_Some _ _ (sym here ∙ mine) in
    rw same last.has
