use Rattle.std.proofs.Common.{rules, arith, refl, ◌≡◌, ◌∷◌, ◌++◌, [], Some, length, length-append}
use Rattle.std.specs.Prelude.{vec_len}
use Rattle.std.proofs.lemmas.Option.{slice_get_read}
use Rattle.bucket_queue.proofs.HeldLemmas.{there_same, there_more, there_added}
use Rattle.bucket_queue.proofs.buckets.Buckets.add_at.Goals as goal

pub returns-in_err-push-clause-held : goal.returns-in_err-push-clause-held
returns-in_err-push-clause-held c =
    let bs = c.args.self.now.by_key.items in
    let at = slice_get_read bs (length bs) c.args.key c.index_mut.result.now refl c.requires.bound c.index_mut.ensures.value in
    record {
      there = there_same bs c.args.self.now.keys.items c.requires.held.there c.args.key c.index_mut.result.now c.push.new.self at c.in_err-push.ensures.items;
      few = c.requires.held.few;
    }

pub returns-in_err-push-2-clause-held : goal.returns-in_err-push-2-clause-held
returns-in_err-push-2-clause-held c =
    let bs = c.args.self.now.by_key.items in
    let at = slice_get_read bs (length bs) c.args.key c.index_mut.result.now refl c.requires.bound c.index_mut.ensures.value in
    record {
      there = rw c.in_err-push-2.ensures.items (there_more bs c.args.self.now.keys.items c.requires.held.there c.args.key c.index_mut.result.now c.push.new.self at _ c.in_ok-push.ensures.items);
      few = rw c.in_err-push-2.ensures.items c.requires.held.few;
    }

pub returns-clause-held : goal.returns-clause-held
returns-clause-held c =
    let bs = c.args.self.now.by_key.items in
    let keys = c.args.self.now.keys.items in
    let at = slice_get_read bs (length bs) c.args.key c.index_mut.result.now refl c.requires.bound c.index_mut.ensures.value in
    let len : vec_len c.args.self.now.keys ≡ length keys = search rules in
    let count : c.len-next.result ≡ length keys = omega (arith, c.len-next.ensures) in
    let items : c.push.new.self.items ≡ c.index_mut.result.now.items ++ length keys ∷ [] = rw (← count) c.in_ok-push.ensures.items in
    record {
      there = rw c.in_ok-push-2.ensures.items (there_added bs keys c.requires.held.there c.args.key c.index_mut.result.now c.push.new.self at items);
      few = rw c.in_ok-push-2.ensures.items (omega (arith, length-append keys (Some c.args.key ∷ []), c.if-next.false));
    }
