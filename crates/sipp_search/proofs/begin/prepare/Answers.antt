use Rattle.std.proofs.Common.{ap, ◌∙◌, ℕ, replicate}
use Rattle.bucket_queue.specs.Queue.{Queue}
use Rattle.sipp_search.proofs.Serving.{sound_begun}
use Rattle.sipp_search.proofs.begin.prepare.Goals as goal

pub returns-clause-sound : goal.returns-clause-sound
returns-clause-sound c =
    sound_begun c.args.task.now.grid.now c.args.task.now.request c.args.task.now.horizon
    (record { states = c.clear.new.self; newest = c.clear-3.new.self; queue = c.clear-2.new.self; distances = c.aim.new.self })
    c.clear.ensures.items (ap (λ (z : Queue). z.keys) c.clear-2.ensures) (c.clear-3.ensures ∙ ap (λ (n : ℕ). replicate n 0) c.requires.serves.count)
    (ap (λ (z : Queue). z.bound) c.clear-2.ensures ∙ c.requires.serves.bound) (c.aim.ensures.room ∙ c.requires.serves.room_is) c.in_ok-aim.ensures.aimed c.in_ok-aim.ensures.goal
