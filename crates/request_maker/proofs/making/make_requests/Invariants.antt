use Rattle.std.proofs.Common.{◌≡◌, ◌+◌, ◌*◌, ◌<◌, ℕ, length, All}
use Rattle.request_maker.specs.Making.{request_at, each_below, state_after}
use Rattle.request_maker.proofs.making.make_requests.Given as goal

abbrev pub invariant-loop-order : goal.invariant-loop-order
invariant-loop-order l = record {
  made : (start : ℕ) → l.fn.draws.state ≡ state_after start l.fn.area → l.requests.items ≡ each_below (request_at l.fn.area start) l.order;
  so_many : length l.requests.items ≡ l.order;
  drawn : (start : ℕ) → l.fn.draws.state ≡ state_after start l.fn.area → l.draws.state ≡ state_after start (l.fn.area + 2 * l.order);
  on_grid : All (λ q. (q.start.0 < l.fn.area) × (q.goal.0 < l.fn.area)) l.requests.items;
  same : (l.area ≡ l.fn.area) × (l.count ≡ l.fn.count);
}
