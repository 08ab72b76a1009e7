use Rattle.std.proofs.Common.{◌≡◌, ◌≤◌, set, ap, subst, ◌∙◌, inl, inr, List, Some, length, refl}
use Rattle.std.specs.Prelude.{slice_get}
use Rattle.std.specs.Vec.{with_item}
use Rattle.std.proofs.lemmas.Option.{slice_get_read}
use Rattle.static_distance.specs.declared.span.Span.{Span}
use Rattle.static_distance.specs.declared.waiting.Waiting.{Waiting}
use Rattle.static_distance.proofs.OrderLemmas.{put_added}
use Rattle.static_distance.proofs.waiting.Waiting.add_after_farther.Goals as goal
use Rattle.static_distance.proofs.waiting.Waiting.add_after_farther.Goals.{then-before-eq0+in_ok-put_at, else-before-eq0}

pub returns-clause-added : goal.returns-clause-added
returns-clause-added c =
    let self = c.args.self.now in
    let at : slice_get self.words.items c.args.span.number ≡ Some c.index-before.result.now =
    slice_get_read self.words.items (length self.words.items) c.args.span.number c.index-before.result.now refl c.requires c.index-before.ensures in
    let added = put_added self (record { words = with_item c.if-before-eq0.self.words c.args.span.number c.either.result; spans = c.if-before-eq0.self.spans })
    c.args.span c.args.word c.index-before.result.now c.either.result at in
    elim c.if-before-eq0.branch [
      | then-before-eq0+in_ok-put_at w ↦
          added (ap (λ (v : Waiting). set v.words.items c.args.span.number c.either.result) w.self-is) c.either.ensures
          (inr (w.under_farther-place.result, subst (λ (xs : List Span). w.under_farther-place.result ≤ length xs) w.as_slice.ensures.value w.under_farther-place.ensures, ap (λ (v : Waiting). v.spans.items) w.self-is ∙ w.in_ok-put_at.ensures))
      | else-before-eq0 w ↦
          added (ap (λ (v : Waiting). set v.words.items c.args.span.number c.either.result) w.self-is) c.either.ensures
          (inl (w.if-before-eq0.false, ap (λ (v : Waiting). v.spans.items) w.self-is))
    ]
