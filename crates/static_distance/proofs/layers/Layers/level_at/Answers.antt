use Rattle.std.proofs.Common.{◌≡◌, ◌≢◌, suc, ◌-◌, ◌≤◌, get_or, length, refl, sym, ap, subst, ◌∙◌, arith}
use Rattle.std.proofs.lemmas.Bool.{iff_false}
use Rattle.std.proofs.lemmas.Option.{slice_get_read, get_or_from_slice_get}
use Rattle.row_words.specs.Words.{IsSet}
use Rattle.static_distance.specs.declared.layers.Layer.{Layer}
use Rattle.static_distance.specs.Layers.{no_layer, told_from}
use Rattle.static_distance.proofs.LayerLemmas.{leads_on, older_passed}
use Rattle.static_distance.proofs.layers.Layers.level_at.Goals as goal

pub loop-layer-preserved : goal.loop-layer-preserved
loop-layer-preserved c =
    let older = c.args.self.now.older.items in
    let layer = c.loop-layer.layer in
    let next = c.index-layer-in-loop-layer.result.now in
    let clear : ¬ (IsSet layer.word c.args.place) = iff_false c.is_set.ensures c.loop-layer-test.true in
    let counted : told_from older layer c.args.place ≢ 0 = λ none. c.requires.counted (sym c.loop-layer.invariant.same ∙ none) in
    let some : layer.older ≢ 0 = leads_on older c.requires.falling layer c.args.place clear counted in
    let before : layer.older ≡ suc (layer.older - 1) = omega (arith, some) in
    let read : get_or older (layer.older - 1) no_layer ≡ next =
    get_or_from_slice_get older (layer.older - 1) next no_layer
    (slice_get_read older (length older) (layer.older - 1) next refl (omega (arith, some, c.loop-layer.invariant.linked)) c.index-layer-in-loop-layer.ensures) in
    let less : (get_or older (layer.older - 1) no_layer).older ≤ layer.older - 1 = c.requires.falling (layer.older - 1) in
    record {
      linked = subst (λ (z : Layer). z.older ≤ length older) read (omega (arith, less, some, c.loop-layer.invariant.linked));
      same = ap (λ (z : Layer). told_from older z c.args.place) (sym read)
          ∙ (older_passed older c.requires.falling layer c.args.place clear counted (layer.older - 1) before ∙ c.loop-layer.invariant.same);
    }
