use Rattle.std.proofs.Common.{◌≡◌, suc, ◌∷◌, ◌++◌, [], length, refl, sym, ap, ◌∙◌, arith}
use Rattle.std.specs.Vec.{with_item}
use Rattle.std.proofs.lemmas.Option.{slice_get_read, get_or_from_slice_get}
use Rattle.static_distance.specs.declared.layers.Layer.{Layer}
use Rattle.static_distance.specs.Layers.{no_layer, newest_of}
use Rattle.static_distance.proofs.LayerLemmas.{adds_layer}
use Rattle.static_distance.proofs.layers.Layers.add.Goals as goal

pub returns : goal.returns
returns c =
    let old = c.args.self.now in
    let read : newest_of old c.args.number ≡ c.index-newest.result.now =
    get_or_from_slice_get old.newest.items c.args.number c.index-newest.result.now no_layer
    (slice_get_read old.newest.items (length old.newest.items) c.args.number c.index-newest.result.now refl c.requires.inside c.index-newest.ensures) in
    let last : c.len.result ≡ suc (length old.older.items) = omega (arith, c.len.ensures, c.in_ok-push.ensures.len) in
    let layer : Layer = record { word = c.args.word; level = c.args.level; older = c.len.result } in
    adds_layer old (record { newest = with_item old.newest c.args.number layer; older = c.push.new.self }) c.args.number layer c.requires.inside refl
    c.args.word c.args.level c.len.result c.requires.linked c.requires.falling
    (c.in_ok-push.ensures.items ∙ ap (λ (z : Layer). old.older.items ++ z ∷ []) (sym read)) last refl
