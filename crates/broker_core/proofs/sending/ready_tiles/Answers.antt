use Rattle.std.proofs.Common.{Bool, List, ℕ, [], ◌∷◌, ◌++◌, ◌<◌, length, get_or, sym, ap, ◌∙◌, add-one, arith}
use Rattle.kit_trait.specs.declared.values.Pixels.{Pixels}
use Rattle.tile_cache.specs.declared.tiles.KeyEnd.{KeyEnd}
use Rattle.tile_cache.specs.declared.tiles.KeyEnd.TheVariants.{Kept}
use Rattle.broker_core.specs.Sending.{is_present}
use Rattle.broker_core.specs.declared.sending.Ready.{Ready}
use Rattle.broker_core.proofs.Offerings.{read_again, ready_more}
use Rattle.broker_core.proofs.sending.ready_tiles.Goals as goal

pub loop-i-preserved : goal.loop-i-preserved
loop-i-preserved c =
    let key = c.index-keys-i.result in
    let end : KeyEnd = get_or c.args.ends.now c.loop-i.i Kept in
    let within : c.loop-i.i < length c.args.ends.now = omega (arith, c.requires.ends, c.loop-i-test.true) in
    rw add-one
    (c.in_ok-push.ensures.items
    ∙ ap (λ (b : Bool). c.loop-i.tiles.items ++ record { key = key; current = b; rgba = c.in_ok-rgba.rgba } ∷ []) c.is_present.ensures
    ∙ ap (λ (r : List ℕ). c.loop-i.tiles.items ++ record { key = key; current = is_present end; rgba = r } ∷ []) c.in_ok-rgba.ensures.cases
    ∙ ap (λ (p : Pixels). c.loop-i.tiles.items ++ record { key = key; current = is_present end; rgba = p.rgba } ∷ []) (sym c.index-parts-i.is)
    ∙ ap (λ (ts : List Ready). ts ++ record { key = key; current = is_present end; rgba = c.index-parts-i.result.rgba } ∷ []) c.loop-i.invariant
    ∙ ready_more c.args.keys.now c.args.ends.now c.args.parts.now c.loop-i.i key end c.index-parts-i.result c.loop-i-test.true c.requires.ends c.requires.parts c.index-keys-i.is (read_again c.args.ends.now c.loop-i.i Kept end within) c.index-parts-i.is)
