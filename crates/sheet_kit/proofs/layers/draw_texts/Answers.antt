use Rattle.std.proofs.Common.{◌≡◌, List, [], ◌∷◌, ◌++◌, take, ap, sym, ◌∙◌, subst}
use Rattle.std.proofs.lemmas.List.{take_more}
use Rattle.tile_raster.specs.Painting.{Shows}
use Rattle.sheet_rules.specs.declared.cuts.ShownText.{ShownText}
use Rattle.sheet_rules.specs.Cuts.{cut_colour}
use Rattle.sheet_kit.proofs.layers.draw_texts.Goals as goal

pub loop-shown-preserved : goal.loop-shown-preserved
loop-shown-preserved c =
    let texts = c.args.texts.now in
    let i = c.loop-shown.shown-index in
    subst (λ (ts : List ShownText). Shows (λ part. cut_colour c.args.lines ts) c.args.area.now c.draw_text.new.canvas)
    (sym (take_more texts i c.shown-item.result c.loop-shown-test.true ∙ ap (λ (t : ShownText). take i texts ++ t ∷ []) (sym c.shown-item.is)))
    (c.draw_text.ensures (take i texts) c.loop-shown.invariant)
