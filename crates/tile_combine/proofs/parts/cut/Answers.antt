use Rattle.std.proofs.Common.{◌≡◌, ◌≤◌, ◌∙◌, arith}
use Rattle.std.proofs.lemmas.Grind.{common_steps}
use Rattle.tile_key.specs.Places.{place_of_keys}
use Rattle.tile_combine.specs.Parts.{parts_from}
use Rattle.tile_combine.proofs.PartFacts.{pictures_are}
use Rattle.tile_combine.proofs.parts.cut.Goals as goal

pub returns-clause-pictures : goal.returns-clause-pictures
returns-clause-pictures c =
    let parts : c.loop-key.parts.items ≡ parts_from c.args.pixels.now 0 c.args.group.now = grind (arith, common_steps) in
    let low : 1 ≤ c.area-area.result.width = c.width-width.ensures.form.width_low in
    let wide : 1 ≤ (place_of_keys c.args.group.now).width = rw c.area-area.ensures at low in
    λ colour is. parts ∙ pictures_are c.args.group.now c.args.pixels.now c.keys-key-items.ensures.form wide colour is
