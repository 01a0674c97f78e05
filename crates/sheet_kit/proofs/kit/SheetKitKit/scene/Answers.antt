use Rattle.std.proofs.Common.{◌∙◌}
use Rattle.sheet_rules.specs.Typing.{Sheet}
use Rattle.sheet_kit.proofs.Scenes.{scene_is}
use Rattle.sheet_kit.proofs.kit.SheetKitKit.scene.Goals as goal

pub returns-clause-cut : goal.returns-clause-cut
returns-clause-cut c =
    let inside : Sheet = record { parts = c.self.inside.book; cursors = c.self.inside.cursors.entries } in
    scene_is inside c.args.self.now c.args.area.now c.of.result (c.of.ensures ∙ c.in_ok-texts.ensures.texts) c.self.view_is
