use Rattle.std.proofs.Common.{List}
use Rattle.kit_trait.specs.declared.values.Damage.{Damage}
use Rattle.sheet_rules.specs.Typing.{Sheet}
use Rattle.sheet_kit.proofs.Inputs.{IsMeant, cell_of, raw_of, sound_of, contents_of, damage_is, part_of}
use Rattle.sheet_kit.proofs.kit.SheetKitKit.input.Goals as goal

pub meaning_of-requires : goal.meaning_of-requires
meaning_of-requires c =
    let inside : Sheet = record { parts = c.self.inside.book; cursors = c.self.inside.cursors.entries } in
    cell_of inside c.args.input.now c.cursor_of-cursor.result c.self.invariant (part_of inside c.args.self.now c.args.input.now.part c.self.view_is c.requires) c.cursor_of-cursor.ensures

pub carry_out-requires-clause-cell : goal.carry_out-requires-clause-cell
carry_out-requires-clause-cell c =
    let inside : Sheet = record { parts = c.self.inside.book; cursors = c.self.inside.cursors.entries } in
    cell_of inside c.args.input.now c.cursor_of-cursor.result c.self.invariant (part_of inside c.args.self.now c.args.input.now.part c.self.view_is c.requires) c.cursor_of-cursor.ensures

pub carry_out-requires-clause-raw : goal.carry_out-requires-clause-raw
carry_out-requires-clause-raw c =
    let inside : Sheet = record { parts = c.self.inside.book; cursors = c.self.inside.cursors.entries } in
    raw_of inside c.args.input.now c.cursor_of-cursor.result c.in_ok-meaning.meaning
    (record { sound = c.self.invariant; part = part_of inside c.args.self.now c.args.input.now.part c.self.view_is c.requires; cursor = c.cursor_of-cursor.ensures; meant = c.in_ok-meaning.ensures })

pub invariant_of-self : goal.invariant_of-self
invariant_of-self c =
    let inside : Sheet = record { parts = c.self.inside.book; cursors = c.self.inside.cursors.entries } in
    let new : Sheet = record { parts = c.carry_out.new.book; cursors = c.carry_out.new.cursors.entries } in
    sound_of c.carry_out.result inside new c.args.input.now c.cursor_of-cursor.result c.in_ok-meaning.meaning
    (record { sound = c.self.invariant; part = part_of inside c.args.self.now c.args.input.now.part c.self.view_is c.requires; cursor = c.cursor_of-cursor.ensures; meant = c.in_ok-meaning.ensures })
    c.carry_out.ensures.contents c.carry_out.ensures.book c.carry_out.ensures.cursors

pub returns-clause-contents : goal.returns-clause-contents
returns-clause-contents c =
    let inside : Sheet = record { parts = c.self.inside.book; cursors = c.self.inside.cursors.entries } in
    let new : Sheet = record { parts = c.carry_out.new.book; cursors = c.carry_out.new.cursors.entries } in
    contents_of c.carry_out.result inside c.args.self.now new c.args.input.now c.cursor_of-cursor.result c.in_ok-meaning.meaning c.self.view_is
    (record { sound = c.self.invariant; part = part_of inside c.args.self.now c.args.input.now.part c.self.view_is c.requires; cursor = c.cursor_of-cursor.ensures; meant = c.in_ok-meaning.ensures })
    c.carry_out.ensures.contents

pub returns-clause-hurt : goal.returns-clause-hurt
returns-clause-hurt c =
    let inside : Sheet = record { parts = c.self.inside.book; cursors = c.self.inside.cursors.entries } in
    let new : Sheet = record { parts = c.carry_out.new.book; cursors = c.carry_out.new.cursors.entries } in
    damage_is (λ v. v.items) c.carry_out.result inside c.args.self.now new c.args.input.now c.cursor_of-cursor.result c.in_ok-meaning.meaning c.self.view_is
    (record { sound = c.self.invariant; part = part_of inside c.args.self.now c.args.input.now.part c.self.view_is c.requires; cursor = c.cursor_of-cursor.ensures; meant = c.in_ok-meaning.ensures })
    c.carry_out.ensures.contents c.carry_out.ensures.damage
