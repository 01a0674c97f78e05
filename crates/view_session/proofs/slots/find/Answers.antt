use Rattle.std.proofs.Common.{rules}
use Rattle.std.proofs.lemmas.Fn.{always_returns_same}
use Rattle.tile_key.specs.Places.{key_order}
use Rattle.view_session.proofs.FindFacts.{searched}
use Rattle.view_session.proofs.slots.find.Goals as goal

pub returns : goal.returns
returns c =
    let facts = c.binary_search_by.ensures in
    searched c.args.slots.now c.args.key.now c.requires _ facts.bound (facts.position (λ slot. key_order slot.key c.args.key.now) (always_returns_same _ _ _ (λ a r g called. search rules)))
