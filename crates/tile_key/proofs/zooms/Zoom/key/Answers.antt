use Rattle.std.proofs.Common.{◌≡◌, sym}
use Rattle.tile_key.specs.Places.{Scale, look_of}
use Rattle.tile_key.proofs.PlaceFacts.{look_same}
use Rattle.tile_key.proofs.VisibleFacts.{zoom_facts, tile_is_key}
use Rattle.tile_key.proofs.zooms.Zoom.key.Goals as goal

pub of_words-requires : goal.of_words-requires
of_words-requires c =
    let zoom : Scale = record { pixel_w = c.self.inside.pixel_w; pixel_h = c.self.inside.pixel_h; twip_w = c.self.inside.twip_w; twip_h = c.self.inside.twip_h; nviewid = c.self.inside.nviewid } in
    let same : look_of c.self.inside.nviewid ≡ c.self.inside.nviewid = look_same c.self.inside.nviewid (zoom_facts zoom c.self.invariant).nviewid_high in
    rw same (tile_is_key c.args.part zoom c.args.column c.args.row c.self.invariant (rw (sym c.self.view_is) at c.requires.columns) (rw (sym c.self.view_is) at c.requires.rows))
