use Rattle.std.proofs.Common.{length}
use Rattle.tile_cache.proofs.tiles.+reserve.Given as goal

abbrev pub decreases-reserve : goal.decreases-reserve
decreases-reserve l = length l.new.now
