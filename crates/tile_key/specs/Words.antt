-- The words of a tile as a place.
use Rattle.tile_key.specs.declared.keys.TileWords.{TileWords}
use Rattle.tile_key.specs.Places.{Place, look_of}

-- the place that the words name
abbrev pub place_of : TileWords → Place
place_of w =
    record {
      part = w.part;
      width = w.width;
      height = w.height;
      posx = w.tileposx;
      posy = w.tileposy;
      tilewidth = w.tilewidth;
      tileheight = w.tileheight;
      nviewid = look_of w.nviewid;
    }
