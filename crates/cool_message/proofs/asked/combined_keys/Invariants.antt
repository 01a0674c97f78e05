use Rattle.std.proofs.Common.{◌≡◌, ◌++◌, true, map, zip}
use Rattle.std.specs.List.{list_all}
use Rattle.std.specs.Iterator.Adapters.{zip_first, zip_second}
use Rattle.std.specs.Slice.Iter.{iter_rest}
use Rattle.cool_message.specs.Asked.{place_at, pairs_of, is_key_of}
use Rattle.cool_message.proofs.asked.combined_keys.Given as goal

-- the keys so far and the places that are left are all places
abbrev pub invariant-loop-x : goal.invariant-loop-x
invariant-loop-x l = record {
  can_next : (goal.iterator-loop-x).can_next l.x-iterator;
  is_finite : (goal.iterator-loop-x).is_finite l.x-iterator;
  keys : list_all (is_key_of l.parts) l.keys.items ≡ true;
  left : l.keys.items ++ map (place_at l.words) (zip (iter_rest (zip_first l.x-iterator)) (iter_rest (zip_second l.x-iterator))) ≡ pairs_of l.words;
}
