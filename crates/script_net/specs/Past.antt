-- What a net in memory tells: its takes and gives, the releases that gave none, the links it holds.
use Rattle.std.specs.Prelude.{ℕ, ◌≡◌, Bool, true, false, not, ◌==◌, List, [], ◌∷◌, ◌++◌, map}
use Rattle.std.specs.Prelude.{filter, Option, Some, None}
use Rattle.std.specs.List.{list_any}
use Rattle.cool_base.specs.declared.ids.LinkId.{LinkId}
use Rattle.net_traits.specs.Nets.{NetTold, NetCall, Took, Gave}
use Rattle.net_traits.specs.declared.nets.Taken.{Taken}
use Rattle.net_traits.specs.declared.nets.Taken.TheVariants.{Opened, Said, Left, Nothing, Failed}
use Rattle.script_net.specs.declared.gifts.Gift.{Gift}

-- The call that was noted: a give where a gift stands beside the answer of a take, else a take.
abbrev pub call_of : Taken × Option Gift → NetCall
call_of (taken, None) = Took taken
call_of (taken, Some gift) = Gave gift.frame.link gift.frame.bytes gift.given

-- The takes and gives, in order.
abbrev pub calls_of : List (Taken × Option Gift) → List NetCall
calls_of notes = map call_of notes

-- Whether the link is one of these.
abbrev pub is_one_of : List LinkId → ℕ → Bool
is_one_of links id = list_any (λ (l : LinkId). id == l.0) links

-- Whether a release of the link gave none.
abbrev pub missed_in : List (LinkId × LinkId) → ℕ → Bool
missed_in misses id = list_any (λ (m : LinkId × LinkId). id == m.0.0) misses

-- These links without this one.
abbrev pub without : LinkId → List LinkId → List LinkId
without link links = filter (λ (l : LinkId). not (l.0 == link.0)) links

-- The links that are held after a take.
abbrev pub held_after : Taken → List LinkId → List LinkId
held_after (Opened link) links = links ++ link ∷ []
held_after (Said link bytes) links = links
held_after (Left link) links = without link links
held_after Nothing links = links
held_after Failed links = links

-- What a net tells that holds these links. A link is open as long as it is held.
abbrev pub told_of : List LinkId → List (Taken × Option Gift) → List (LinkId × LinkId) → NetTold
told_of held notes misses = record {
  held = is_one_of held;
  opened = is_one_of held;
  waiting = None;
  calls = calls_of notes;
  missed = missed_in misses;
  room = None;
}
