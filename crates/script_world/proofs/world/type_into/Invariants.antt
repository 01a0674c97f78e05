use Rattle.std.proofs.Common.{◌≡◌, ◌++◌, drop}
use Rattle.script_world.specs.World.{typed_events}
use Rattle.script_world.proofs.world.type_into.Given as goal

-- what waits, with the messages that are left, is what waited with all of them
abbrev pub invariant-loop-character : goal.invariant-loop-character
invariant-loop-character l = l.waiting.items ++ typed_events l.link (drop l.character-index l.typed) ≡ l.initial.waiting.items ++ typed_events l.link l.typed
