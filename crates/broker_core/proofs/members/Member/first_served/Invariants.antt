use Rattle.std.proofs.Common.{◌≡◌, ◌&&◌, length, filter, find}
use Rattle.view_session.specs.Viewing.{is_behind, is_due, keys}
use Rattle.broker_core.specs.Choosing.{can_serve}
use Rattle.broker_core.proofs.members.Member.first_served.Given as goal

abbrev pub invariant-search : goal.invariant-search
invariant-search l = find (λ key. can_serve l.tiles l.more key && is_due l.self.view key) (keys l.self.view) ≡ find (λ key. is_behind l.before key && (can_serve l.tiles l.more key && is_due l.self.view key)) (keys l.self.view)

abbrev pub decreases-search : goal.decreases-search
decreases-search l = length (filter (is_behind l.before) (keys l.self.view))
