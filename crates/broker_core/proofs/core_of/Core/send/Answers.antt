use Rattle.std.proofs.Common.{◌≡◌, ◌∙◌, List, false, [], ◌∷◌, ◌++◌, length, set, sym, ap, subst, Some}
use Rattle.std.specs.Prelude.{nat_lt, IsSome}
use Rattle.std.specs.Map.{lookup}
use Rattle.cool_base.specs.declared.ids.ViewId.{ViewId}
use Rattle.cool_frame.specs.declared.frame.Frame.{Frame}
use Rattle.tile_cache.specs.Cached.{current_tile}
use Rattle.tile_cache.specs.Calls.{used}
use Rattle.tile_cache.specs.declared.tiles.Tile.{Tile}
use Rattle.tile_key.specs.Places.{same_place}
use Rattle.document_machine.specs.Goes.{DoesNext}
use Rattle.document_machine.specs.Held.{Held, current_version}
use Rattle.document_machine.specs.Next.{next_pair}
use Rattle.document_machine.specs.Outputs.{frames_only}
use Rattle.document_machine.specs.Saves.{has_ready_save}
use Rattle.document_machine.specs.declared.outs.Turned.TheVariants.{Worked}
use Rattle.broker_core.specs.Held.{Holds, held_of}
use Rattle.broker_core.specs.declared.members.Member.{Member}
use Rattle.broker_core.specs.declared.sending.Ready.{Ready}
use Rattle.broker_core.specs.Sending.{member_sent, sent_frame}
use Rattle.broker_core.proofs.Sendings.{held_sent, held_with, holds_sent, member_room, member_due, never_gone, never_lost, ready_of, sends_next, tile_found}
use Rattle.broker_core.proofs.core_of.Core.send.Goals as goal

pub unreachable-requires : goal.unreachable-requires
unreachable-requires g c =
    let i = c.self.inside in
    let d : Held _ = held_of i.source.file i.source.base i.inputs.accepted.items i.inputs.applied i.views.members.items i.views.next i.jobs.items i.tiles i.saves in
    let kept : IsSome (current_version g.K.Kit.rules d c.args.key) = subst (λ (o : Held _). IsSome (current_version g.K.Kit.rules o c.args.key)) (sym c.self.view_is) c.requires.kept in
    never_lost (λ (tile : Tile). (tile.number, tile.rgba)) g.K.Kit.rules g.K.Kit.cut g.K.Kit.IsSound (g.K.Kit.contents i.kit) i.views.members.items i.tiles d c.self.invariant c.args.key kept (sym c.in_ok-found.ensures.tile ∙ c.in_default.is)

pub unreachable-requires-in_default-member_at : goal.unreachable-requires-in_default-member_at
unreachable-requires-in_default-member_at g c =
    let i = c.self.inside in
    let d : Held _ = held_of i.source.file i.source.base i.inputs.accepted.items i.inputs.applied i.views.members.items i.views.next i.jobs.items i.tiles i.saves in
    let next : next_pair g.K.Kit.rules (current_version g.K.Kit.rules d) d.document ≡ Some (c.args.id, c.args.key) = subst (λ (o : Held _). next_pair g.K.Kit.rules (current_version g.K.Kit.rules o) o.document ≡ Some (c.args.id, c.args.key)) (sym c.self.view_is) c.requires.next in
    never_gone g.K.Kit.rules g.K.Kit.cut g.K.Kit.IsSound (g.K.Kit.contents i.kit) i.views.members.items i.tiles d c.self.invariant c.args.id c.args.key next (c.member_at.ensures.none c.in_default-member_at.is)

pub send-requires-clause-room : goal.send-requires-clause-room
send-requires-clause-room g c =
    let i = c.self.inside in
    let d : Held _ = held_of i.source.file i.source.base i.inputs.accepted.items i.inputs.applied i.views.members.items i.views.next i.jobs.items i.tiles i.saves in
    let no_save : has_ready_save d.document ≡ false = subst (λ (o : Held _). has_ready_save o.document ≡ false) (sym c.self.view_is) c.requires.no_save in
    let level : nat_lt d.document.applied (length d.document.journal) ≡ false = subst (λ (o : Held _). nat_lt o.document.applied (length o.document.journal) ≡ false) (sym c.self.view_is) c.requires.level in
    let next : next_pair g.K.Kit.rules (current_version g.K.Kit.rules d) d.document ≡ Some (c.args.id, c.args.key) = subst (λ (o : Held _). next_pair g.K.Kit.rules (current_version g.K.Kit.rules o) o.document ≡ Some (c.args.id, c.args.key)) (sym c.self.view_is) c.requires.next in
    let tile : Tile = record { number = c.in-Some.number; rgba = c.in-Some.rgba; is_met = false } in
    let current : current_tile i.tiles c.args.key ≡ Some tile = tile_found (lookup (same_place c.args.key) i.tiles.tiles) c.in-Some.number c.in-Some.rgba (sym c.in_ok-found.ensures.tile ∙ c.in-Some.is) in
    let now_is : c.current.new.self ≡ used c.args.key i.tiles (Some tile) = c.in_ok-found.ensures.ok ∙ ap (used c.args.key i.tiles) current in
    member_room g.K.Kit.rules g.K.Kit.cut g.K.Kit.IsSound (g.K.Kit.contents i.kit) i.views.members.items i.tiles c.current.new.self d c.self.invariant c.args.id c.args.key no_save level next tile current now_is c.in-Some-member_at.i c.index_mut-member.result.now c.in-Some-member_at.ensures.place (sym c.index_mut-member.ensures.value)

pub send-requires-clause-due : goal.send-requires-clause-due
send-requires-clause-due g c =
    let i = c.self.inside in
    let d : Held _ = held_of i.source.file i.source.base i.inputs.accepted.items i.inputs.applied i.views.members.items i.views.next i.jobs.items i.tiles i.saves in
    let no_save : has_ready_save d.document ≡ false = subst (λ (o : Held _). has_ready_save o.document ≡ false) (sym c.self.view_is) c.requires.no_save in
    let level : nat_lt d.document.applied (length d.document.journal) ≡ false = subst (λ (o : Held _). nat_lt o.document.applied (length o.document.journal) ≡ false) (sym c.self.view_is) c.requires.level in
    let next : next_pair g.K.Kit.rules (current_version g.K.Kit.rules d) d.document ≡ Some (c.args.id, c.args.key) = subst (λ (o : Held _). next_pair g.K.Kit.rules (current_version g.K.Kit.rules o) o.document ≡ Some (c.args.id, c.args.key)) (sym c.self.view_is) c.requires.next in
    let tile : Tile = record { number = c.in-Some.number; rgba = c.in-Some.rgba; is_met = false } in
    let current : current_tile i.tiles c.args.key ≡ Some tile = tile_found (lookup (same_place c.args.key) i.tiles.tiles) c.in-Some.number c.in-Some.rgba (sym c.in_ok-found.ensures.tile ∙ c.in-Some.is) in
    let now_is : c.current.new.self ≡ used c.args.key i.tiles (Some tile) = c.in_ok-found.ensures.ok ∙ ap (used c.args.key i.tiles) current in
    member_due g.K.Kit.rules g.K.Kit.cut g.K.Kit.IsSound (g.K.Kit.contents i.kit) i.views.members.items i.tiles c.current.new.self d c.self.invariant c.args.id c.args.key no_save level next tile current now_is c.in-Some-member_at.i c.index_mut-member.result.now c.in-Some-member_at.ensures.place (sym c.index_mut-member.ensures.value)

pub invariant_of-core : goal.invariant_of-core
invariant_of-core g c =
    let i = c.self.inside in
    let d : Held _ = held_of i.source.file i.source.base i.inputs.accepted.items i.inputs.applied i.views.members.items i.views.next i.jobs.items i.tiles i.saves in
    let no_save : has_ready_save d.document ≡ false = subst (λ (o : Held _). has_ready_save o.document ≡ false) (sym c.self.view_is) c.requires.no_save in
    let level : nat_lt d.document.applied (length d.document.journal) ≡ false = subst (λ (o : Held _). nat_lt o.document.applied (length o.document.journal) ≡ false) (sym c.self.view_is) c.requires.level in
    let next : next_pair g.K.Kit.rules (current_version g.K.Kit.rules d) d.document ≡ Some (c.args.id, c.args.key) = subst (λ (o : Held _). next_pair g.K.Kit.rules (current_version g.K.Kit.rules o) o.document ≡ Some (c.args.id, c.args.key)) (sym c.self.view_is) c.requires.next in
    let tile : Tile = record { number = c.in-Some.number; rgba = c.in-Some.rgba; is_met = false } in
    let current : current_tile i.tiles c.args.key ≡ Some tile = tile_found (lookup (same_place c.args.key) i.tiles.tiles) c.in-Some.number c.in-Some.rgba (sym c.in_ok-found.ensures.tile ∙ c.in-Some.is) in
    let now_is : c.current.new.self ≡ used c.args.key i.tiles (Some tile) = c.in_ok-found.ensures.ok ∙ ap (used c.args.key i.tiles) current in
    let laws = g.met.K.Kit g.world.𝓛 g.world.𝓜 g.world.𝓡 ((λ s x. x), (λ x. x), (λ x. x), λ x. x) in
    let member : Member = c.index_mut-member.result.now in
    let sent : c.send.new.self ≡ member_sent tile.number (ready_of c.args.key tile) member = c.in_ok-send.ensures.member in
    subst (λ (m : Member). Holds g.K.Kit.rules g.K.Kit.cut g.K.Kit.IsSound (g.K.Kit.contents i.kit) (set i.views.members.items c.in-Some-member_at.i m) c.current.new.self (held_with d (set i.views.members.items c.in-Some-member_at.i m) c.current.new.self)) (sym sent)
    (holds_sent g.K.Kit.rules g.K.Kit.cut g.K.Kit.IsSound (g.K.Kit.contents i.kit) i.views.members.items i.tiles c.current.new.self d c.self.invariant c.args.id c.args.key no_save level next tile current now_is c.in-Some-member_at.i c.index_mut-member.result.now c.in-Some-member_at.ensures.place (sym c.index_mut-member.ensures.value)
    (λ base. laws.some_part (g.K.Kit.rules.start base) (laws.sound_start base)))

pub returns : goal.returns
returns g c =
    let i = c.self.inside in
    let d : Held _ = held_of i.source.file i.source.base i.inputs.accepted.items i.inputs.applied i.views.members.items i.views.next i.jobs.items i.tiles i.saves in
    let no_save : has_ready_save d.document ≡ false = subst (λ (o : Held _). has_ready_save o.document ≡ false) (sym c.self.view_is) c.requires.no_save in
    let level : nat_lt d.document.applied (length d.document.journal) ≡ false = subst (λ (o : Held _). nat_lt o.document.applied (length o.document.journal) ≡ false) (sym c.self.view_is) c.requires.level in
    let next : next_pair g.K.Kit.rules (current_version g.K.Kit.rules d) d.document ≡ Some (c.args.id, c.args.key) = subst (λ (o : Held _). next_pair g.K.Kit.rules (current_version g.K.Kit.rules o) o.document ≡ Some (c.args.id, c.args.key)) (sym c.self.view_is) c.requires.next in
    let tile : Tile = record { number = c.in-Some.number; rgba = c.in-Some.rgba; is_met = false } in
    let current : current_tile i.tiles c.args.key ≡ Some tile = tile_found (lookup (same_place c.args.key) i.tiles.tiles) c.in-Some.number c.in-Some.rgba (sym c.in_ok-found.ensures.tile ∙ c.in-Some.is) in
    let now_is : c.current.new.self ≡ used c.args.key i.tiles (Some tile) = c.in_ok-found.ensures.ok ∙ ap (used c.args.key i.tiles) current in
    let member : Member = c.index_mut-member.result.now in
    let ready : Ready = ready_of c.args.key tile in
    let sent : c.send.new.self ≡ member_sent tile.number ready member = c.in_ok-send.ensures.member in
    let frames_are : c.send.new.frames ≡ sent_frame tile.number ready member ∷ [] = c.in_ok-send.ensures.frames ∙ ap (λ (fs : List (ViewId × Frame)). fs ++ sent_frame tile.number ready member ∷ []) c.new-frames.ensures in
    rw c.frames_only.ensures
    (subst (λ (m : Member). DoesNext g.K.Kit.rules g.K.Kit.cut c.args.self (Worked (frames_only c.send.new.frames)) (held_with d (set i.views.members.items c.in-Some-member_at.i m) c.current.new.self)) (sym sent)
    (subst (λ (fs : List (ViewId × Frame)). DoesNext g.K.Kit.rules g.K.Kit.cut c.args.self (Worked (frames_only fs)) (held_sent d i.views.members.items c.in-Some-member_at.i tile.number ready member c.current.new.self)) (sym frames_are)
    (subst (λ (o : Held _). DoesNext g.K.Kit.rules g.K.Kit.cut o (Worked (frames_only (sent_frame tile.number (ready_of c.args.key tile) c.index_mut-member.result.now ∷ []))) (held_sent d i.views.members.items c.in-Some-member_at.i tile.number (ready_of c.args.key tile) c.index_mut-member.result.now c.current.new.self)) c.self.view_is
    (sends_next g.K.Kit.rules g.K.Kit.cut g.K.Kit.IsSound (g.K.Kit.contents i.kit) i.views.members.items i.tiles c.current.new.self d c.self.invariant c.args.id c.args.key no_save level next tile current now_is c.in-Some-member_at.i c.index_mut-member.result.now c.in-Some-member_at.ensures.place (sym c.index_mut-member.ensures.value)))))
