use Rattle.std.proofs.Common.{◌≡◌, ◌∙◌, List, map, length, get_or, sym, ap, subst}
use Rattle.kit_trait.specs.declared.values.Pixels.{Pixels}
use Rattle.tile_cache.specs.Calls.{AreSized, end_of, finished, outs_of, told}
use Rattle.document_machine.specs.Event.{Painted}
use Rattle.document_machine.specs.Goes.{Moves}
use Rattle.document_machine.specs.Held.{Held}
use Rattle.document_machine.specs.Outputs.{frames_only}
use Rattle.document_machine.specs.State.{Job}
use Rattle.broker_core.specs.Held.{held_of}
use Rattle.broker_core.specs.Painting.{IsJobAt}
use Rattle.broker_core.specs.Sending.{all_offered, all_frames, ready_tiles}
use Rattle.broker_core.proofs.Keepings.{shown_here}
use Rattle.broker_core.proofs.Takings.{ends_by, ends_count, held_painted, holds_painted, moves_painted, parts_by, parts_count, parts_sized, pixels_sized, some_ends}
use Rattle.broker_core.proofs.core_of.Core.take.Goals as goal

pub cut-requires : goal.cut-requires
cut-requires g c =
    let i = c.self.inside in
    let d : Held _ = held_of i.source.file i.source.base i.inputs.accepted.items i.inputs.applied i.views.members.items i.views.next i.jobs.items i.tiles i.saves in
    let laws = g.met.K.Kit g.world.𝓛 g.world.𝓜 g.world.𝓡 ((λ s x. x), (λ x. x), (λ x. x), λ x. x) in
    let j = c.job.inside in
    let job : Job _ = record { ticket = j.ticket; number = j.number; keys = j.group; area = j.area; scene = j.scene } in
    let at : IsJobAt d.document.jobs c.args.done.now.ticket.0 c.args.done.now.scene c.args.i = subst (λ (o : Held _). IsJobAt o.document.jobs c.args.done.now.ticket.0 c.args.done.now.scene c.args.i) (sym c.self.view_is) c.requires in
    let here : get_or d.document.jobs c.args.i job ≡ job = subst (λ (x : Job _). get_or d.document.jobs c.args.i x ≡ x) (sym c.job.view_is) (sym c.remove-job.ensures.value) in
    record { size = pixels_sized g.K.Kit.rules g.K.Kit.cut g.K.Scene.Scene.paints g.K.Kit.IsSound laws.sound_start laws.sound_step laws.same_parts laws.pictures (g.K.Kit.contents i.kit) i.views.members.items i.tiles d c.self.invariant c.args.done.now.ticket.0 c.args.done.now.scene c.args.i job at here c.args.done.now.pixels c.args.done.now.painted }

pub finish-requires : goal.finish-requires
finish-requires g c =
    let i = c.self.inside in
    let d : Held _ = held_of i.source.file i.source.base i.inputs.accepted.items i.inputs.applied i.views.members.items i.views.next i.jobs.items i.tiles i.saves in
    let laws = g.met.K.Kit g.world.𝓛 g.world.𝓜 g.world.𝓡 ((λ s x. x), (λ x. x), (λ x. x), λ x. x) in
    let j = c.job.inside in
    let job : Job _ = record { ticket = j.ticket; number = j.number; keys = j.group; area = j.area; scene = j.scene } in
    let at : IsJobAt d.document.jobs c.args.done.now.ticket.0 c.args.done.now.scene c.args.i = subst (λ (o : Held _). IsJobAt o.document.jobs c.args.done.now.ticket.0 c.args.done.now.scene c.args.i) (sym c.self.view_is) c.requires in
    let here : get_or d.document.jobs c.args.i job ≡ job = subst (λ (x : Job _). get_or d.document.jobs c.args.i x ≡ x) (sym c.job.view_is) (sym c.remove-job.ensures.value) in
    let parts_are : c.in_ok-parts.parts.items ≡ map (shown_here g.K.Kit.rules d.document job) job.keys = parts_by g.K.Kit.rules g.K.Kit.cut g.K.Scene.Scene.paints g.K.Kit.IsSound laws.sound_start laws.sound_step laws.same_parts laws.pictures (g.K.Kit.contents i.kit) i.views.members.items i.tiles d c.self.invariant c.args.done.now.ticket.0 c.args.done.now.scene c.args.i job at here c.args.done.now.pixels c.in_ok-parts.parts.items c.args.done.now.painted c.in_ok-parts.ensures.pictures in
    record {
      sized = subst (λ (ps : List Pixels). AreSized (outs_of c.args.done.now.ticket.0 i.tiles) ps) (sym c.as_slice.ensures.value)
          (parts_sized g.K.Kit.rules g.K.Kit.cut g.K.Scene.Scene.paints g.K.Kit.IsSound laws.sound_start laws.sound_step laws.same_parts laws.pictures (g.K.Kit.contents i.kit) i.views.members.items i.tiles d c.self.invariant c.args.done.now.ticket.0 c.args.done.now.scene c.args.i job at here c.in_ok-parts.parts.items parts_are);
    }

pub unreachable-requires : goal.unreachable-requires
unreachable-requires g c =
    let i = c.self.inside in
    let d : Held _ = held_of i.source.file i.source.base i.inputs.accepted.items i.inputs.applied i.views.members.items i.views.next i.jobs.items i.tiles i.saves in
    let laws = g.met.K.Kit g.world.𝓛 g.world.𝓜 g.world.𝓡 ((λ s x. x), (λ x. x), (λ x. x), λ x. x) in
    let j = c.job.inside in
    let job : Job _ = record { ticket = j.ticket; number = j.number; keys = j.group; area = j.area; scene = j.scene } in
    let at : IsJobAt d.document.jobs c.args.done.now.ticket.0 c.args.done.now.scene c.args.i = subst (λ (o : Held _). IsJobAt o.document.jobs c.args.done.now.ticket.0 c.args.done.now.scene c.args.i) (sym c.self.view_is) c.requires in
    let here : get_or d.document.jobs c.args.i job ≡ job = subst (λ (x : Job _). get_or d.document.jobs c.args.i x ≡ x) (sym c.job.view_is) (sym c.remove-job.ensures.value) in
    some_ends g.K.Kit.rules g.K.Kit.cut g.K.Scene.Scene.paints g.K.Kit.IsSound laws.sound_start laws.sound_step laws.same_parts laws.pictures (g.K.Kit.contents i.kit) i.views.members.items i.tiles d c.self.invariant c.args.done.now.ticket.0 c.args.done.now.scene c.args.i job at here (sym c.in_ok-finished.ensures.answer ∙ ap told c.in_default.is)

pub ready_tiles-requires-clause-ends : goal.ready_tiles-requires-clause-ends
ready_tiles-requires-clause-ends g c =
    let i = c.self.inside in
    let d : Held _ = held_of i.source.file i.source.base i.inputs.accepted.items i.inputs.applied i.views.members.items i.views.next i.jobs.items i.tiles i.saves in
    let laws = g.met.K.Kit g.world.𝓛 g.world.𝓜 g.world.𝓡 ((λ s x. x), (λ x. x), (λ x. x), λ x. x) in
    let j = c.job.inside in
    let job : Job _ = record { ticket = j.ticket; number = j.number; keys = j.group; area = j.area; scene = j.scene } in
    let at : IsJobAt d.document.jobs c.args.done.now.ticket.0 c.args.done.now.scene c.args.i = subst (λ (o : Held _). IsJobAt o.document.jobs c.args.done.now.ticket.0 c.args.done.now.scene c.args.i) (sym c.self.view_is) c.requires in
    let here : get_or d.document.jobs c.args.i job ≡ job = subst (λ (x : Job _). get_or d.document.jobs c.args.i x ≡ x) (sym c.job.view_is) (sym c.remove-job.ensures.value) in
    let ends_are : c.in-Keys.ends.items ≡ map end_of (outs_of c.args.done.now.ticket.0 i.tiles) = ends_by g.K.Kit.rules g.K.Kit.cut g.K.Scene.Scene.paints g.K.Kit.IsSound laws.sound_start laws.sound_step laws.same_parts laws.pictures (g.K.Kit.contents i.kit) i.views.members.items i.tiles d c.self.invariant c.args.done.now.ticket.0 c.args.done.now.scene c.args.i job at here c.in-Keys.ends.items (sym (ap told c.in-Keys.is) ∙ c.in_ok-finished.ensures.answer) in
    ap length c.as_slice-2.ensures.value ∙ ends_count g.K.Kit.rules g.K.Kit.cut g.K.Scene.Scene.paints g.K.Kit.IsSound laws.sound_start laws.sound_step laws.same_parts laws.pictures (g.K.Kit.contents i.kit) i.views.members.items i.tiles d c.self.invariant c.args.done.now.ticket.0 c.args.done.now.scene c.args.i job at here c.in-Keys.ends.items ends_are ∙ ap length (sym c.keys-keys.ensures.value)

pub ready_tiles-requires-clause-parts : goal.ready_tiles-requires-clause-parts
ready_tiles-requires-clause-parts g c =
    let i = c.self.inside in
    let d : Held _ = held_of i.source.file i.source.base i.inputs.accepted.items i.inputs.applied i.views.members.items i.views.next i.jobs.items i.tiles i.saves in
    let laws = g.met.K.Kit g.world.𝓛 g.world.𝓜 g.world.𝓡 ((λ s x. x), (λ x. x), (λ x. x), λ x. x) in
    let j = c.job.inside in
    let job : Job _ = record { ticket = j.ticket; number = j.number; keys = j.group; area = j.area; scene = j.scene } in
    let at : IsJobAt d.document.jobs c.args.done.now.ticket.0 c.args.done.now.scene c.args.i = subst (λ (o : Held _). IsJobAt o.document.jobs c.args.done.now.ticket.0 c.args.done.now.scene c.args.i) (sym c.self.view_is) c.requires in
    let here : get_or d.document.jobs c.args.i job ≡ job = subst (λ (x : Job _). get_or d.document.jobs c.args.i x ≡ x) (sym c.job.view_is) (sym c.remove-job.ensures.value) in
    let parts_are : c.in_ok-parts.parts.items ≡ map (shown_here g.K.Kit.rules d.document job) job.keys = parts_by g.K.Kit.rules g.K.Kit.cut g.K.Scene.Scene.paints g.K.Kit.IsSound laws.sound_start laws.sound_step laws.same_parts laws.pictures (g.K.Kit.contents i.kit) i.views.members.items i.tiles d c.self.invariant c.args.done.now.ticket.0 c.args.done.now.scene c.args.i job at here c.args.done.now.pixels c.in_ok-parts.parts.items c.args.done.now.painted c.in_ok-parts.ensures.pictures in
    ap length c.as_slice-3.ensures.value ∙ parts_count g.K.Kit.rules g.K.Kit.cut g.K.Scene.Scene.paints g.K.Kit.IsSound laws.sound_start laws.sound_step laws.same_parts laws.pictures (g.K.Kit.contents i.kit) i.views.members.items i.tiles d c.self.invariant c.args.done.now.ticket.0 c.args.done.now.scene c.args.i job at here c.in_ok-parts.parts.items parts_are ∙ ap length (sym c.keys-keys.ensures.value)

pub invariant_of-core : goal.invariant_of-core
invariant_of-core g c =
    let i = c.self.inside in
    let d : Held _ = held_of i.source.file i.source.base i.inputs.accepted.items i.inputs.applied i.views.members.items i.views.next i.jobs.items i.tiles i.saves in
    let laws = g.met.K.Kit g.world.𝓛 g.world.𝓜 g.world.𝓡 ((λ s x. x), (λ x. x), (λ x. x), λ x. x) in
    let j = c.job.inside in
    let job : Job _ = record { ticket = j.ticket; number = j.number; keys = j.group; area = j.area; scene = j.scene } in
    let at : IsJobAt d.document.jobs c.args.done.now.ticket.0 c.args.done.now.scene c.args.i = subst (λ (o : Held _). IsJobAt o.document.jobs c.args.done.now.ticket.0 c.args.done.now.scene c.args.i) (sym c.self.view_is) c.requires in
    let here : get_or d.document.jobs c.args.i job ≡ job = subst (λ (x : Job _). get_or d.document.jobs c.args.i x ≡ x) (sym c.job.view_is) (sym c.remove-job.ensures.value) in
    let parts_are : c.in_ok-parts.parts.items ≡ map (shown_here g.K.Kit.rules d.document job) job.keys = parts_by g.K.Kit.rules g.K.Kit.cut g.K.Scene.Scene.paints g.K.Kit.IsSound laws.sound_start laws.sound_step laws.same_parts laws.pictures (g.K.Kit.contents i.kit) i.views.members.items i.tiles d c.self.invariant c.args.done.now.ticket.0 c.args.done.now.scene c.args.i job at here c.args.done.now.pixels c.in_ok-parts.parts.items c.args.done.now.painted c.in_ok-parts.ensures.pictures in
    let ends_are : c.in-Keys.ends.items ≡ map end_of (outs_of c.args.done.now.ticket.0 i.tiles) = ends_by g.K.Kit.rules g.K.Kit.cut g.K.Scene.Scene.paints g.K.Kit.IsSound laws.sound_start laws.sound_step laws.same_parts laws.pictures (g.K.Kit.contents i.kit) i.views.members.items i.tiles d c.self.invariant c.args.done.now.ticket.0 c.args.done.now.scene c.args.i job at here c.in-Keys.ends.items (sym (ap told c.in-Keys.is) ∙ c.in_ok-finished.ensures.answer) in
    let ready_are : c.in_ok-ready.ready.items ≡ ready_tiles job.keys (map end_of (outs_of c.args.done.now.ticket.0 i.tiles)) c.in_ok-parts.parts.items =
    c.in_ok-ready.ensures ∙ ap (λ ks. ready_tiles ks c.as_slice-2.result.now c.as_slice-3.result.now) c.keys-keys.ensures.value
    ∙ ap (λ es. ready_tiles job.keys es c.as_slice-3.result.now) (c.as_slice-2.ensures.value ∙ ends_are) ∙ ap (ready_tiles job.keys (map end_of (outs_of c.args.done.now.ticket.0 i.tiles))) c.as_slice-3.ensures.value in
    let now_is : c.finish.new.self ≡ finished c.args.done.now.ticket.0 c.in_ok-parts.parts.items i.tiles = c.in_ok-finished.ensures.ok ∙ ap (λ ps. finished c.args.done.now.ticket.0 ps i.tiles) c.as_slice.ensures.value in
    let after_is : c.offer_all.new.members.items ≡ all_offered job.number c.in_ok-ready.ready.items i.views.members.items = c.in_ok-frames.ensures.members ∙ ap (λ ts. all_offered job.number ts i.views.members.items) c.as_slice-4.ensures.value in
    let frames_are : c.in_ok-frames.frames ≡ all_frames job.number c.in_ok-ready.ready.items i.views.members.items = c.in_ok-frames.ensures.frames ∙ ap (λ ts. all_frames job.number ts i.views.members.items) c.as_slice-4.ensures.value in
    holds_painted g.K.Kit.rules g.K.Kit.cut g.K.Scene.Scene.paints g.K.Kit.IsSound laws.sound_start laws.sound_step laws.same_parts laws.pictures (g.K.Kit.contents i.kit) i.views.members.items i.tiles d c.self.invariant c.args.done.now.ticket.0 c.args.done.now.scene c.args.i job at here c.in_ok-parts.parts.items parts_are c.in_ok-ready.ready.items ready_are c.finish.new.self now_is c.remove-job.new.self.items c.remove-job.ensures.items c.offer_all.new.members.items after_is c.in_ok-frames.frames frames_are (λ base. laws.some_part (g.K.Kit.rules.start base) (laws.sound_start base))

pub returns : goal.returns
returns g c =
    let i = c.self.inside in
    let d : Held _ = held_of i.source.file i.source.base i.inputs.accepted.items i.inputs.applied i.views.members.items i.views.next i.jobs.items i.tiles i.saves in
    let laws = g.met.K.Kit g.world.𝓛 g.world.𝓜 g.world.𝓡 ((λ s x. x), (λ x. x), (λ x. x), λ x. x) in
    let j = c.job.inside in
    let job : Job _ = record { ticket = j.ticket; number = j.number; keys = j.group; area = j.area; scene = j.scene } in
    let at : IsJobAt d.document.jobs c.args.done.now.ticket.0 c.args.done.now.scene c.args.i = subst (λ (o : Held _). IsJobAt o.document.jobs c.args.done.now.ticket.0 c.args.done.now.scene c.args.i) (sym c.self.view_is) c.requires in
    let here : get_or d.document.jobs c.args.i job ≡ job = subst (λ (x : Job _). get_or d.document.jobs c.args.i x ≡ x) (sym c.job.view_is) (sym c.remove-job.ensures.value) in
    let parts_are : c.in_ok-parts.parts.items ≡ map (shown_here g.K.Kit.rules d.document job) job.keys = parts_by g.K.Kit.rules g.K.Kit.cut g.K.Scene.Scene.paints g.K.Kit.IsSound laws.sound_start laws.sound_step laws.same_parts laws.pictures (g.K.Kit.contents i.kit) i.views.members.items i.tiles d c.self.invariant c.args.done.now.ticket.0 c.args.done.now.scene c.args.i job at here c.args.done.now.pixels c.in_ok-parts.parts.items c.args.done.now.painted c.in_ok-parts.ensures.pictures in
    let ends_are : c.in-Keys.ends.items ≡ map end_of (outs_of c.args.done.now.ticket.0 i.tiles) = ends_by g.K.Kit.rules g.K.Kit.cut g.K.Scene.Scene.paints g.K.Kit.IsSound laws.sound_start laws.sound_step laws.same_parts laws.pictures (g.K.Kit.contents i.kit) i.views.members.items i.tiles d c.self.invariant c.args.done.now.ticket.0 c.args.done.now.scene c.args.i job at here c.in-Keys.ends.items (sym (ap told c.in-Keys.is) ∙ c.in_ok-finished.ensures.answer) in
    let ready_are : c.in_ok-ready.ready.items ≡ ready_tiles job.keys (map end_of (outs_of c.args.done.now.ticket.0 i.tiles)) c.in_ok-parts.parts.items =
    c.in_ok-ready.ensures ∙ ap (λ ks. ready_tiles ks c.as_slice-2.result.now c.as_slice-3.result.now) c.keys-keys.ensures.value
    ∙ ap (λ es. ready_tiles job.keys es c.as_slice-3.result.now) (c.as_slice-2.ensures.value ∙ ends_are) ∙ ap (ready_tiles job.keys (map end_of (outs_of c.args.done.now.ticket.0 i.tiles))) c.as_slice-3.ensures.value in
    let now_is : c.finish.new.self ≡ finished c.args.done.now.ticket.0 c.in_ok-parts.parts.items i.tiles = c.in_ok-finished.ensures.ok ∙ ap (λ ps. finished c.args.done.now.ticket.0 ps i.tiles) c.as_slice.ensures.value in
    let after_is : c.offer_all.new.members.items ≡ all_offered job.number c.in_ok-ready.ready.items i.views.members.items = c.in_ok-frames.ensures.members ∙ ap (λ ts. all_offered job.number ts i.views.members.items) c.as_slice-4.ensures.value in
    let frames_are : c.in_ok-frames.frames ≡ all_frames job.number c.in_ok-ready.ready.items i.views.members.items = c.in_ok-frames.ensures.frames ∙ ap (λ ts. all_frames job.number ts i.views.members.items) c.as_slice-4.ensures.value in
    rw c.frames_only.ensures
    (subst (λ (o : Held _). Moves g.K.Kit.rules g.K.Kit.cut o (Painted c.args.done.now.ticket.0 c.args.done.now.scene) (frames_only c.in_ok-frames.frames) (held_painted d c.remove-job.new.self.items c.offer_all.new.members.items c.finish.new.self)) c.self.view_is
    (moves_painted g.K.Kit.rules g.K.Kit.cut g.K.Scene.Scene.paints g.K.Kit.IsSound laws.sound_start laws.sound_step laws.same_parts laws.pictures (g.K.Kit.contents i.kit) i.views.members.items i.tiles d c.self.invariant c.args.done.now.ticket.0 c.args.done.now.scene c.args.i job at here c.in_ok-parts.parts.items parts_are c.in_ok-ready.ready.items ready_are c.finish.new.self now_is c.remove-job.new.self.items c.remove-job.ensures.items c.offer_all.new.members.items after_is c.in_ok-frames.frames frames_are))
