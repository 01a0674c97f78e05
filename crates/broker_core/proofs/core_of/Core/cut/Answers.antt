use Rattle.std.proofs.Common.{◌≡◌, ◌∙◌, List, All, false, [], ◌∷◌, ◌++◌, length, sym, ap, subst, Some, None}
use Rattle.std.specs.Prelude.{nat_lt}
use Rattle.tile_cache.specs.Calls.{IsFree, begun}
use Rattle.tile_key.specs.Places.{Place, place_of_keys}
use Rattle.document_machine.specs.Goes.{DoesNext}
use Rattle.document_machine.specs.Held.{Held, current_version}
use Rattle.document_machine.specs.Next.{group_at, next_pair}
use Rattle.document_machine.specs.Saves.{has_ready_save}
use Rattle.document_machine.specs.State.{Job}
use Rattle.document_machine.specs.declared.outs.Turned.TheVariants.{Worked}
use Rattle.broker_core.specs.Choosing as choosing
use Rattle.broker_core.specs.Held.{Holds, held_of}
use Rattle.broker_core.proofs.Cuttings.{begins, cuts_next, held_cut, held_jobs, holds_cut, part_is}
use Rattle.broker_core.proofs.Pairs.{group_same}
use Rattle.broker_core.proofs.core_of.Core.cut.Goals as goal

pub scene-requires : goal.scene-requires
scene-requires g c =
    let i = c.self.inside in
    let d : Held _ = held_of i.source.file i.source.base i.inputs.accepted.items i.inputs.applied i.views.members.items i.views.next i.jobs.items i.tiles i.saves in
    let no_save : has_ready_save d.document ≡ false = subst (λ (o : Held _). has_ready_save o.document ≡ false) (sym c.self.view_is) c.requires.no_save in
    let level : nat_lt d.document.applied (length d.document.journal) ≡ false = subst (λ (o : Held _). nat_lt o.document.applied (length o.document.journal) ≡ false) (sym c.self.view_is) c.requires.level in
    let next : next_pair g.K.Kit.rules (current_version g.K.Kit.rules d) d.document ≡ Some (c.args.id, c.args.key) = subst (λ (o : Held _). next_pair g.K.Kit.rules (current_version g.K.Kit.rules o) o.document ≡ Some (c.args.id, c.args.key)) (sym c.self.view_is) c.requires.next in
    let none : current_version g.K.Kit.rules d c.args.key ≡ None = subst (λ (o : Held _). current_version g.K.Kit.rules o c.args.key ≡ None) (sym c.self.view_is) c.requires.none_kept in
    let keys : List Place = group_at g.K.Kit.rules (current_version g.K.Kit.rules d) d.document c.args.key in
    let keys_are : c.group_at-group.result ≡ keys =
    c.group_at-group.ensures ∙ ap (λ members. choosing.group_at i.tiles members c.args.key) c.as_slice.ensures.value
    ∙ sym (group_same g.K.Kit.rules g.K.Kit.cut g.K.Kit.IsSound (g.K.Kit.contents i.kit) i.views.members.items i.tiles d c.self.invariant c.args.key) in
    let area_is : c.area-area.result ≡ place_of_keys keys = c.area-area.ensures ∙ ap place_of_keys keys_are in
    rw area_is (part_is g.K.Kit.rules g.K.Kit.cut g.K.Kit.IsSound (g.K.Kit.contents i.kit) i.views.members.items i.tiles d c.self.invariant c.args.id c.args.key no_save level next none)

pub begin-requires : goal.begin-requires
begin-requires g c =
    let i = c.self.inside in
    let d : Held _ = held_of i.source.file i.source.base i.inputs.accepted.items i.inputs.applied i.views.members.items i.views.next i.jobs.items i.tiles i.saves in
    let no_save : has_ready_save d.document ≡ false = subst (λ (o : Held _). has_ready_save o.document ≡ false) (sym c.self.view_is) c.requires.no_save in
    let level : nat_lt d.document.applied (length d.document.journal) ≡ false = subst (λ (o : Held _). nat_lt o.document.applied (length o.document.journal) ≡ false) (sym c.self.view_is) c.requires.level in
    let next : next_pair g.K.Kit.rules (current_version g.K.Kit.rules d) d.document ≡ Some (c.args.id, c.args.key) = subst (λ (o : Held _). next_pair g.K.Kit.rules (current_version g.K.Kit.rules o) o.document ≡ Some (c.args.id, c.args.key)) (sym c.self.view_is) c.requires.next in
    let none : current_version g.K.Kit.rules d c.args.key ≡ None = subst (λ (o : Held _). current_version g.K.Kit.rules o c.args.key ≡ None) (sym c.self.view_is) c.requires.none_kept in
    let keys : List Place = group_at g.K.Kit.rules (current_version g.K.Kit.rules d) d.document c.args.key in
    let keys_are : c.group_at-group.result ≡ keys =
    c.group_at-group.ensures ∙ ap (λ members. choosing.group_at i.tiles members c.args.key) c.as_slice.ensures.value
    ∙ sym (group_same g.K.Kit.rules g.K.Kit.cut g.K.Kit.IsSound (g.K.Kit.contents i.kit) i.views.members.items i.tiles d c.self.invariant c.args.key) in
    let area_is : c.area-area.result ≡ place_of_keys keys = c.area-area.ensures ∙ ap place_of_keys keys_are in
    record { free = subst (λ ks. All (IsFree i.tiles) ks) (sym keys_are) (begins g.K.Kit.rules g.K.Kit.cut g.K.Kit.IsSound (g.K.Kit.contents i.kit) i.views.members.items i.tiles d c.self.invariant c.args.id c.args.key no_save level next none) }

pub invariant_of-core : goal.invariant_of-core
invariant_of-core g c =
    let i = c.self.inside in
    let d : Held _ = held_of i.source.file i.source.base i.inputs.accepted.items i.inputs.applied i.views.members.items i.views.next i.jobs.items i.tiles i.saves in
    let no_save : has_ready_save d.document ≡ false = subst (λ (o : Held _). has_ready_save o.document ≡ false) (sym c.self.view_is) c.requires.no_save in
    let level : nat_lt d.document.applied (length d.document.journal) ≡ false = subst (λ (o : Held _). nat_lt o.document.applied (length o.document.journal) ≡ false) (sym c.self.view_is) c.requires.level in
    let next : next_pair g.K.Kit.rules (current_version g.K.Kit.rules d) d.document ≡ Some (c.args.id, c.args.key) = subst (λ (o : Held _). next_pair g.K.Kit.rules (current_version g.K.Kit.rules o) o.document ≡ Some (c.args.id, c.args.key)) (sym c.self.view_is) c.requires.next in
    let none : current_version g.K.Kit.rules d c.args.key ≡ None = subst (λ (o : Held _). current_version g.K.Kit.rules o c.args.key ≡ None) (sym c.self.view_is) c.requires.none_kept in
    let keys : List Place = group_at g.K.Kit.rules (current_version g.K.Kit.rules d) d.document c.args.key in
    let keys_are : c.group_at-group.result ≡ keys =
    c.group_at-group.ensures ∙ ap (λ members. choosing.group_at i.tiles members c.args.key) c.as_slice.ensures.value
    ∙ sym (group_same g.K.Kit.rules g.K.Kit.cut g.K.Kit.IsSound (g.K.Kit.contents i.kit) i.views.members.items i.tiles d c.self.invariant c.args.key) in
    let area_is : c.area-area.result ≡ place_of_keys keys = c.area-area.ensures ∙ ap place_of_keys keys_are in
    let now_is : c.begin.new.self ≡ begun keys d.document.applied i.tiles = c.in_ok-ticket.ensures.ok ∙ ap (λ ks. begun ks d.document.applied i.tiles) keys_are in
    let scene_is : c.in_ok-scene.scene ≡ g.K.Kit.cut (g.K.Kit.contents i.kit) (place_of_keys keys) = c.in_ok-scene.ensures.cut ∙ ap (g.K.Kit.cut (g.K.Kit.contents i.kit)) area_is in
    let job : Job _ = record { ticket = c.in_ok-ticket.ticket.0; number = d.document.applied; keys = c.group_at-group.result; area = c.area-area.result; scene = c.in_ok-scene.scene } in
    let job_is : job ≡ record { ticket = i.tiles.next; number = d.document.applied; keys = keys; area = place_of_keys keys; scene = g.K.Kit.cut (g.K.Kit.contents i.kit) (place_of_keys keys) } =
    λ p. record { ticket = c.in_ok-ticket.ensures.ticket p; number = d.document.applied; keys = keys_are p; area = area_is p; scene = scene_is p } in
    let laws = g.met.K.Kit g.world.𝓛 g.world.𝓜 g.world.𝓡 ((λ s x. x), (λ x. x), (λ x. x), λ x. x) in
    let pushed : c.push.new.self.items ≡ d.document.jobs ++ job ∷ [] = c.in_ok-push.ensures.items in
    subst (λ (js : List (Job _)). Holds g.K.Kit.rules g.K.Kit.cut g.K.Kit.IsSound (g.K.Kit.contents c.scene.new.self) i.views.members.items c.begin.new.self (held_jobs d js c.begin.new.self)) (sym pushed)
    (holds_cut g.K.Kit.rules g.K.Kit.cut g.K.Kit.IsSound (g.K.Kit.contents i.kit) i.views.members.items i.tiles d c.self.invariant c.args.id c.args.key no_save level next none job c.begin.new.self c.in_ok-outs.outs now_is job_is c.in_ok-outs.ensures
    (λ base. laws.some_part (g.K.Kit.rules.start base) (laws.sound_start base)) (g.K.Kit.contents c.scene.new.self) c.in_ok-scene.ensures.kept c.width-width.ensures.form)

pub returns : goal.returns
returns g c =
    let i = c.self.inside in
    let d : Held _ = held_of i.source.file i.source.base i.inputs.accepted.items i.inputs.applied i.views.members.items i.views.next i.jobs.items i.tiles i.saves in
    let no_save : has_ready_save d.document ≡ false = subst (λ (o : Held _). has_ready_save o.document ≡ false) (sym c.self.view_is) c.requires.no_save in
    let level : nat_lt d.document.applied (length d.document.journal) ≡ false = subst (λ (o : Held _). nat_lt o.document.applied (length o.document.journal) ≡ false) (sym c.self.view_is) c.requires.level in
    let next : next_pair g.K.Kit.rules (current_version g.K.Kit.rules d) d.document ≡ Some (c.args.id, c.args.key) = subst (λ (o : Held _). next_pair g.K.Kit.rules (current_version g.K.Kit.rules o) o.document ≡ Some (c.args.id, c.args.key)) (sym c.self.view_is) c.requires.next in
    let none : current_version g.K.Kit.rules d c.args.key ≡ None = subst (λ (o : Held _). current_version g.K.Kit.rules o c.args.key ≡ None) (sym c.self.view_is) c.requires.none_kept in
    let keys : List Place = group_at g.K.Kit.rules (current_version g.K.Kit.rules d) d.document c.args.key in
    let keys_are : c.group_at-group.result ≡ keys =
    c.group_at-group.ensures ∙ ap (λ members. choosing.group_at i.tiles members c.args.key) c.as_slice.ensures.value
    ∙ sym (group_same g.K.Kit.rules g.K.Kit.cut g.K.Kit.IsSound (g.K.Kit.contents i.kit) i.views.members.items i.tiles d c.self.invariant c.args.key) in
    let area_is : c.area-area.result ≡ place_of_keys keys = c.area-area.ensures ∙ ap place_of_keys keys_are in
    let now_is : c.begin.new.self ≡ begun keys d.document.applied i.tiles = c.in_ok-ticket.ensures.ok ∙ ap (λ ks. begun ks d.document.applied i.tiles) keys_are in
    let scene_is : c.in_ok-scene.scene ≡ g.K.Kit.cut (g.K.Kit.contents i.kit) (place_of_keys keys) = c.in_ok-scene.ensures.cut ∙ ap (g.K.Kit.cut (g.K.Kit.contents i.kit)) area_is in
    let job : Job _ = record { ticket = c.in_ok-ticket.ticket.0; number = d.document.applied; keys = c.group_at-group.result; area = c.area-area.result; scene = c.in_ok-scene.scene } in
    let job_is : job ≡ record { ticket = i.tiles.next; number = d.document.applied; keys = keys; area = place_of_keys keys; scene = g.K.Kit.cut (g.K.Kit.contents i.kit) (place_of_keys keys) } =
    λ p. record { ticket = c.in_ok-ticket.ensures.ticket p; number = d.document.applied; keys = keys_are p; area = area_is p; scene = scene_is p } in
    let pushed : c.push.new.self.items ≡ d.document.jobs ++ job ∷ [] = c.in_ok-push.ensures.items in
    subst (λ (js : List (Job _)). DoesNext g.K.Kit.rules g.K.Kit.cut c.args.self (Worked c.in_ok-outs.outs) (held_jobs d js c.begin.new.self)) (sym pushed)
    (subst (λ (o : Held _). DoesNext g.K.Kit.rules g.K.Kit.cut o (Worked c.in_ok-outs.outs) (held_cut d job c.begin.new.self)) c.self.view_is
    (cuts_next g.K.Kit.rules g.K.Kit.cut g.K.Kit.IsSound (g.K.Kit.contents i.kit) i.views.members.items i.tiles d c.self.invariant c.args.id c.args.key no_save level next none job c.begin.new.self c.in_ok-outs.outs now_is job_is c.in_ok-outs.ensures))
