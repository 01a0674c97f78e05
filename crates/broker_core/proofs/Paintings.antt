-- The painted tiles of a job are offered and kept as the machine says.
use Rattle.std.proofs.Common.{◌≡◌, ◌≢◌, ℕ, zero, suc, ◌+◌, ◌<◌, ◌≤◌, Bool, true, false, not, ◌&&◌, ◌||◌, cond, List, [], ◌∷◌, ◌++◌, length, map, filter, take, Option, Some, None, refl, sym, ap, subst, ◌∙◌, inl, inr, arith, nat_eq}
use Rattle.std.specs.List.{flat_map, AllByRecursion}
use Rattle.cool_base.specs.declared.ids.ViewId.{ViewId}
use Rattle.cool_frame.specs.declared.frame.Frame.{Frame}
use Rattle.cool_frame.specs.declared.frame.Frame.TheVariants.{Tile as TileFrame}
use Rattle.kit_trait.specs.Rules.{Rules, doc, shown}
use Rattle.tile_key.specs.Places.{Place, same_place}
use Rattle.document_machine.specs.Due.{is_current, touched}
use Rattle.document_machine.specs.Due as due
use Rattle.document_machine.specs.Outputs.{named}
use Rattle.document_machine.specs.State.{Document, View}
use Rattle.document_machine.specs.Step as step
use Rattle.document_machine.specs.Step.{views_offered, tiles_for}
use Rattle.broker_core.specs.Held.{IsTracked}
use Rattle.broker_core.specs.Members.{view_of, views_of}
use Rattle.broker_core.specs.Sending.{member_sent, sent_frame, offered, frames_for, all_offered, all_frames}
use Rattle.broker_core.specs.Serving.{takes}
use Rattle.broker_core.specs.declared.members.Member.{Member}
use Rattle.broker_core.specs.declared.sending.Ready.{Ready}
use Rattle.broker_core.proofs.Trackings.{IsMarked, tracked_map}
use Rattle.broker_core.proofs.Words.{takes_same, sent_same}

-- a tile that is there is marked as the present one exactly where it is, and shows the picture of its version
pub record IsReady {C B S : Type 0} (rules : Rules C B) (d : Document S) (version : ℕ) (tile : Ready) : Type 0 where
  pub current : is_current rules d version tile.key ≡ tile.current
  pub shows : tile.rgba ≡ (shown rules (doc rules d.base d.journal version) tile.key).rgba

not_not : (b : Bool) → not (not b) ≡ b
not_not true = refl
not_not false = refl

module _ {C B S : Type 0} (rules : Rules C B) (d : Document S) (version : ℕ) where
  pub marked_by : (tile : Ready) → IsReady rules d version tile → IsMarked rules d.base d.journal d.applied version tile
  marked_by tile r = ap not (sym r.current) ∙ not_not (touched rules d.base d.journal version tile.key d.applied)

  -- a member, offered the tile
  offered_same : (tile : Ready) (member : Member) → IsReady rules d version tile → IsTracked rules d.base d.journal d.applied member → view_of (offered version tile member) ≡ step.offered rules d version tile.key (view_of member)
  offered_same tile member r s =
      let go : (b : Bool) → view_of (cond b (member_sent version tile member) member) ≡ cond b (due.sent rules d version tile.key (view_of member)) (view_of member) = elim [
        | true ↦ sym (sent_same rules d version tile.key tile.current member r.current s)
        | false ↦ refl
      ] in
      go (takes tile.key version member.view) ∙ ap (λ b. cond b (due.sent rules d version tile.key (view_of member)) (view_of member)) (sym (takes_same rules d version tile.key member s))

  map_same : (tile : Ready) (members : List Member) → IsReady rules d version tile → AllByRecursion (IsTracked rules d.base d.journal d.applied) members → views_of (map (offered version tile) members) ≡ map (step.offered rules d version tile.key) (views_of members)
  map_same tile [] r all = refl
  map_same tile (member ∷ members) r all =
      ap (λ v. v ∷ views_of (map (offered version tile) members)) (offered_same tile member r all.0)
      ∙ ap (λ vs. step.offered rules d version tile.key (view_of member) ∷ vs) (map_same tile members r all.1)

  -- the frame of a member
  frame_same : (tile : Ready) (member : Member) → IsReady rules d version tile → IsTracked rules d.base d.journal d.applied member → frames_for version tile member ≡ step.tile_for rules d version tile.key (view_of member)
  frame_same tile member r s =
      ap (λ (rgba : List ℕ). cond (takes tile.key version member.view) ((named member.id, TileFrame tile.key version (record { 0 = member.view.next_wid }) rgba) ∷ []) []) r.shows
      ∙ ap (λ b. cond b (due.tile_frame rules d version tile.key (view_of member) ∷ []) []) (sym (takes_same rules d version tile.key member s))

  flat_same : (tile : Ready) (members : List Member) → IsReady rules d version tile → AllByRecursion (IsTracked rules d.base d.journal d.applied) members → flat_map (frames_for version tile) members ≡ flat_map (step.tile_for rules d version tile.key) (views_of members)
  flat_same tile [] r all = refl
  flat_same tile (member ∷ members) r all =
      ap (λ fs. fs ++ flat_map (frames_for version tile) members) (frame_same tile member r all.0)
      ∙ ap (λ fs. step.tile_for rules d version tile.key (view_of member) ++ fs) (flat_same tile members r all.1)

  -- the members once all were offered to them are the machine's views
  pub views_same : (tiles : List Ready) (members : List Member) → AllByRecursion (IsReady rules d version) tiles → AllByRecursion (IsTracked rules d.base d.journal d.applied) members → views_of (all_offered version tiles members) ≡ views_offered rules d version (map (λ (tile : Ready). tile.key) tiles) (views_of members)
  views_same [] members ready all = refl
  views_same (tile ∷ tiles) members ready all =
      views_same tiles (map (offered version tile) members) ready.1 (tracked_map rules d.base d.journal d.applied version tile members (marked_by tile ready.0) all)
      ∙ ap (λ vs. views_offered rules d version (map (λ (t : Ready). t.key) tiles) vs) (map_same tile members ready.0 all)

  -- and the frames the machine's
  pub frames_same : (tiles : List Ready) (members : List Member) → AllByRecursion (IsReady rules d version) tiles → AllByRecursion (IsTracked rules d.base d.journal d.applied) members → all_frames version tiles members ≡ tiles_for rules d version (map (λ (tile : Ready). tile.key) tiles) (views_of members)
  frames_same [] members ready all = refl
  frames_same (tile ∷ tiles) members ready all =
      ap (λ fs. fs ++ all_frames version tiles (map (offered version tile) members)) (flat_same tile members ready.0 all)
      ∙ ap (λ fs. flat_map (step.tile_for rules d version tile.key) (views_of members) ++ fs)
      (frames_same tiles (map (offered version tile) members) ready.1 (tracked_map rules d.base d.journal d.applied version tile members (marked_by tile ready.0) all)
      ∙ ap (λ vs. tiles_for rules d version (map (λ (t : Ready). t.key) tiles) vs) (map_same tile members ready.0 all))
