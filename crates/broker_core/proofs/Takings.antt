-- A painted result is taken: it is the machine's move, and the broker keeps what it kept.
use Rattle.std.proofs.Common.{◌≡◌, ◌≢◌, ℕ, suc, ◌<◌, ◌≤◌, true, false, List, [], ◌∷◌, length, map, filter, take, get_or, Option, Some, None, refl, sym, ap, subst, ◌∙◌, inl, inr, arith, nat_eq}
use Rattle.std.specs.List.{AllByRecursion, remove}
use Rattle.cool_base.specs.declared.ids.ViewId.{ViewId}
use Rattle.cool_frame.specs.declared.frame.Frame.{Frame}
use Rattle.kit_trait.specs.Rules.{Rules, after, doc, shown}
use Rattle.kit_trait.specs.declared.values.Input.{Input}
use Rattle.kit_trait.specs.declared.values.Pixels.{Pixels}
use Rattle.tile_cache.specs.Cached.{Cached}
use Rattle.tile_cache.specs.Calls.{AreSized, end_of, ends_of, finished, keep_all, new_tiles, outs_but}
use Rattle.tile_cache.specs.Calls as calls
use Rattle.tile_cache.specs.declared.outs.Out.{Out}
use Rattle.tile_combine.specs.Parts.{HasSize, picture_in}
use Rattle.kit_trait.specs.Pictures.{Colour}
use Rattle.tile_cache.specs.declared.tiles.KeyEnd.{KeyEnd}
use Rattle.tile_key.specs.Places.{Place, IsArea, IsGroup, place_of_keys}
use Rattle.document_machine.specs.Due.{parts_of}
use Rattle.document_machine.specs.Event.{Painted}
use Rattle.document_machine.specs.Goes.{Moves}
use Rattle.document_machine.specs.Held.{Held, KeptTile, KeepsPainted, with_painted}
use Rattle.document_machine.specs.Keys.{Pairwise}
use Rattle.document_machine.specs.Kept.{IsJobKept, IsKept}
use Rattle.document_machine.specs.Outputs.{frames_only}
use Rattle.document_machine.specs.State.{Document, Job, View, find_job, without_job}
use Rattle.document_machine.specs.Step.{Paints, views_offered, tiles_for}
use Rattle.document_machine.specs.declared.limits.TheConstants.{MOST_KEPT}
use Rattle.document_machine.specs.declared.outs.Outs.{Outs}
use Rattle.document_machine.proofs.Lists.{all_at}
use Rattle.broker_core.specs.Caching.{IsTileOf, kept_tiles, out_of, outs_of}
use Rattle.broker_core.specs.Held.{Holds, IsTracked}
use Rattle.broker_core.specs.Members.{view_of, views_of}
use Rattle.broker_core.specs.Painting.{IsJobAt}
use Rattle.broker_core.specs.Serving.{Ignores}
use Rattle.broker_core.specs.Sending.{all_offered, all_frames, ready_tiles}
use Rattle.broker_core.specs.declared.members.Member.{Member}
use Rattle.broker_core.specs.declared.sending.Ready.{Ready}
use Rattle.document_laws.proofs.Moving.{moves_keep}
use Rattle.broker_core.proofs.Lists.{all_remove}
use Rattle.broker_core.proofs.Keepings.{job_finds, job_leaves, own_same, other_same, out_here, shown_here, sized, ready_are, ready_keys, painted_same, tiles_all, take_all, take_kept, sound_after, parts_after, rows_size}
use Rattle.broker_core.proofs.Paintings.{IsReady, marked_by, views_same, frames_same}
use Rattle.broker_core.proofs.Trackings.{IsMarked, tracked_all}

-- a result that is not taken changes nothing
pub ignores : {C B S : Type 0} (rules : Rules C B) (cut : C → Place → S) (held : Held S) (ticket : ℕ) (scene : S) → Ignores scene (find_job held.document.jobs ticket) → Moves rules cut held (Painted ticket scene) (frames_only []) held
ignores {C} {B} {S} rules cut held ticket scene other =
    let d = held.document in
    let go : (o : Option (Job S)) → Ignores scene o → Paints rules d ticket scene (frames_only []) d o × KeepsPainted rules held scene held.kept o = elim [
      | None ↦ λ none. ((refl, refl), refl)
      | Some job ↦ λ apart. (inl (apart, refl, refl), inl (apart, refl))
    ] in
    go (find_job d.jobs ticket) other

-- what is kept once a painted result was taken
abbrev pub held_painted : {S : Type 0} → Held S → List (Job S) → List Member → Cached → Held S
held_painted held jobs members cache = record {
  document = record (held.document) { views = views_of members; jobs = jobs; next_ticket = cache.next };
  kept = kept_tiles cache.tiles;
}

module _ {C B S : Type 0} (rules : Rules C B) (cut : C → Place → S) (paints : S → Pixels) (IsSound : C → Type 0)
    (sound_start : (file : List ℕ) → IsSound (rules.start file))
    (sound_step : (c : C) (input : Input) → IsSound c → IsSound (rules.step c input))
    (same_parts : (c : C) (input : Input) → IsSound c → rules.parts (rules.body (rules.step c input)) ≡ rules.parts (rules.body c))
    (pictures : (c : C) (place : Place) → IsSound c → IsArea place → place.part < rules.parts (rules.body c) → paints (cut c place) ≡ shown rules c place)
    (contents : C) (members : List Member) (cache : Cached) (held : Held S) (h : Holds rules cut IsSound contents members cache held)
    (ticket : ℕ) (scene : S) (i : ℕ) (job : Job S) (at : IsJobAt held.document.jobs ticket scene i) (here : get_or held.document.jobs i job ≡ job) where
  -- the job is out with this ticket and this scene
  pub job_ticket : nat_eq job.ticket ticket ≡ true
  job_ticket = subst (λ (j : Job S). nat_eq j.ticket ticket ≡ true) here (at.here job)

  pub job_scene : job.scene ≡ scene
  job_scene = subst (λ (j : Job S). j.scene ≡ scene) here (at.scene_is job)

  kept_job : IsJobKept rules cut held.document job
  kept_job = all_at (IsJobKept rules cut held.document) held.document.jobs i job h.kept.document.jobs at.within here

  area_form : IsArea job.area
  area_form = all_at (λ (j : Job S). IsArea j.area) held.document.jobs i job h.forms at.within here

  -- its picture shows the document after as many inputs as its number says
  pub pixels_are : (pixels : Pixels) → pixels ≡ paints scene → pixels ≡ shown rules (doc rules held.document.base held.document.journal job.number) (place_of_keys job.keys)
  pixels_are pixels painted =
      let d = held.document in
      let c : C = doc rules d.base d.journal job.number in
      let start : IsSound (rules.start d.base) = sound_start d.base in
      let sound : IsSound c = sound_after rules IsSound sound_step (rules.start d.base) (take job.number d.journal) start in
      let parts : rules.parts (rules.body c) ≡ parts_of rules d.base = parts_after rules IsSound sound_step same_parts (rules.start d.base) (take job.number d.journal) start in
      let low : job.area.part < parts_of rules d.base = kept_job.part in
      painted ∙ ap paints (sym job_scene ∙ kept_job.scene_is)
      ∙ pictures c job.area sound area_form (let low2 : job.area.part < rules.parts (rules.body c) = omega arith in low2)
      ∙ ap (λ p. shown rules c p) kept_job.area_is

  -- so it has the size of its area
  pub pixels_sized : (pixels : Pixels) → pixels ≡ paints scene → HasSize (place_of_keys job.keys) pixels
  pixels_sized pixels painted =
      let d = held.document in
      let area : Place = place_of_keys job.keys in
      subst (λ (p : Pixels). HasSize area p) (sym (pixels_are pixels painted))
      (record { width = refl; height = refl; bytes = rows_size (rules.colour (rules.body (doc rules d.base d.journal job.number)) area.nviewid) area area.height })

  -- the parts of it are the pictures of its keys
  pub parts_by : (pixels : Pixels) (parts : List Pixels) → pixels ≡ paints scene → ((colour : ℕ → ℕ → ℕ → ℕ → Colour) → pixels ≡ picture_in colour (place_of_keys job.keys) → parts ≡ map (picture_in colour) job.keys) → parts ≡ map (shown_here rules held.document job) job.keys
  parts_by pixels parts painted pictures_of = pictures_of (rules.colour (rules.body (doc rules held.document.base held.document.journal job.number))) (pixels_are pixels painted)

  -- the keys of the job in the cache
  pub own_are : filter (λ (out : Out). nat_eq out.ticket ticket) cache.outs ≡ map (out_here rules held.document job) job.keys
  own_are =
      let d = held.document in
      ap (λ (outs : List Out). filter (λ (out : Out). nat_eq out.ticket ticket) outs) h.cached.outs
      ∙ own_same rules d.base d.journal d.applied ticket d.jobs i job h.kept.document.tickets at.within job_ticket here at.before

  -- what became of each key is told of the keys of the job
  pub ends_by : (ends : List KeyEnd) → Some ends ≡ ends_of (calls.outs_of ticket cache) → ends ≡ map end_of (calls.outs_of ticket cache)
  ends_by ends told = go (calls.outs_of ticket cache) told
    where
      go : (outs : List Out) → Some ends ≡ ends_of outs → ends ≡ map end_of outs
      go [] e = absurd (cc)
      go (out ∷ outs) e = cc

  -- and they are some
  pub some_ends : ends_of (calls.outs_of ticket cache) ≡ None → ⊥
  some_ends none = go job.keys kept_job.group (sym (ap ends_of own_are) ∙ none)
    where
      go : (keys : List Place) → IsGroup keys → ends_of (map (out_here rules held.document job) keys) ≡ None → ⊥
      go [] group e = group
      go (key ∷ keys) group e = absurd (cc)

  pub ends_count : (ends : List KeyEnd) → ends ≡ map end_of (calls.outs_of ticket cache) → length ends ≡ length job.keys
  ends_count ends is = ap length is ∙ ap (λ outs. length (map end_of outs)) own_are ∙ count job.keys
    where
      count : (keys : List Place) → length (map end_of (map (out_here rules held.document job) keys)) ≡ length keys
      count [] = refl
      count (key ∷ keys) = ap suc (count keys)

  pub parts_count : (parts : List Pixels) → parts ≡ map (shown_here rules held.document job) job.keys → length parts ≡ length job.keys
  parts_count parts is = ap length is ∙ count job.keys
    where
      count : (keys : List Place) → length (map (shown_here rules held.document job) keys) ≡ length keys
      count [] = refl
      count (key ∷ keys) = ap suc (count keys)

  -- the parts of its picture have the sizes of its keys
  pub parts_sized : (parts : List Pixels) → parts ≡ map (shown_here rules held.document job) job.keys → AreSized (calls.outs_of ticket cache) parts
  parts_sized parts is =
      subst (λ outs. AreSized outs parts) (sym own_are) (subst (λ ps. AreSized (map (out_here rules held.document job) job.keys) ps) (sym is) (sized rules held.document job job.keys))

  module _ (parts : List Pixels) (parts_are : parts ≡ map (shown_here rules held.document job) job.keys)
      (tiles : List Ready) (tiles_are : tiles ≡ ready_tiles job.keys (map end_of (calls.outs_of ticket cache)) parts)
      (now : Cached) (now_is : now ≡ finished ticket parts cache)
      (jobs : List (Job S)) (jobs_are : jobs ≡ remove held.document.jobs i)
      (after_members : List Member) (after_is : after_members ≡ all_offered job.number tiles members)
      (frames : List (ViewId × Frame)) (frames_are : frames ≡ all_frames job.number tiles members) where
    tiles_here : tiles ≡ ready_tiles job.keys (map end_of (map (out_here rules held.document job) job.keys)) (map (shown_here rules held.document job) job.keys)
    tiles_here = tiles_are ∙ ap (λ outs. ready_tiles job.keys (map end_of outs) parts) own_are ∙ ap (λ ps. ready_tiles job.keys (map end_of (map (out_here rules held.document job) job.keys)) ps) parts_are

    ready : AllByRecursion (IsReady rules held.document job.number) tiles
    ready = subst (λ ts. AllByRecursion (IsReady rules held.document job.number) ts) (sym tiles_here) (ready_are rules held.document job job.keys)

    keys_are : map (λ (tile : Ready). tile.key) tiles ≡ job.keys
    keys_are = ap (λ ts. map (λ (tile : Ready). tile.key) ts) tiles_here ∙ ready_keys rules held.document job job.keys

    kept_are : kept_tiles now.tiles ≡ take MOST_KEPT (with_painted rules held.document job.number job.keys held.kept)
    kept_are =
        let d = held.document in
        ap (λ (c : Cached). kept_tiles c.tiles) now_is
        ∙ take_kept 256 (keep_all (new_tiles (calls.outs_of ticket cache) parts) cache.tiles)
        ∙ ap (take 256)
        (ap (λ outs. kept_tiles (keep_all (new_tiles outs parts) cache.tiles)) own_are
        ∙ ap (λ ps. kept_tiles (keep_all (new_tiles (map (out_here rules d job) job.keys) ps) cache.tiles)) parts_are
        ∙ painted_same rules d job job.keys cache.tiles (subst (λ ts. Pairwise (λ (a b : KeptTile). a.key ≢ b.key) ts) h.kept_are h.kept.kept_once)
        ∙ ap (with_painted rules d job.number job.keys) (sym h.kept_are))

    -- it is the machine's move
    pub moves_painted : Moves rules cut held (Painted ticket scene) (frames_only frames) (held_painted held jobs after_members now)
    moves_painted =
        let d = held.document in
        let new : Held S = held_painted held jobs after_members now in
        let frames_is : frames ≡ tiles_for rules d job.number job.keys d.views =
        frames_are ∙ frames_same rules d job.number tiles members ready h.tracked
        ∙ ap (λ ks. tiles_for rules d job.number ks (views_of members)) keys_are ∙ ap (λ vs. tiles_for rules d job.number job.keys vs) (sym h.views_are) in
        let views_is : views_of after_members ≡ views_offered rules d job.number job.keys d.views =
        ap views_of after_is ∙ views_same rules d job.number tiles members ready h.tracked
        ∙ ap (λ ks. views_offered rules d job.number ks (views_of members)) keys_are ∙ ap (λ vs. views_offered rules d job.number job.keys vs) (sym h.views_are) in
        let jobs_is : jobs ≡ without_job d.jobs ticket = jobs_are ∙ sym (job_leaves d.jobs ticket scene i job at here) in
        let next_is : now.next ≡ d.next_ticket = ap (λ (c : Cached). c.next) now_is ∙ sym h.ticket_is in
        let new_is : new.document ≡ record d { jobs = without_job d.jobs ticket; views = views_offered rules d job.number job.keys d.views } =
        ap (λ n. record d { views = views_of after_members; jobs = jobs; next_ticket = n }) next_is
        ∙ ap (λ vs. record d { views = vs; jobs = jobs }) views_is ∙ ap (λ js. record d { views = views_offered rules d job.number job.keys d.views; jobs = js }) jobs_is in
        let found : find_job d.jobs ticket ≡ Some job = job_finds d.jobs ticket scene i job at here in
        let paints_it : Paints rules d ticket scene (frames_only frames) new.document (Some job) = inr (sym job_scene, ap frames_only frames_is, new_is) in
        let keeps : KeepsPainted rules held scene new.kept (Some job) = inr (sym job_scene, kept_are) in (
          subst (λ o. Paints rules d ticket scene (frames_only frames) new.document o) (sym found) paints_it,
          subst (λ o. KeepsPainted rules held scene new.kept o) (sym found) keeps,
        )

    -- and what a broker keeps
    pub holds_painted : ((base : List ℕ) → 0 < parts_of rules base) → Holds rules cut IsSound contents after_members now (held_painted held jobs after_members now)
    holds_painted some_part =
        let d = held.document in
        let new : Held S = held_painted held jobs after_members now in
        let marked : AllByRecursion (IsMarked rules d.base d.journal d.applied job.number) tiles = all_marked tiles ready in
        record {
          kept = moves_keep rules cut some_part held new (Painted ticket scene) (frames_only frames) moves_painted h.kept;
          views_are = refl;
          contents_are = h.contents_are;
          sound = h.sound;
          parts_are = h.parts_are;
          sizes_are = h.sizes_are;
          some_part = h.some_part;
          tracked = subst (λ ms. AllByRecursion (IsTracked rules d.base d.journal d.applied) ms) (sym after_is) (tracked_all rules d.base d.journal d.applied job.number tiles members marked h.tracked);
          forms = subst (λ (js : List (Job S)). AllByRecursion (λ (j : Job S). IsArea j.area) js) (sym jobs_are) (all_remove (λ (j : Job S). IsArea j.area) d.jobs i h.forms);
          ticket_is = refl;
          kept_are = refl;
          cached = record {
            tiles = subst (λ (c : Cached). AllByRecursion (IsTileOf rules d.base d.journal d.applied) c.tiles) (sym now_is)
                (take_all (IsTileOf rules d.base d.journal d.applied) 256 (keep_all (new_tiles (calls.outs_of ticket cache) parts) cache.tiles)
                (subst (λ outs. AllByRecursion (IsTileOf rules d.base d.journal d.applied) (keep_all (new_tiles outs parts) cache.tiles)) (sym own_are)
                (subst (λ ps. AllByRecursion (IsTileOf rules d.base d.journal d.applied) (keep_all (new_tiles (map (out_here rules d job) job.keys) ps) cache.tiles)) (sym parts_are)
                (tiles_all rules d job job.keys cache.tiles h.cached.tiles))));
            outs = ap (λ (c : Cached). c.outs) now_is
                ∙ ap (λ (outs : List Out). outs_but ticket outs) h.cached.outs
                ∙ other_same rules d.base d.journal d.applied ticket d.jobs i job h.kept.document.tickets at.within job_ticket here at.before
                ∙ ap (λ (js : List (Job S)). outs_of rules d.base d.journal d.applied js) (sym jobs_are);
          };
        }
      where
        all_marked : (list : List Ready) → AllByRecursion (IsReady rules held.document job.number) list → AllByRecursion (IsMarked rules held.document.base held.document.journal held.document.applied job.number) list
        all_marked [] all = tt
        all_marked (tile ∷ list) all = (marked_by rules held.document job.number tile all.0, all_marked list all.1)
