-- The machine: which outputs and which document may follow an event.
use Rattle.std.specs.Prelude.{◌≡◌, ◌≢◌, ℕ, ◌+◌, ◌<◌, ◌≤◌, Bool, true, false, not, ◌&&◌, nat_lt, List, [], ◌∷◌, ◌++◌, length, map, slice_get, Option, None, Some, ◌⊎◌, if◌then◌else◌}
use Rattle.std.specs.List.{list_any, flat_map, AllByRecursion}
use Rattle.cool_base.specs.declared.ids.ViewId.{ViewId}
use Rattle.cool_frame.specs.declared.frame.Frame.{Frame}
use Rattle.cool_frame.specs.declared.frame.Frame.TheVariants.{Status, Invalidate}
use Rattle.kit_trait.specs.Rules.{Rules, doc}
use Rattle.kit_trait.specs.declared.values.Damage.{Damage}
use Rattle.kit_trait.specs.declared.values.Input.{Input}
use Rattle.kit_trait.specs.declared.jobs.PaintJob.{PaintJob}
use Rattle.tile_key.specs.Places.{Place, IsGroup, place_of_keys}
use Rattle.document_machine.specs.Due.{parts_of, size_of, is_due, is_owed, is_wanted, has_room, is_out, is_current, is_not_back, keys, version_of, sent, takes, tile_frame}
use Rattle.document_machine.specs.Event.{Event, Joined, Left, Said, Turned, Painted, PutAnswered}
use Rattle.document_machine.specs.Message.{effect, heard, reply}
use Rattle.document_machine.specs.Next.{Work, Serve, Apply, Send, Cut, Rest}
use Rattle.document_machine.specs.Outputs.{named, nothing, frames_only, one_frame, outs_of}
use Rattle.document_machine.specs.Saves.{Serves, EndsPut, has_ready_save, saving_left}
use Rattle.document_machine.specs.State.{View, Job, Document, opening_view, find_view, with_view, without_view, find_job, without_job}
use Rattle.document_machine.specs.declared.limits.TheConstants.{MOST_JOBS, MOST_VIEWS}
use Rattle.document_machine.specs.declared.outs.Outs.{Outs}
use Rattle.document_machine.specs.declared.outs.Turned.{Turned as TurnAnswer}
use Rattle.document_machine.specs.declared.outs.Turned.TheVariants.{Worked, Idle}
use Rattle.document_machine.specs.declared.rights.Rights.{Rights}

-- the first frame of a view
abbrev pub status : {C B S : Type 0} → Rules C B → Document S → ℕ → Rights → Frame
status rules d id rights =
    Status rules.name (parts_of rules d.base) (size_of rules d.base 0) (named id) (not rights.can_write)

-- where a view may join it has the next id and gets its status; else nothing changes
abbrev pub JoinsWhere : {C B S : Type 0} → Bool → Rules C B → Document S → Rights → Outs S → Document S → Type 0
JoinsWhere true rules old rights outs new =
    (outs ≡ one_frame old.next_view (status rules old old.next_view rights))
    × (new ≡ record old {
      views = old.views ++ opening_view old.next_view rights ∷ [];
      next_view = old.next_view + 1;
    })
JoinsWhere false rules old rights outs new = (outs ≡ nothing) × (new ≡ old)

-- a view joins where one more may
abbrev pub Joins : {C B S : Type 0} → Rules C B → Document S → Rights → Outs S → Document S → Type 0
Joins rules old rights outs new = JoinsWhere (nat_lt (length old.views) MOST_VIEWS) rules old rights outs new

-- a view leaves, with its window, its asked keys and its screen, and a final save waits where one is needed;
-- its saves go on. Without it nothing changes
abbrev pub Leaves : {S : Type 0} → Document S → ℕ → Outs S → Document S → Type 0
Leaves old id outs new =
    (outs ≡ nothing)
    × (new ≡ record old { views = without_view old.views id; saving = saving_left old id })

-- a view says a text: its one effect, with the frames of it
pub record Says {C B S : Type 0} (rules : Rules C B) (old : Document S) (id : ℕ) (text : List ℕ) (outs : Outs S) (new : Document S) : Type 0 where
  pub view : View
  pub live : find_view old.views id ≡ Some view
  pub outs_are : outs ≡ reply id (effect rules old view text)
  pub new_is : new ≡ heard old id (effect rules old view text)

-- every view, in order of ids, is told each damaged rectangle, in the kit's order
abbrev pub told : List View → List Damage → List (ViewId × Frame)
told views damage = flat_map (λ view. map (λ d. (named view.id, Invalidate d.part d.rect)) damage) views

-- a turn applies the next input: no save is ready
pub record Applies {C B S : Type 0} (rules : Rules C B) (old : Document S) (outs : Outs S) (new : Document S) : Type 0 where
  pub input : Input
  pub no_save : has_ready_save old ≡ false
  pub behind : slice_get old.journal old.applied ≡ Some input
  pub new_is : new ≡ record old { applied = old.applied + 1 }
  pub outs_are : outs ≡ frames_only (told old.views (rules.hurt (doc rules old.base old.journal old.applied) input))

-- a job as it is given to a painter
abbrev pub given : {S : Type 0} → Job S → PaintJob S
given job = record { ticket = record { 0 = job.ticket }; number = job.number; group = job.keys; scene = job.scene }

-- a turn cuts a job: no save is ready, all inputs are applied, one more job may be out, none that is out is
-- of these keys, each key is owed, one of them to a view with room; the scene is that of the document as it is now
pub record Cuts {C B S : Type 0} (rules : Rules C B) (cut : C → Place → S) (old : Document S) (outs : Outs S) (new : Document S) : Type 0 where
  pub job : Job S
  pub no_save : has_ready_save old ≡ false
  pub level : old.applied ≡ length old.journal
  pub few : length old.jobs < MOST_JOBS
  pub ticket_is : job.ticket ≡ old.next_ticket
  pub number_is : job.number ≡ old.applied
  pub group : IsGroup job.keys
  pub area_is : job.area ≡ place_of_keys job.keys
  pub free : AllByRecursion (λ key. is_out old.jobs key ≡ false) job.keys
  pub owed : AllByRecursion (λ key. is_owed rules old key ≡ true) job.keys
  pub wanted : list_any (is_wanted rules old) job.keys ≡ true
  pub scene_is : job.scene ≡ cut (doc rules old.base old.journal old.applied) job.area
  pub outs_are : outs ≡ record { frames = []; jobs = given job ∷ []; errands = [] }
  pub new_is : new ≡ record old { jobs = old.jobs ++ job ∷ []; next_ticket = old.next_ticket + 1 }

-- a turn sends a tile that is there already: no save is ready, all inputs are applied, the pair is due, its
-- view has room, and the version is the present one and no step back
pub record Sends {C B S : Type 0} (rules : Rules C B) (old : Document S) (outs : Outs S) (new : Document S) : Type 0 where
  pub view : View
  pub key : Place
  pub version : ℕ
  pub no_save : has_ready_save old ≡ false
  pub level : old.applied ≡ length old.journal
  pub live : find_view old.views view.id ≡ Some view
  pub room : has_room view ≡ true
  pub due : is_due rules old view key ≡ true
  pub past : version ≤ old.applied
  pub current : is_current rules old version key ≡ true
  pub not_back : is_not_back (version_of view.screen key) version ≡ true
  pub outs_are : outs ≡ frames_only (tile_frame rules old version key view ∷ [])
  pub new_is : new ≡ record old { views = with_view old.views view.id (sent rules old version key) }

-- what a view with room is owed is under way, or no more jobs may be out
abbrev pub IsServed : {C B S : Type 0} → Rules C B → Document S → View → Type 0
IsServed rules d view =
    AllByRecursion
    (λ key. (has_room view && is_due rules d view key) ≡ true → (is_out d.jobs key ≡ true) ⊎ (MOST_JOBS ≤ length d.jobs))
    (keys rules d view)

-- there is nothing that a turn could do: no save is ready, all inputs are applied, and what each view with
-- room is owed is under way
pub record Rests {C B S : Type 0} (rules : Rules C B) (d : Document S) : Type 0 where
  pub no_save : has_ready_save d ≡ false
  pub level : d.applied ≡ length d.journal
  pub served : AllByRecursion (IsServed rules d) d.views

-- a turn that does a work: it serves the ready saves, it applies an input, it sends a tile, or it cuts a job
abbrev pub Works : {C B S : Type 0} → Rules C B → (C → Place → S) → Document S → Outs S → Document S → Type 0
Works rules cut old outs new =
    Serves rules old outs new ⊎ (Applies rules old outs new ⊎ (Sends rules old outs new ⊎ Cuts rules cut old outs new))

-- a turn is Worked where it did a work, and Idle where there was nothing to do
abbrev pub TurnsTo : {C B S : Type 0} → Rules C B → (C → Place → S) → Document S → TurnAnswer S → Document S → Type 0
TurnsTo rules cut old (Worked outs) new = Works rules cut old outs new
TurnsTo rules cut old Idle new = Rests rules old × (new ≡ old)

-- a turn of which this is the one work: a job that it cuts is of these keys
abbrev pub Does : {C B S : Type 0} → Rules C B → (C → Place → S) → Document S → Work → TurnAnswer S → Document S → Type 0
Does rules cut old Serve (Worked outs) new = Serves rules old outs new
Does rules cut old Apply (Worked outs) new = Applies rules old outs new
Does rules cut old (Send id key version) (Worked outs) new =
    (sends : Sends rules old outs new) × (sends.view.id ≡ id) × (sends.key ≡ key) × (sends.version ≡ version)
Does rules cut old (Cut id keys) (Worked outs) new = (cuts : Cuts rules cut old outs new) × (cuts.job.keys ≡ keys)
Does rules cut old Rest Idle new = Rests rules old × (new ≡ old)
Does rules cut old work turned new = ⊥

-- a view once the painted tile of a key was offered to it
abbrev pub offered : {C B S : Type 0} → Rules C B → Document S → ℕ → Place → View → View
offered rules d number key view = if takes rules d number key view then sent rules d number key view else view

-- the views once the painted tiles of these keys were offered to them, key by key
abbrev pub views_offered : {C B S : Type 0} → Rules C B → Document S → ℕ → List Place → List View → List View
views_offered rules d number [] views = views
views_offered rules d number (key ∷ others) views =
    views_offered rules d number others (map (offered rules d number key) views)

-- the frame that a view gets of a painted tile, if it takes it
abbrev pub tile_for : {C B S : Type 0} → Rules C B → Document S → ℕ → Place → View → List (ViewId × Frame)
tile_for rules d number key view = if takes rules d number key view then tile_frame rules d number key view ∷ [] else []

-- the frames of painted tiles: for each key in order, the views in order of ids
abbrev pub tiles_for : {C B S : Type 0} → Rules C B → Document S → ℕ → List Place → List View → List (ViewId × Frame)
tiles_for rules d number [] views = []
tiles_for rules d number (key ∷ others) views =
    flat_map (tile_for rules d number key) views
    ++ tiles_for rules d number others (map (offered rules d number key) views)

-- a painted result is taken where its ticket is out and its scene is the one kept for it: the job goes and
-- its tiles are offered; another result changes nothing
abbrev pub Paints : {C B S : Type 0} → Rules C B → Document S → ℕ → S → Outs S → Document S → Option (Job S) → Type 0
Paints rules old ticket scene outs new None = (outs ≡ nothing) × (new ≡ old)
Paints rules old ticket scene outs new (Some job) =
    ((scene ≢ job.scene) × (outs ≡ nothing) × (new ≡ old))
    ⊎ ((scene ≡ job.scene) × (outs ≡ frames_only (tiles_for rules old job.number job.keys old.views))
    × (new ≡ record old {
      jobs = without_job old.jobs ticket;
      views = views_offered rules old job.number job.keys old.views;
    }))

-- the one thing that a step of the machine is
abbrev pub Step : {C B S : Type 0} → Rules C B → (C → Place → S) → Document S → Event S → Outs S → Document S → Type 0
Step rules cut old (Joined rights) outs new = Joins rules old rights outs new
Step rules cut old (Left view) outs new = Leaves old view outs new
Step rules cut old (Said view text) outs new = Says rules old view text outs new
Step {C} {B} {S} rules cut old Turned outs new =
    (turned : TurnAnswer S) × TurnsTo rules cut old turned new × (outs ≡ outs_of turned)
Step rules cut old (Painted ticket scene) outs new = Paints rules old ticket scene outs new (find_job old.jobs ticket)
Step rules cut old (PutAnswered ticket result) outs new = EndsPut old ticket result outs new
