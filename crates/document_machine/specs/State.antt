-- What a document is between two events.
use Rattle.std.specs.Prelude.{ℕ, Bool, List, [], ◌∷◌, Option, Some, None, is_some, nat_eq, if◌then◌else◌}
use Rattle.cool_base.specs.Points.{Rectangle}
use Rattle.document_machine.specs.declared.rights.Rights.{Rights}
use Rattle.kit_trait.specs.declared.values.Input.{Input}
use Rattle.save_core.specs.Saving.{Saving, opening as opening_saving}
use Rattle.send_window.specs.Tiles.{Sent}
use Rattle.tile_key.specs.Places.{Place, Scale}

-- a key on a view's screen, with the version last sent to it
pub record Shown : Type 0 where
  pub key : Place
  pub version : ℕ

-- one view: who it is and what it may do, its part of the document, its zoom and the area that it looks
-- at, the keys that it asked for in the order asked, what it was last sent of each key, in key order, what
-- it has not acknowledged, in the order sent, and the number of its next tile
pub record View : Type 0 where
  pub id : ℕ
  pub rights : Rights
  pub part : ℕ
  pub zoom : Scale
  pub area : Rectangle
  pub asked : List Place
  pub screen : List Shown
  pub window : List Sent
  pub next_wid : ℕ

-- one job that is out: its ticket, the number of inputs that its picture shows, its keys in order, the
-- area that they fill, and the scene of that area
pub record Job (S : Type 0) : Type 0 where
  pub ticket : ℕ
  pub number : ℕ
  pub keys : List Place
  pub area : Place
  pub scene : S

-- one document: its file's id, the bytes that it was loaded from, the accepted inputs and how many of them are
-- applied, the views in the order of their ids, the id of the next view, the jobs out, the next ticket, and
-- what is known of its saves
pub record Document (S : Type 0) : Type 0 where
  pub file : List ℕ
  pub base : List ℕ
  pub journal : List Input
  pub applied : ℕ
  pub views : List View
  pub next_view : ℕ
  pub jobs : List (Job S)
  pub next_ticket : ℕ
  pub saving : Saving

-- a document as it is loaded
abbrev pub opening : {S : Type 0} → (file base : List ℕ) → Document S
opening file base = record {
  file = file;
  base = base;
  journal = [];
  applied = 0;
  views = [];
  next_view = 0;
  jobs = [];
  next_ticket = 1;
  saving = opening_saving;
}

-- the zoom of a view that joins: tiles of 256 by 256 pixels, each of 3,840 by 3,840 twips, with grid lines
abbrev pub first_zoom : Scale
first_zoom = record { pixel_w = 256; pixel_h = 256; twip_w = 3840; twip_h = 3840; nviewid = 0 }

-- the area of a view that joins: no point
abbrev pub no_area : Rectangle
no_area = record { x = 0; y = 0; w = 0; h = 0 }

-- a view as it joins
abbrev pub opening_view : ℕ → Rights → View
opening_view id rights = record {
  id = id;
  rights = rights;
  part = 0;
  zoom = first_zoom;
  area = no_area;
  asked = [];
  screen = [];
  window = [];
  next_wid = 1;
}

-- the view with this id
abbrev pub find_view : List View → ℕ → Option View
find_view [] id = None
find_view (view ∷ views) id = if nat_eq view.id id then Some view else find_view views id

-- a view with this id is there
abbrev pub is_live : List View → ℕ → Bool
is_live views id = is_some (find_view views id)

-- the views, the one with this id changed
abbrev pub with_view : List View → ℕ → (View → View) → List View
with_view [] id change = []
with_view (view ∷ views) id change =
    if nat_eq view.id id then change view ∷ views else view ∷ with_view views id change

-- the views without the one with this id
abbrev pub without_view : List View → ℕ → List View
without_view [] id = []
without_view (view ∷ views) id = if nat_eq view.id id then views else view ∷ without_view views id

-- the job with this ticket
abbrev pub find_job : {S : Type 0} → List (Job S) → ℕ → Option (Job S)
find_job [] ticket = None
find_job (job ∷ jobs) ticket = if nat_eq job.ticket ticket then Some job else find_job jobs ticket

-- the jobs without the one with this ticket
abbrev pub without_job : {S : Type 0} → List (Job S) → ℕ → List (Job S)
without_job [] ticket = []
without_job (job ∷ jobs) ticket = if nat_eq job.ticket ticket then jobs else job ∷ without_job jobs ticket
