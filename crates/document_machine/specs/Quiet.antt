-- When nothing is left to do, and what is right then.
use Rattle.std.specs.Prelude.{◌≡◌, ℕ, Bool, not, ◌&&◌, nat_eq, [], length, None, Some, is_none}
use Rattle.std.specs.List.{list_any, list_all, AllByRecursion}
use Rattle.kit_trait.specs.Rules.{Rules, doc, shown}
use Rattle.tile_key.specs.Places.{Place}
use Rattle.document_machine.specs.Due.{is_due, keys, visible, version_of}
use Rattle.document_machine.specs.Saves.{has_ready_save}
use Rattle.document_machine.specs.State.{View, Document}
use Rattle.document_machine.specs.Step.{Rests}

-- a document is quiet where a turn would be Idle, no job is out, no put is under way and every window is
-- empty
pub record IsQuiet {C B S : Type 0} (rules : Rules C B) (d : Document S) : Type 0 where
  pub rests : Rests rules d
  pub no_job : d.jobs ≡ []
  pub no_put : d.saving.put ≡ None
  pub empty : AllByRecursion (λ view. view.window ≡ []) d.views

-- a view's window is empty, no pair that it sees is due, and it asks for nothing
abbrev pub is_still : {C B S : Type 0} → Rules C B → Document S → View → Bool
is_still rules d view =
    nat_eq (length view.window) 0
    && (not (list_any (is_due rules d view) (visible rules d view)) && nat_eq (length view.asked) 0)

-- the same as a test
abbrev pub is_quiet : {C B S : Type 0} → Rules C B → Document S → Bool
is_quiet rules d =
    (not (has_ready_save d) && is_none d.saving.put)
    && (nat_eq d.applied (length d.journal) && (nat_eq (length d.jobs) 0 && list_all (is_still rules d) d.views))

-- a pair is right where the view's screen has a version of the key that looks like the document after all
-- accepted inputs
abbrev pub IsRight : {C B S : Type 0} → Rules C B → Document S → View → Place → Type 0
IsRight rules d view key =
    (version : ℕ) × (version_of view.screen key ≡ Some version)
    × (shown rules (doc rules d.base d.journal version) key
    ≡ shown rules (doc rules d.base d.journal (length d.journal)) key)

-- every pair of a view and a key that it sees or asked for is right
abbrev pub AllRight : {C B S : Type 0} → Rules C B → Document S → Type 0
AllRight rules d = AllByRecursion (λ view. AllByRecursion (IsRight rules d view) (keys rules d view)) d.views
