-- A view with its id, and the machine's view that it is.
use Rattle.std.specs.Prelude.{List, map}
use Rattle.document_machine.specs.State.{View, Shown}
use Rattle.view_session.specs.Viewing.{Entry}
use Rattle.broker_core.specs.declared.members.Member.{Member}

-- an entry of a screen, without the mark
abbrev pub shown_of : Entry → Shown
shown_of entry = record { key = entry.key; version = entry.version }

-- the machine's view: what it sees is not kept there, and its screen has no marks
abbrev pub view_of : Member → View
view_of member = record {
  id = member.id;
  rights = member.view.rights;
  part = member.view.part;
  zoom = member.view.zoom;
  area = member.view.area;
  asked = member.view.asked;
  screen = map shown_of member.view.screen;
  window = member.view.window;
  next_wid = member.view.next_wid;
}

abbrev pub views_of : List Member → List View
views_of members = map view_of members
