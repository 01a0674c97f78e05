use Rattle.std.proofs.Common.{take, refl, sym, ap, ◌∙◌}
use Rattle.std.proofs.lemmas.List.{take-set}
use Rattle.view_session.proofs.PlaceFacts.{take_removed}
use Rattle.view_session.proofs.ShowFacts.{show_stays, show_goes, show_none}
use Rattle.view_session.proofs.slots.show.Goals as goal

pub returns-in_default : goal.returns-in_default
returns-in_default c = record {
  shown = show_none c.args.slots.now.items c.as_slice.result.now c.args.key.now c.in_default.field-0 c.args.shown c.args.ends c.as_slice.ensures.value c.in_default.ensures.absent;
  front = refl;
}

pub returns-then-is_needed : goal.returns-then-is_needed
returns-then-is_needed c = record {
  shown = show_stays c.args.slots.now.items c.as_slice.result.now c.args.key.now c.in-Ok.i c.index.result.now c.showing-slot.result c.args.shown c.args.ends
      c.requires c.as_slice.ensures.value c.in-Ok.ensures.found c.index.ensures c.showing-slot.ensures (sym c.is_needed.ensures ∙ c.if-is_needed.true);
  front = take-set c.args.slots.now.items c.in-Ok.i c.showing-slot.result;
}

pub returns-else-is_needed : goal.returns-else-is_needed
returns-else-is_needed c = record {
  shown = show_goes c.args.slots.now.items c.as_slice.result.now c.remove.new.self.items c.args.key.now c.in-Ok.i c.index.result.now c.showing-slot.result c.args.shown c.args.ends
      c.requires c.as_slice.ensures.value c.in-Ok.ensures.found c.index.ensures c.showing-slot.ensures (sym c.is_needed.ensures ∙ c.if-is_needed.false) c.remove.ensures.items;
  front = ap (take c.in-Ok.i) c.remove.ensures.items ∙ take_removed c.args.slots.now.items c.in-Ok.i;
}
