use Rattle.hall_machine.specs.Entries.{stage_of}
use Rattle.poll_hall.proofs.Labels.{labels_taken, values_taken}
use Rattle.poll_hall.proofs.turns.collect_turn.Goals as goal

pub returns-clause-says : goal.returns-clause-says
returns-clause-says g c = record {
  call = c.collect.ensures.answers;
  bag = labels_taken g.M.Labelled.tag
      (stage_of c.args.hall.now.book) c.args.hall.now.opens c.collect.new.self.opens
      c.is_reached.ensures.desks c.is_reached.ensures.ids c.args.doc.0 c.collect.result.0
      c.collect.result.1 c.collect.ensures.values;
}

pub returns-clause-values : goal.returns-clause-values
returns-clause-values g c = values_taken c.args.doc.0 c.args.hall.now.opens c.collect.new.self.opens
    c.collect.result.0 c.collect.result.1 c.collect.ensures.values
