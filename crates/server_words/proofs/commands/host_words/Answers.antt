use Rattle.std.proofs.Common.{◌∙◌, ap, sym, option_map}
use Rattle.clap.specs.Words.{found_of}
use Rattle.server_words.specs.Hosts.{said_of}
use Rattle.server_words.proofs.Said.{only_refused, refused_by_parser, said_by_values}
use Rattle.server_words.proofs.commands.host_words.Goals as goal

pub returns-in-Err-clause-refused : goal.returns-in-Err-clause-refused
returns-in-Err-clause-refused c = λ is. refused_by_parser _ c.in-Err.error c.in-Err.ensures.exact (c.fault_of.ensures.refused (only_refused c.fault_of.result is))

pub returns-in-Some-clause-said : goal.returns-in-Some-clause-said
returns-in-Some-clause-said c =
    said_by_values _ (found_of c.in-Ok.matches) c.get_str-port.result c.get_str-folder.result c.get_str.result c.in-Ok.ensures.exact c.in-Ok.ensures.found
    c.get_str-port.ensures c.get_str-folder.ensures c.get_str.ensures
    ∙ sym c.read_values.ensures ∙ ap (option_map said_of) c.in-Some.is

pub returns-clause-refused : goal.returns-clause-refused
returns-clause-refused c = λ _.
    said_by_values _ (found_of c.in-Ok.matches) c.get_str-port.result c.get_str-folder.result c.get_str.result c.in-Ok.ensures.exact c.in-Ok.ensures.found
    c.get_str-port.ensures c.get_str-folder.ensures c.get_str.ensures
    ∙ sym c.read_values.ensures ∙ ap (option_map said_of) c.in-None.is
