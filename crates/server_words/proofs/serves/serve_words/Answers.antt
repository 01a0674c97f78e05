use Rattle.std.proofs.Common.{◌∙◌, ap, sym, option_map}
use Rattle.clap.specs.Words.{found_of}
use Rattle.server_words.specs.Serves.{serve_said_of}
use Rattle.server_words.proofs.ServeSaid.{serve_only_refused, serve_refused_by_parser}
use Rattle.server_words.proofs.ServeSaid.{serve_said_by_values}
use Rattle.server_words.proofs.serves.serve_words.Goals as goal

pub returns-in-Err-clause-refused : goal.returns-in-Err-clause-refused
returns-in-Err-clause-refused c =
    λ is. serve_refused_by_parser _ c.in-Err.error c.in-Err.ensures.exact
    (c.fault_of.ensures.refused (serve_only_refused c.fault_of.result is))

pub returns-in-Some-clause-said : goal.returns-in-Some-clause-said
returns-in-Some-clause-said c =
    serve_said_by_values _
    (found_of c.in-Ok.matches) c.get_str-port.result c.get_str-wopi.result
    c.get_str-polls.result c.get_str-workers.result c.get_str-sessions.result
    c.get_str-kit.result c.in-Ok.ensures.exact c.in-Ok.ensures.found
    c.get_str-port.ensures c.get_str-wopi.ensures c.get_str-polls.ensures c.get_str-workers.ensures
    c.get_str-sessions.ensures c.get_str-kit.ensures
    ∙ sym c.read_values.ensures ∙ ap (option_map serve_said_of) c.in-Some.is

pub returns-clause-refused : goal.returns-clause-refused
returns-clause-refused c = λ _.
    serve_said_by_values _
    (found_of c.in-Ok.matches) c.get_str-port.result c.get_str-wopi.result
    c.get_str-polls.result c.get_str-workers.result c.get_str-sessions.result
    c.get_str-kit.result c.in-Ok.ensures.exact c.in-Ok.ensures.found
    c.get_str-port.ensures c.get_str-wopi.ensures c.get_str-polls.ensures c.get_str-workers.ensures
    c.get_str-sessions.ensures c.get_str-kit.ensures
    ∙ sym c.read_values.ensures ∙ ap (option_map serve_said_of) c.in-None.is
