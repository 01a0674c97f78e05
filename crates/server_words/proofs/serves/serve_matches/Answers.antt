use Rattle.server_words.proofs.ServeSaid.{all_matched, serve_fails}
use Rattle.server_words.proofs.serves.serve_matches.Goals as goal

pub returns-clause-exact : goal.returns-clause-exact
returns-clause-exact c =
    serve_fails _ _ c.try_get_matches_from.result c.in_ok-serve_command.ensures
    c.try_get_matches_from.ensures.kinds

pub returns-clause-found : goal.returns-clause-found
returns-clause-found c =
    all_matched _ _ c.try_get_matches_from.result c.in_ok-serve_command.ensures
    c.try_get_matches_from.ensures.matches
