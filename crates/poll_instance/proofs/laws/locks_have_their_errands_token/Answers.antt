use Rattle.poll_instance.proofs.Tokens.{errands_token}
use Rattle.poll_instance.proofs.laws.locks_have_their_errands_token.Goals as goal

pub returns : goal.returns
returns c applied file content s errand free e =
    errands_token applied file content s errand free e
