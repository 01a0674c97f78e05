use Rattle.wopi_host.proofs.Answered.{if_ok_from, on_err_from, answers_from, kept_to}
use Rattle.wopi_host.proofs.hosts.Host.answer_file.Goals as goal

pub returns-in-Ok-Some-clause-ok : goal.returns-in-Ok-Some-clause-ok
returns-in-Ok-Some-clause-ok g c =
    if_ok_from _ _ _
    (λ r from. answers_from _ _ _ _ _ _ _ c.find.ensures.stays (from (kept_to _ _ _ _ c.find.ensures.stays (rw c.in-Ok-Some.field-0-is at c.in-Ok-Some.ensures.finds))))
    c.answer_found.ensures.ok

pub returns-in-Ok-Some-clause-err : goal.returns-in-Ok-Some-clause-err
returns-in-Ok-Some-clause-err g c = on_err_from _ _ _ _ _ c.find.ensures.stays c.answer_found.ensures.err
