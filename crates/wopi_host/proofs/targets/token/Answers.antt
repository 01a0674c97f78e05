use Rattle.std.proofs.Common.{get_or, ◌≡◌, ◌<◌, ◌∙◌, ap, sym, Some, length, arith, nat_eq}
use Rattle.std.proofs.lemmas.Grind.{common_steps}
use Rattle.wopi_host.specs.Targets.{token_from}
use Rattle.wopi_host.proofs.Tokens.{token_here, token_later, token_missing}
use Rattle.wopi_host.proofs.targets.token.Goals as goal

pub returns-then-begins_token : goal.returns-then-begins_token
returns-then-begins_token c =
    let some : 0 < length c.loop-rest.rest.now = grind (arith, common_steps) in
    ap Some c.value_of.ensures
    ∙ sym (c.loop-rest.invariant ∙ token_here c.loop-rest.begins c.loop-rest.rest.now some (sym c.begins_token.ensures.value ∙ c.if-begins_token.true))

pub loop-rest-preserved : goal.loop-rest-preserved
loop-rest-preserved c =
    let some : 0 < length c.loop-rest.rest.now = grind (arith, common_steps) in
    c.loop-rest.invariant
    ∙ token_later c.loop-rest.begins c.loop-rest.rest.now some (sym c.begins_token.ensures.value ∙ c.if-begins_token.false)
    ∙ ap (λ xs. token_from (nat_eq (get_or c.loop-rest.rest.now 0 0) 38) xs) (sym c.others-rest.ensures)

pub returns : goal.returns
returns c =
    let none : length c.loop-rest.rest.now ≡ 0 = grind (arith, common_steps) in
    sym (c.loop-rest.invariant ∙ token_missing c.loop-rest.begins c.loop-rest.rest.now none)
