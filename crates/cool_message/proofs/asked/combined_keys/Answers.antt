use Rattle.std.proofs.Common.{◌≡◌, None, sym, ◌∙◌, ap, refl}
use Rattle.std.specs.List.{list_all}
use Rattle.std.proofs.lemmas.Slice.Zip.{Zip-more, either_empty_from_Zip}
use Rattle.cool_message.specs.Asked.{pairs_of, is_key_of, all_keys}
use Rattle.cool_message.proofs.AskedPlaces.{one_more, one_bad, no_more}
use Rattle.cool_message.proofs.asked.combined_keys.Goals as goal

pub loop-x-preserved : goal.loop-x-preserved
loop-x-preserved c =
    let rests = Zip-more c.loop-x.x-iterator c.next.new.self c.next.result (c.in-Some.x, c.in-Some.y) c.in-Some.is c.next.ensures.steps in
    let both = one_more c.args.words.now c.args.parts c.in-Some.x.now c.in-Some.y.now _ _ _ _ c.loop-x.keys.items _ c.in-Some-key_of_part.key _ c.loop-x.invariant.keys c.loop-x.invariant.left rests.0 rests.1 c.words_at.ensures (sym c.key_of_part.ensures ∙ c.in-Some-key_of_part.is) in
    record {
      can_next = (tt, tt);
      is_finite = tt;
      keys = ap (list_all (is_key_of c.args.parts)) c.in_ok-push.ensures.items ∙ both.0;
      left = rw c.in_ok-push.ensures.items both.1;
    }

pub returns-in_default-clause-keys : goal.returns-in_default-clause-keys
returns-in_default-clause-keys c =
    let rests = Zip-more c.loop-x.x-iterator c.next.new.self c.next.result (c.in-Some.x, c.in-Some.y) c.in-Some.is c.next.ensures.steps in
    one_bad c.args.words.now c.args.parts c.in-Some.x.now c.in-Some.y.now _ _ _ _ c.loop-x.keys.items _ _ c.loop-x.invariant.keys c.loop-x.invariant.left rests.0 rests.1 c.words_at.ensures (sym c.key_of_part.ensures ∙ c.in_default.is)

pub returns-in_default-clause-none : goal.returns-in_default-clause-none
returns-in_default-clause-none c =
    let rests = Zip-more c.loop-x.x-iterator c.next.new.self c.next.result (c.in-Some.x, c.in-Some.y) c.in-Some.is c.next.ensures.steps in
    let none : None ≡ all_keys c.args.parts (pairs_of c.args.words.now) =
    one_bad c.args.words.now c.args.parts c.in-Some.x.now c.in-Some.y.now _ _ _ _ c.loop-x.keys.items _ _ c.loop-x.invariant.keys c.loop-x.invariant.left rests.0 rests.1 c.words_at.ensures (sym c.key_of_part.ensures ∙ c.in_default.is) in
    (λ _. sym none, λ _. refl)

pub returns-clause-keys : goal.returns-clause-keys
returns-clause-keys c =
    no_more c.args.words.now c.args.parts _ _ c.loop-x.keys.items _ c.loop-x.invariant.keys c.loop-x.invariant.left (either_empty_from_Zip c.loop-x.x-iterator c.next.new.self _ c.in-None.is c.next.ensures.steps)
