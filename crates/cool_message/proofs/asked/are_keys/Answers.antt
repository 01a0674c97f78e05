use Rattle.std.proofs.Common.{◌≡◌, ◌∙◌, sym, rules, tests, zip}
use Rattle.std.specs.List.{list_all}
use Rattle.std.proofs.lemmas.Iterator.{YieldsList-from_slice, YieldsList-from_zip}
use Rattle.std.proofs.lemmas.Iterator.Search.{all_from_yields_List}
use Rattle.std.proofs.lemmas.List.Folds.{list_all-map}
use Rattle.cool_message.specs.Asked.{place_at, is_key_of}
use Rattle.cool_message.proofs.asked.are_keys.Goals as goal

pub returns : goal.returns
returns c =
    let all : c.all.result ≡ list_all (λ at. is_key_of c.args.parts (place_at c.args.words.now at)) (zip c.args.words.now.tileposx c.args.words.now.tileposy) =
    all_from_yields_List (λ at. is_key_of c.args.parts (place_at c.args.words.now at)) c.all.new.self _ _ c.all.ensures.ran
    (YieldsList-from_zip (YieldsList-from_slice c.args.words.now.tileposx cc) (YieldsList-from_slice c.args.words.now.tileposy cc)) (λ x b q k. search (rules, tests)) in
    all ∙ sym (list_all-map (is_key_of c.args.parts) (place_at c.args.words.now) (zip c.args.words.now.tileposx c.args.words.now.tileposy))
