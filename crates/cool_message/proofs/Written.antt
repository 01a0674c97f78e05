-- The text of a message in pieces.
use Rattle.std.proofs.Common.{◌≡◌, ℕ, List, [], ◌∷◌, ◌++◌, append_assoc, refl, ap, ◌∙◌}
use Rattle.std.specs.List.{flat_map}
use Rattle.std.specs.Fmt.{decimal}
use Rattle.cool_words.specs.Lists.{list_text}
use Rattle.cool_message.specs.declared.fault.Word.{Word}
use Rattle.cool_message.specs.declared.fault.Word.TheVariants as word
use Rattle.cool_message.specs.declared.message.ClientMessage.TheVariants as message
use Rattle.cool_message.specs.declared.message.CombineWords.{CombineWords}
use Rattle.cool_message.specs.declared.table.Command.TheVariants as command
use Rattle.cool_message.specs.Names.{name_of, command_text}
use Rattle.cool_message.specs.Writing.{written, word_text, number_word}

-- what stands behind a word stands behind its value
pub word_onto : (name : Word) (value rest : List ℕ) → word_text name value ++ rest ≡ word_text name (value ++ rest)
word_onto name value rest = ap (λ bs. 32 ∷ bs) (append_assoc (name_of name) (61 ∷ value) rest)

numbers_before : List (Word × ℕ) → List ℕ → List ℕ
numbers_before [] rest = rest
numbers_before (pair ∷ pairs) rest = word_text pair.0 (decimal pair.1 ++ numbers_before pairs rest)

numbers_onto : (pairs : List (Word × ℕ)) (rest : List ℕ) → flat_map number_word pairs ++ rest ≡ numbers_before pairs rest
unfolding numbers_before
numbers_onto [] rest = refl
numbers_onto (pair ∷ pairs) rest =
    append_assoc (number_word pair) (flat_map number_word pairs) rest
    ∙ ap (λ bs. number_word pair ++ bs) (numbers_onto pairs rest)
    ∙ word_onto pair.0 (decimal pair.1) (numbers_before pairs rest)

regroup : (a b c d e : List ℕ) → (((a ++ b) ++ c) ++ d) ++ e ≡ a ++ (b ++ (c ++ (d ++ e)))
regroup a b c d e = simp append_assoc

pub combined : (t : CombineWords) (start shape across down all : List ℕ) → start ≡ command_text command.TileCombine
    → shape ≡ start ++ flat_map number_word ((word.Part, t.part) ∷ (word.Width, t.width) ∷ (word.Height, t.height) ∷ [])
    → across ≡ shape ++ word_text word.TilePosX (list_text t.tileposx)
    → down ≡ across ++ word_text word.TilePosY (list_text t.tileposy)
    → all ≡ down ++ flat_map number_word ((word.TileWidth, t.tilewidth) ∷ (word.TileHeight, t.tileheight) ∷ (word.NViewId, t.nviewid) ∷ [])
    → all ≡ written (message.TileCombine t)
unfolding numbers_before
combined t start shape across down all a b c d e =
    let front : List (Word × ℕ) = (word.Part, t.part) ∷ (word.Width, t.width) ∷ (word.Height, t.height) ∷ [] in
    let size : List ℕ = flat_map number_word ((word.TileWidth, t.tilewidth) ∷ (word.TileHeight, t.tileheight) ∷ (word.NViewId, t.nviewid) ∷ []) in
    let xs : List ℕ = list_text t.tileposx in
    let ys : List ℕ = list_text t.tileposy in
    rw (e, d, c, b, a)
    (regroup (command_text command.TileCombine) (flat_map number_word front) (word_text word.TilePosX xs) (word_text word.TilePosY ys) size
    ∙ ap (λ bs. command_text command.TileCombine ++ bs) (numbers_onto front (word_text word.TilePosX xs ++ (word_text word.TilePosY ys ++ size))
    ∙ ap (numbers_before front) (word_onto word.TilePosX xs (word_text word.TilePosY ys ++ size)
    ∙ ap (λ bs. word_text word.TilePosX (xs ++ bs)) (word_onto word.TilePosY ys size))))
