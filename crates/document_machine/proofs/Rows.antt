-- Small cases, computed on the definitions: groups, saves, the final save, what is kept.
use Rattle.std.proofs.Common.{◌≡◌, ℕ, true, false, [], ◌∷◌, None, Some, refl}
use Rattle.std.specs.Prelude.{nat_lt, codes, map, option_map, Ok, Err}
use Rattle.cool_frame.specs.declared.frame.Frame.TheVariants.{Error, SaveDone}
use Rattle.cool_frame.specs.declared.kind.ErrorKind.TheVariants.{ReadOnly, SaveFailed}
use Rattle.cool_message.specs.declared.message.ClientMessage.{ClientMessage}
use Rattle.cool_message.specs.declared.message.ClientMessage.TheVariants.{Key, Save, UnoSave}
use Rattle.cool_message.specs.declared.message.KeyKind.TheVariants.{Input as Down}
use Rattle.kit_trait.specs.Patch.{patch_rules}
use Rattle.outside.specs.declared.errands.Errand.{Errand}
use Rattle.outside.specs.declared.errands.Receipt.{Receipt}
use Rattle.outside.specs.declared.faults.StoreFault.TheVariants.{Denied}
use Rattle.save_core.specs.Saving.{Saving, answered, answers, errand_for, is_ready, served, unmodified}
use Rattle.tile_key.specs.Places.{Place, Scale, tile_at}
use Rattle.tile_key.specs.Visible.{visible_keys, rows_of, row_of}
use Rattle.document_machine.specs.Done.{is_done, is_lost}
use Rattle.document_machine.specs.Held.{KeptTile, kept_version, with_kept, with_painted}
use Rattle.document_machine.specs.Message.{heard, limits_of, message_effect, refuses}
use Rattle.document_machine.specs.Next.{Serve, Apply, Send, Cut, none_kept, pick}
use Rattle.document_machine.specs.Outputs.{named}
use Rattle.document_machine.specs.Rank.{left_to_do}
use Rattle.document_machine.specs.Step.{views_offered}
use Rattle.document_machine.specs.Saves.{ending_frames, saving_left, unmodified_frames}
use Rattle.document_machine.specs.State.{View, Job, Document, opening, opening_view}

-- a view that may write, and one that sees three tiles of 8 by 8 pixels side by side
writer : View
writer = opening_view 0 (record { can_write = true; token = 7 ∷ [] })

small : Scale
small = record { pixel_w = 8; pixel_h = 8; twip_w = 240; twip_h = 240; nviewid = 0 }

looker : View
looker = record writer { zoom = small; area = record { x = 0; y = 0; w = 720; h = 240 } }

tile_of : ℕ → Place
tile_of x = tile_at 0 small x 0

-- a tile that is kept as the document was loaded
kept_at : ℕ → KeptTile
kept_at x = record { key = tile_of x; version = 0 }

-- a document that one view has joined
one_view : View → Document ℕ
one_view view = record (opening (codes "d") []) { views = view ∷ []; next_view = 1 }

-- a job out of one key
out : ℕ → Job ℕ
out x = record { ticket = 1; number = 0; keys = tile_of x ∷ []; area = tile_of x; scene = 0 }

-- three tiles side by side are cut as one job
cuts_three : pick patch_rules none_kept (one_view looker) ≡ Cut 0 (tile_of 0 ∷ tile_of 240 ∷ tile_of 480 ∷ [])
unfolding one_view looker writer small tile_of visible_keys rows_of row_of
cuts_three = refl

-- a group ends before a key that is out, and begins behind it
cuts_one : pick patch_rules none_kept (record (one_view looker) { jobs = out 240 ∷ [] }) ≡ Cut 0 (tile_of 0 ∷ [])
unfolding one_view looker writer small tile_of out visible_keys rows_of row_of
cuts_one = refl

cuts_behind : pick patch_rules none_kept (record (one_view looker) { jobs = out 0 ∷ [] })
    ≡ Cut 0 (tile_of 240 ∷ tile_of 480 ∷ [])
unfolding one_view looker writer small tile_of out visible_keys rows_of row_of
cuts_behind = refl

-- what is kept is sent, and a group ends before it
sends_first : pick patch_rules (kept_version (kept_at 0 ∷ [])) (one_view looker) ≡ Send 0 (tile_of 0) 0
unfolding one_view looker writer small tile_of visible_keys rows_of row_of kept_at
sends_first = refl

cuts_before : pick patch_rules (kept_version (kept_at 480 ∷ [])) (one_view looker)
    ≡ Cut 0 (tile_of 0 ∷ tile_of 240 ∷ [])
unfolding one_view looker writer small tile_of visible_keys rows_of row_of kept_at
cuts_before = refl

-- a kept tile that is used is the first, and a painted one takes the place of its key's older one
used_first : map (λ (tile : KeptTile). tile.key) (with_kept (kept_at 0 ∷ kept_at 240 ∷ []) (tile_of 240) 0)
    ≡ tile_of 240 ∷ tile_of 0 ∷ []
unfolding small tile_of kept_at
used_first = refl

keeps_two : with_painted patch_rules (one_view looker) 0 (tile_of 0 ∷ tile_of 240 ∷ []) (kept_at 240 ∷ [])
    ≡ kept_at 240 ∷ kept_at 0 ∷ []
unfolding one_view looker writer small tile_of kept_at
keeps_two = refl

-- the store took the content
receipt : Receipt
receipt = record { file = []; content = [] }

-- the document once its view said a message
said : ClientMessage → Document ℕ → Document ℕ
said message d = heard d 0 (message_effect (limits_of patch_rules d) writer message)

letter : ℕ → ClientMessage
letter chr = Key Down chr 0

-- a letter, a save, a letter
typed : Document ℕ
typed = said (letter 66) (said (Save true false) (said (letter 65) (one_view writer)))

-- the save waits for the first letter to be applied, and goes before the second one
first_letter_first : pick patch_rules none_kept typed ≡ Apply
unfolding typed said letter one_view writer
first_letter_first = refl

then_the_save : pick patch_rules none_kept (record typed { applied = 1 }) ≡ Serve
unfolding typed said letter one_view writer
then_the_save = refl

-- its put is of the document after one input, with the view's token
put_of_one : option_map (λ (errand : Errand). errand.number) (errand_for 1 [] [] typed.saving) ≡ Some 1
unfolding typed said letter one_view writer
put_of_one = refl

its_token : option_map (λ (errand : Errand). errand.token) (errand_for 1 [] [] typed.saving) ≡ Some (7 ∷ [])
unfolding typed said letter one_view writer
its_token = refl

-- while the put is under way no other begins
no_second_put : is_ready 2 (served 1 [] [] typed.saving) ≡ false
unfolding typed said letter one_view writer
no_second_put = refl

-- the receipt's number is stored, and the view is told; a fault is told with its code; a receipt of another
-- content changes nothing
stores_one : (answered 1 (Some receipt) (served 1 [] [] typed.saving)).stored ≡ 0 ∷ 1 ∷ []
unfolding typed said letter one_view writer receipt
stores_one = refl

tells_stored : ending_frames (writer ∷ []) (Ok receipt)
    (answers 1 (Some receipt) (served 1 [] [] typed.saving))
    ≡ (named 0, SaveDone 1 true) ∷ []
unfolding typed said letter one_view writer receipt
tells_stored = refl

tells_fault : ending_frames (writer ∷ []) (Err Denied) (answers 1 None (served 1 [] [] typed.saving))
    ≡ (named 0, Error (codes "storage") SaveFailed (Some 401)) ∷ []
unfolding typed said letter one_view writer
tells_fault = refl

tells_nobody : ending_frames [] (Err Denied) (answers 1 None (served 1 [] [] typed.saving)) ≡ []
unfolding typed said letter one_view writer
tells_nobody = refl

other_content : answers 1 (Some (record { file = []; content = 0 ∷ [] })) (served 1 [] [] typed.saving) ≡ []
unfolding typed said letter one_view writer
other_content = refl

-- a save that needs no put where nothing is new is answered without one
unmodified_save : Document ℕ
unmodified_save = said (Save true true) (one_view writer)

answers_unmodified : unmodified_frames unmodified_save.views 0 (unmodified 0 unmodified_save.saving)
    ≡ (named 0, SaveDone 0 false) ∷ []
unfolding unmodified_save said one_view writer
answers_unmodified = refl

puts_nothing : errand_for 0 [] [] unmodified_save.saving ≡ None
unfolding unmodified_save said one_view writer
puts_nothing = refl

-- a view that may not write saves nothing
reader : View
reader = opening_view 0 (record { can_write = false; token = [] })

refuses_reader : message_effect (limits_of patch_rules (one_view reader)) reader UnoSave
    ≡ refuses reader (codes "uno") ReadOnly
unfolding one_view reader
refuses_reader = refl

-- the last view leaves behind an input that isn't stored: a final save waits for it, with its token
edited : Document ℕ
edited = record (said (letter 65) (one_view writer)) { applied = 1 }

final_save : (saving_left edited 0).saves
    ≡ record { view = None; mark = 1; skip = false; token = 7 ∷ []; bound = false } ∷ []
unfolding edited said letter one_view writer
final_save = refl

-- where nothing was typed none waits, and where another view stays
no_final_save : (saving_left (one_view writer) 0).saves ≡ []
unfolding one_view writer
no_final_save = refl

stays_one : (saving_left (record edited { views = writer ∷ record writer { id = 1 } ∷ [] }) 0).saves ≡ []
unfolding edited said letter one_view writer
stays_one = refl

-- where its put fails the document is done, and lost
left_alone : Saving → Document ℕ
left_alone saving = record edited { views = []; saving = saving }

not_done_yet : is_done (left_alone (saving_left edited 0)) ≡ false
unfolding left_alone edited said letter one_view writer
not_done_yet = refl

lost_then : is_lost (left_alone (answered 1 None (served 1 [] [] (saving_left edited 0)))) ≡ true
unfolding left_alone edited said letter one_view writer
lost_then = refl

stored_then : is_lost (left_alone (answered 1 (Some receipt) (served 1 [] [] (saving_left edited 0))))
    ≡ false
unfolding left_alone edited said letter one_view writer receipt
stored_then = refl

-- a document once a job was cut for its three tiles, and once that was painted
cut_one : Document ℕ
cut_one = record (one_view looker) { jobs = record (out 0) { keys = tile_of 0 ∷ tile_of 240 ∷ tile_of 480 ∷ [] } ∷ [] }

painted_one : Document ℕ
painted_one = record (one_view looker) {
  views = views_offered patch_rules (one_view looker) 0 (tile_of 0 ∷ tile_of 240 ∷ tile_of 480 ∷ []) (looker ∷ []);
}

-- the cut leaves less to do, and so do the result, and the result where no view takes it
cut_falls : nat_lt (left_to_do patch_rules cut_one) (left_to_do patch_rules (one_view looker)) ≡ true
unfolding cut_one one_view looker writer small tile_of out visible_keys rows_of row_of
cut_falls = refl

painted_falls : nat_lt (left_to_do patch_rules painted_one) (left_to_do patch_rules cut_one) ≡ true
unfolding painted_one cut_one one_view looker writer small tile_of out visible_keys rows_of row_of
painted_falls = refl

not_due : Document ℕ
not_due = one_view writer

wasted_falls : nat_lt (left_to_do patch_rules not_due) (left_to_do patch_rules (record not_due { jobs = out 0 ∷ [] })) ≡ true
unfolding not_due one_view writer small tile_of out visible_keys rows_of row_of
wasted_falls = refl

-- a put that begins leaves less to do, and so does its answer
put_begins : Document ℕ
put_begins = record typed { applied = 1; saving = served 1 [] [] typed.saving }

put_ends : Document ℕ
put_ends = record typed { applied = 1; saving = answered 1 None (served 1 [] [] typed.saving) }

begin_falls : nat_lt (left_to_do patch_rules put_begins) (left_to_do patch_rules (record typed { applied = 1 })) ≡ true
unfolding put_begins typed said letter one_view writer visible_keys rows_of row_of
begin_falls = refl

end_falls : nat_lt (left_to_do patch_rules put_ends) (left_to_do patch_rules put_begins) ≡ true
unfolding put_ends put_begins typed said letter one_view writer visible_keys rows_of row_of
end_falls = refl
