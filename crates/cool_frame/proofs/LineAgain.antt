-- The line of each frame is read as that frame.
use Rattle.std.proofs.Common.{◌≡◌, ℕ, ◌+◌, ◌<◌, ◌^◌, Bool, true, false, List, [], ◌++◌, codes, Option, Some, None, nat_le, refl, arith, lit<, append_assoc, append-nil, le-leb}
use Rattle.std.proofs.lemmas.Fmt.{decimal_digit}
use Rattle.std.specs.Fmt.{decimal}
use Rattle.std.specs.List.{list_all, position_or_len}
use Rattle.std.specs.Str.{bytes_eq}
use Rattle.cool_base.specs.Points.{Rectangle, Extent}
use Rattle.cool_base.specs.declared.ids.ViewId.{ViewId}
use Rattle.kit_trait.specs.declared.values.KitName.{KitName}
use Rattle.kit_trait.specs.declared.values.KitName.TheVariants.{Patch, Sheet}
use Rattle.tile_key.specs.Visible.{IsPart}
use Rattle.cool_frame.specs.declared.frame.Frame.TheVariants.{Status, Invalidate, SaveDone, Error}
use Rattle.cool_frame.specs.declared.kind.ErrorKind.{ErrorKind}
use Rattle.cool_frame.specs.declared.kind.ErrorKind.TheVariants.{BadMessage, NotLoaded, AlreadyLoaded, BadUrl, LoadFailed, DocsFull, BookFull, MailFull, DocGone, BadFile, ViewsFull, ReadOnly, InputsFull, SavesFull, BadTile, TooLarge, AskedFull, SaveFailed}
use Rattle.cool_frame.specs.Frames.{kit_text, kind_text, digit_of, word_of, frame_bytes, status_document, status_view, invalidate_place, invalidate_size, saved_bytes, error_head, error_code}
use Rattle.cool_frame.specs.Likely.{number_in, status_in, invalidation_in, saved_in, refusal_in, kind_of, code_in, is_coded, is_mark, kit_in, small, large, is_other}
use Rattle.cool_words.specs.Words.{is_letter, is_command}
use Rattle.cool_frame.specs.Reading.{IsCode}
use Rattle.cool_words.proofs.Letters.{command_letters}
use Rattle.cool_frame.proofs.Scans.{number_again, word_again}

-- a status, word for word
abbrev sized : Extent → ViewId → Bool → List ℕ
sized size view readonly =
    codes " width=" ++ (decimal size.w ++ (codes " height=" ++ (decimal size.h ++ (codes " viewid=" ++ (decimal view.0 ++ (codes " readonly=" ++ digit_of readonly))))))

abbrev status_text : KitName → ℕ → Extent → ViewId → Bool → List ℕ
status_text kit parts size view readonly =
    codes "status: type=" ++ (kit_text kit ++ (codes " parts=" ++ (decimal parts ++ (codes " current=0" ++ sized size view readonly))))

pub status_bytes : (kit : KitName) (parts : ℕ) (size : Extent) (view : ViewId) (readonly : Bool) → frame_bytes (Status kit parts size view readonly) ≡ status_text kit parts size view readonly
unfolding frame_bytes status_document status_view
status_bytes kit parts size view readonly = simp append_assoc

kit_again : (kit : KitName) (rest : List ℕ) → kit_in (codes "status: type=" ++ (kit_text kit ++ (codes " parts=" ++ rest))) ≡ kit
kit_again Patch rest = refl
kit_again Sheet rest = refl

readonly_again : (readonly : Bool) → bytes_eq (codes " readonly=" ++ digit_of readonly) (codes " readonly=1") ≡ readonly
readonly_again true = refl
readonly_again false = refl

parts_again : (kit : KitName) (parts : ℕ) (rest : List ℕ) → position_or_len is_other rest ≡ 0 → parts < 2 ^ 32 → number_in small (codes "status: type=" ++ (kit_text kit ++ (codes " parts=" ++ (decimal parts ++ rest)))) ≡ Some (parts, rest)
parts_again Patch parts rest stop fits = number_again small parts (codes "status: type=patch parts=") rest refl stop (omega arith) (omega arith)
parts_again Sheet parts rest stop fits = number_again small parts (codes "status: type=sheet parts=") rest refl stop (omega arith) (omega arith)

zero_again : (rest : List ℕ) → position_or_len is_other rest ≡ 0 → number_in small (codes " current=0" ++ rest) ≡ Some (0, rest)
zero_again rest stop =
    let e = number_again small 0 (codes " current=") rest refl stop (lit< tt) (omega arith) in
    rw (decimal_digit 0 (lit< tt)) at e

pub status_again : (kit : KitName) (parts : ℕ) (size : Extent) (view : ViewId) (readonly : Bool) → parts < 2 ^ 32 → IsPart size → view.0 < 2 ^ 32 → status_in (status_text kit parts size view readonly) ≡ Some (Status kit parts size view readonly)
unfolding status_in
status_again kit parts size view readonly few part low =
    let t5 : List ℕ = codes " readonly=" ++ digit_of readonly in
    let t4 : List ℕ = codes " viewid=" ++ (decimal view.0 ++ t5) in
    let t3 : List ℕ = codes " height=" ++ (decimal size.h ++ t4) in
    let t2 : List ℕ = codes " width=" ++ (decimal size.w ++ t3) in
    let wide : size.w < 2 ^ 31 = part.width in
    let high : size.h < 2 ^ 31 = part.height in
    let e1 = parts_again kit parts (codes " current=0" ++ t2) refl few in
    let e2 = zero_again t2 refl in
    let e3 = number_again 2147483647 size.w (codes " width=") t3 refl refl (omega arith) (omega arith) in
    let e4 = number_again 2147483647 size.h (codes " height=") t4 refl refl (omega arith) (omega arith) in
    let e5 = number_again small view.0 (codes " viewid=") t5 refl refl (omega arith) (omega arith) in
    rw (e1, e2, e3, e4, e5, kit_again kit (decimal parts ++ (codes " current=0" ++ t2)), readonly_again readonly) refl

-- an invalidation, word for word
abbrev invalidate_text : ℕ → Rectangle → List ℕ
invalidate_text part rect =
    codes "invalidatetiles: part=" ++ (decimal part ++ (codes " x=" ++ (decimal rect.x ++ (codes " y=" ++ (decimal rect.y
    ++ (codes " width=" ++ (decimal rect.w ++ (codes " height=" ++ (decimal rect.h ++ [])))))))))

pub invalidate_bytes : (part : ℕ) (rect : Rectangle) → frame_bytes (Invalidate part rect) ≡ invalidate_text part rect
unfolding frame_bytes invalidate_place invalidate_size
invalidate_bytes part rect = simp (append_assoc, append-nil)

pub invalidation_again : (part : ℕ) (rect : Rectangle) → part < 2 ^ 32 → rect.x + rect.w < 2 ^ 32 → rect.y + rect.h < 2 ^ 32 → invalidation_in (invalidate_text part rect) ≡ Some (Invalidate part rect)
unfolding invalidation_in
invalidation_again part rect few right lower =
    let t4 : List ℕ = codes " height=" ++ (decimal rect.h ++ []) in
    let t3 : List ℕ = codes " width=" ++ (decimal rect.w ++ t4) in
    let t2 : List ℕ = codes " y=" ++ (decimal rect.y ++ t3) in
    let t1 : List ℕ = codes " x=" ++ (decimal rect.x ++ t2) in
    let e1 = number_again small part (codes "invalidatetiles: part=") t1 refl refl (omega arith) (omega arith) in
    let e2 = number_again small rect.x (codes " x=") t2 refl refl (omega arith) (omega arith) in
    let e3 = number_again small rect.y (codes " y=") t3 refl refl (omega arith) (omega arith) in
    let e4 = number_again small rect.w (codes " width=") t4 refl refl (omega arith) (omega arith) in
    let e5 = number_again small rect.h (codes " height=") [] refl refl (omega arith) (omega arith) in
    let a : nat_le (rect.x + rect.w) small ≡ true = le-leb (rect.x + rect.w) small (omega arith) in
    let b : nat_le (rect.y + rect.h) small ≡ true = le-leb (rect.y + rect.h) small (omega arith) in
    rw (e1, e2, e3, e4, e5, a, b) refl

-- the answer to a save, word for word
abbrev saved_text : ℕ → Bool → List ℕ
saved_text inputs put =
    codes "unocommandresult: {\"commandName\":\".uno:Save\",\"success\":true,\"inputs\":" ++ (decimal inputs ++ (codes ",\"put\":" ++ (word_of put ++ codes "}")))

pub saved_bytes_are : (inputs : ℕ) (put : Bool) → frame_bytes (SaveDone inputs put) ≡ saved_text inputs put
unfolding frame_bytes saved_bytes
saved_bytes_are inputs put = refl

put_again : (put : Bool) → bytes_eq (codes ",\"put\":" ++ (word_of put ++ codes "}")) (codes ",\"put\":true}") ≡ put
put_again true = refl
put_again false = refl

pub saved_again : (inputs : ℕ) (put : Bool) → inputs < 2 ^ 64 → saved_in (saved_text inputs put) ≡ Some (SaveDone inputs put)
unfolding saved_in
saved_again inputs put fits =
    let e1 = number_again large inputs (codes "unocommandresult: {\"commandName\":\".uno:Save\",\"success\":true,\"inputs\":") (codes ",\"put\":" ++ (word_of put ++ codes "}")) refl refl fits (omega arith) in
    rw (e1, put_again put) refl

-- a refusal, word for word
abbrev error_text : List ℕ → ErrorKind → Option ℕ → List ℕ
error_text cmd kind code = codes "error: cmd=" ++ (cmd ++ (codes " kind=" ++ (kind_text kind ++ error_code code)))

pub error_bytes : (cmd : List ℕ) (kind : ErrorKind) (code : Option ℕ) → frame_bytes (Error cmd kind code) ≡ error_text cmd kind code
unfolding frame_bytes error_head
error_bytes cmd kind code = simp append_assoc

kind_again : (kind : ErrorKind) → kind_of (kind_text kind) ≡ Some kind
unfolding kind_of
kind_again BadMessage = refl
kind_again NotLoaded = refl
kind_again AlreadyLoaded = refl
kind_again BadUrl = refl
kind_again LoadFailed = refl
kind_again DocsFull = refl
kind_again BookFull = refl
kind_again MailFull = refl
kind_again DocGone = refl
kind_again BadFile = refl
kind_again ViewsFull = refl
kind_again ReadOnly = refl
kind_again InputsFull = refl
kind_again SavesFull = refl
kind_again BadTile = refl
kind_again TooLarge = refl
kind_again AskedFull = refl
kind_again SaveFailed = refl

kind_letters : (kind : ErrorKind) → list_all is_letter (kind_text kind) ≡ true
kind_letters BadMessage = refl
kind_letters NotLoaded = refl
kind_letters AlreadyLoaded = refl
kind_letters BadUrl = refl
kind_letters LoadFailed = refl
kind_letters DocsFull = refl
kind_letters BookFull = refl
kind_letters MailFull = refl
kind_letters DocGone = refl
kind_letters BadFile = refl
kind_letters ViewsFull = refl
kind_letters ReadOnly = refl
kind_letters InputsFull = refl
kind_letters SavesFull = refl
kind_letters BadTile = refl
kind_letters TooLarge = refl
kind_letters AskedFull = refl
kind_letters SaveFailed = refl

no_code : code_in [] ≡ None
unfolding number_in
no_code = refl

code_is : (code : ℕ) → number_in 65535 (codes " code=" ++ decimal code) ≡ Some (code, []) → code_in (codes " code=" ++ decimal code) ≡ Some code
code_is code e = rw e refl

code_again : (kind : ErrorKind) (code : Option ℕ) → IsCode kind code → code_in (error_code code) ≡ code
unfolding error_code
code_again kind None is = no_code
code_again kind (Some code) is =
    let e = number_again 65535 code (codes " code=") [] refl refl (omega (arith, is.1)) (omega (arith, is.1)) in
    code_is code (rw (append-nil (decimal code)) at e)

code_marks : (code : Option ℕ) → position_or_len is_mark (error_code code) ≡ 0
unfolding error_code
code_marks None = refl
code_marks (Some code) = refl

coded : (kind : ErrorKind) (code : Option ℕ) → IsCode kind code → is_coded kind code ≡ true
coded kind None is = rw is refl
coded kind (Some code) is = is.0

pub refusal_again : (cmd : List ℕ) (kind : ErrorKind) (code : Option ℕ) → is_command cmd ≡ true → IsCode kind code → refusal_in (error_text cmd kind code) ≡ Some (Error cmd kind code)
unfolding refusal_in
refusal_again cmd kind code is coded_is =
    let w1 = word_again (codes "error: cmd") cmd (codes " kind=" ++ (kind_text kind ++ error_code code)) refl (command_letters cmd is) refl in
    let w2 = word_again (codes " kind") (kind_text kind) (error_code code) refl (kind_letters kind) (code_marks code) in
    rw (w1.0, w1.1, w2.0, w2.1, kind_again kind, code_again kind code coded_is, is, coded kind code coded_is) refl
