-- What the client writes are words.
use Rattle.std.proofs.Common.{ℕ, ◌≡◌, ◌≤◌, ◌<◌, true, ◌&&◌, nat_lt, nat_le, List, [], ◌++◌, length, codes, refl, ◌∙◌, arith}
use Rattle.std.specs.List.{list_all}
use Rattle.std.specs.Char.{is_ascii_graphic}
use Rattle.std.proofs.lemmas.Bool.{and_parts}
use Rattle.std.proofs.lemmas.Bool.Decides.{nat_tests}
use Rattle.std.proofs.lemmas.List.{length-append}
use Rattle.std.proofs.lemmas.List.Folds.{list_all-append}
use Rattle.cool_base.specs.Words.{is_file_character, is_token_byte, is_file_id, is_token}
use Rattle.http_write.specs.Again.{IsReadableRequest, is_word, is_clean}
use Rattle.http_write.proofs.Again.{wider, word_is_clean}
use Rattle.wire_body.specs.declared.states.TheConstants.{BODY_LIMIT}
use Rattle.wopi_client.specs.declared.asks.Ask.{Ask}
use Rattle.wopi_client.specs.declared.asks.Ask.TheVariants as Asks
use Rattle.wopi_client.specs.Asks.{file_target, contents_target, lock_id, getting, posting, request_for}
use Rattle.wopi_limits.specs.Sound.{IsNamed, IsSound}

character_graphic : (c : ℕ) → is_file_character c ≡ true → is_ascii_graphic c ≡ true
character_graphic c is = grind (arith, nat_tests)

token_graphic : (c : ℕ) → is_token_byte c ≡ true → is_ascii_graphic c ≡ true
token_graphic c is = grind (arith, nat_tests)

file_graphic : (file : List ℕ) → is_file_id file ≡ true → list_all is_ascii_graphic file ≡ true
file_graphic file is = wider is_file_character is_ascii_graphic character_graphic file (and_parts (nat_le 1 (length file) && nat_le (length file) 64) (list_all is_file_character file) is).1

word_graphic : (token : List ℕ) → is_token token ≡ true → list_all is_ascii_graphic token ≡ true
word_graphic token is = wider is_token_byte is_ascii_graphic token_graphic token (and_parts (nat_le 1 (length token) && nat_le (length token) 2048) (list_all is_token_byte token) is).1

both : (xs ys : List ℕ) → list_all is_ascii_graphic xs ≡ true → list_all is_ascii_graphic ys ≡ true → list_all is_ascii_graphic (xs ++ ys) ≡ true
both xs ys a b = list_all-append is_ascii_graphic xs ys ∙ rw (a, b) refl

word : (text : List ℕ) → 0 < length text → list_all is_ascii_graphic text ≡ true → is_word text ≡ true
word text some all =
    let is : nat_lt 0 (length text) ≡ true = grind (arith, nat_tests) in
    rw (is, all) refl

-- bytes are there where the first of four parts has some
four_some : (a b c d : List ℕ) → 0 < length a → 0 < length (a ++ b ++ c ++ d)
four_some a b c d some = omega (arith, length-append (a ++ b ++ c) d, length-append (a ++ b) c, length-append a b, some)

four_word : (a b c d : List ℕ) → 0 < length a → list_all is_ascii_graphic a ≡ true → list_all is_ascii_graphic b ≡ true → list_all is_ascii_graphic c ≡ true → list_all is_ascii_graphic d ≡ true
    → is_word (a ++ b ++ c ++ d) ≡ true
four_word a b c d some p q r s = word (a ++ b ++ c ++ d) (four_some a b c d some) (both (a ++ b ++ c) d (both (a ++ b) c (both a b p q) r) s)

file_word : (file token : List ℕ) → IsNamed file token → is_word (file_target file token) ≡ true
unfolding file_target
file_word file token is = four_word (codes "/wopi/files/") file (codes "?access_token=") token (omega arith) refl (file_graphic file is.0) refl (word_graphic token is.1)

contents_word : (file token : List ℕ) → IsNamed file token → is_word (contents_target file token) ≡ true
unfolding contents_target
contents_word file token is = four_word (codes "/wopi/files/") file (codes "/contents?access_token=") token (omega arith) refl (file_graphic file is.0) refl (word_graphic token is.1)

lock_clean : (file token : List ℕ) → IsNamed file token → is_clean (lock_id file) ≡ true
unfolding lock_id
lock_clean file token is =
    let some : 0 < length (codes "cool-" ++ file) = omega (arith, length-append (codes "cool-") file) in
    word_is_clean (codes "cool-" ++ file) (word (codes "cool-" ++ file) some (both (codes "cool-") file refl (file_graphic file is.0)))

get_readable : (host target : List ℕ) → is_word host ≡ true → is_word target ≡ true → IsReadableRequest host (getting target)
get_readable host target named is = record { asked = refl; to_host = named; target = is; lock = refl; over = refl; body = omega arith }

post_readable : (host target file over body : List ℕ) → is_word host ≡ true → is_word target ≡ true → is_clean (lock_id file) ≡ true → is_clean over ≡ true → length body ≤ BODY_LIMIT
    → IsReadableRequest host (posting target file over body)
post_readable host target file over body named is lock clean fits = record { asked = tt; to_host = named; target = is; lock = lock; over = clean; body = fits }

pub readable : (host : List ℕ) (ask : Ask) → is_word host ≡ true → IsSound ask → IsReadableRequest host (request_for ask)
readable host (Asks.Check file token) named is = get_readable host (file_target file token) named (file_word file token is)
readable host (Asks.Get file token) named is = get_readable host (contents_target file token) named (contents_word file token is)
readable host (Asks.Lock file token) named is = post_readable host (file_target file token) file (codes "LOCK") [] named (file_word file token is) (lock_clean file token is) refl (omega arith)
readable host (Asks.Refresh file token) named is = post_readable host (file_target file token) file (codes "REFRESH_LOCK") [] named (file_word file token is) (lock_clean file token is) refl (omega arith)
readable host (Asks.Unlock file token) named is = post_readable host (file_target file token) file (codes "UNLOCK") [] named (file_word file token is) (lock_clean file token is) refl (omega arith)
readable host (Asks.Put file token content) named is = post_readable host (contents_target file token) file (codes "PUT") content named (contents_word file token is.0) (lock_clean file token is.0) refl is.1
