-- How many bytes the head of a request has.
use Rattle.std.proofs.Common.{ℕ, ◌≡◌, ◌+◌, ◌≤◌, true, ◌&&◌, nat_le, List, [], ◌∷◌, ◌++◌, length, codes, decimal, refl, sym, ap, ◌∙◌, arith}
use Rattle.std.specs.List.{list_all}
use Rattle.std.proofs.lemmas.Bool.{and_parts}
use Rattle.std.proofs.lemmas.Bool.Decides.{nat_tests}
use Rattle.std.proofs.lemmas.List.{length-append}
use Rattle.std.proofs.lemmas.Fmt.{length-decimal-le}
use Rattle.httparse.specs.Ascii.{crlf_bytes}
use Rattle.http1.specs.Fields.{Header}
use Rattle.http1.specs.Head.{print_header, print_headers, request_text}
use Rattle.http1.proofs.HeadLemmas.{request_text_is, length-section_text}
use Rattle.cool_base.specs.Words.{is_file_character, is_token_byte, is_file_id, is_token}
use Rattle.http_head.specs.declared.TheConstants.{HEAD_LIMIT}
use Rattle.http_write.specs.Texts.{request_head}
use Rattle.wire_body.specs.declared.states.TheConstants.{BODY_LIMIT}
use Rattle.wopi_client.specs.declared.asks.Ask.{Ask}
use Rattle.wopi_client.specs.declared.asks.Ask.TheVariants as Asks
use Rattle.wopi_client.specs.Asks.{file_target, contents_target, lock_id, getting, request_for}
use Rattle.wopi_limits.specs.Sound.{IsNamed, IsSound}

-- a line has four bytes more than its name and its value
line_length : (name value : List ℕ) → length (print_header (name, value)) ≡ length name + length value + 4
line_length name value =
    let raw : List ℕ = 58 ∷ 32 ∷ value in
    let one : length (print_header (name, value)) ≡ length (name ++ raw) + length crlf_bytes = length-append (name ++ raw) crlf_bytes in
    let two : length (name ++ raw) ≡ length name + length raw = length-append name raw in
    let three : length crlf_bytes ≡ 2 = refl in
    omega (arith, one, two, three)

-- lines of at most so many bytes
record Few (hs : List Header) (most : ℕ) : Type 0 where
  few : length (print_headers hs) ≤ most

none_few : Few [] 0
none_few = record { few = omega arith }

line_few : {hs : List Header} {s : ℕ} (name value : List ℕ) (n v : ℕ) → length name ≤ n → length value ≤ v → Few hs s → Few ((name, value) ∷ hs) (n + v + 4 + s)
line_few {hs} {s} name value n v a b rest =
    let one : length (print_headers ((name, value) ∷ hs)) ≡ length (print_header (name, value)) + length (print_headers hs) = length-append (print_header (name, value)) (print_headers hs) in
    let few : length (print_headers ((name, value) ∷ hs)) ≤ n + v + 4 + s = omega (arith, one, line_length name value, a, b, rest.few) in
    record { few = few }

head_small : {hs : List Header} {s : ℕ} (method target : List ℕ) (m t : ℕ) → length method ≤ m → length target ≤ t → Few hs s → m + t + 14 + s ≤ HEAD_LIMIT → length (request_text method target 1 hs) ≤ HEAD_LIMIT
head_small {hs} {s} method target m t a b lines within =
    let tail : List ℕ = codes " HTTP/1." ++ ((48 + 1) ∷ 13 ∷ 10 ∷ []) in
    let line : List ℕ = method ++ (32 ∷ (target ++ tail)) in
    let text : length (request_text method target 1 hs) ≡ 2 + length line + length (print_headers []) + length (print_headers hs)
    = ap length (sym (request_text_is method target 1 hs)) ∙ length-section_text line [] hs in
    let one : length line ≡ length method + length (32 ∷ (target ++ tail)) = length-append method (32 ∷ (target ++ tail)) in
    let two : length (target ++ tail) ≡ length target + length tail = length-append target tail in
    let three : length tail ≡ 11 = refl in
    let four : length (print_headers []) ≡ 0 = refl in
    omega (arith, text, one, two, three, four, a, b, lines.few, within)

get_small : (host target : List ℕ) → length host ≤ 8192 → length target ≤ 2200 → length (request_head host (getting target)) ≤ HEAD_LIMIT
get_small host target a b =
    head_small (codes "GET") target 3 2200 (omega arith) b
    (line_few (codes "Host") host 4 8192 (omega arith) a
    (line_few (codes "Connection") (codes "close") 10 5 (omega arith) (omega arith) none_few))
    (omega arith)

post_small : (host target lock over body : List ℕ) → length host ≤ 8192 → length target ≤ 2200 → length lock ≤ 70 → length over ≤ 12 → length body ≤ BODY_LIMIT
    → length (request_text (codes "POST") target 1 ((codes "Host", host) ∷ (codes "Connection", codes "close") ∷ (codes "Content-Length", decimal (length body)) ∷ (codes "X-WOPI-Lock", lock) ∷ (codes "X-WOPI-Override", over) ∷ [])) ≤ HEAD_LIMIT
post_small host target lock over body a b c d e =
    let digits : length (decimal (length body)) ≤ 8 = length-decimal-le 8 (length body) (omega arith) (omega (arith, e)) (omega (arith, e)) in
    head_small (codes "POST") target 4 2200 (omega arith) b
    (line_few (codes "Host") host 4 8192 (omega arith) a
    (line_few (codes "Connection") (codes "close") 10 5 (omega arith) (omega arith)
    (line_few (codes "Content-Length") (decimal (length body)) 14 8 (omega arith) digits
    (line_few (codes "X-WOPI-Lock") lock 11 70 (omega arith) c
    (line_few (codes "X-WOPI-Override") over 15 12 (omega arith) d none_few)))))
    (omega arith)

up_to : (a b : ℕ) → nat_le a b ≡ true → a ≤ b
up_to a b is = grind (arith, nat_tests)

file_few : (file : List ℕ) → is_file_id file ≡ true → length file ≤ 64
file_few file is = up_to (length file) 64 (and_parts (nat_le 1 (length file)) (nat_le (length file) 64) (and_parts (nat_le 1 (length file) && nat_le (length file) 64) (list_all is_file_character file) is).0).1

token_few : (token : List ℕ) → is_token token ≡ true → length token ≤ 2048
token_few token is = up_to (length token) 2048 (and_parts (nat_le 1 (length token)) (nat_le (length token) 2048) (and_parts (nat_le 1 (length token) && nat_le (length token) 2048) (list_all is_token_byte token) is).0).1

four_parts : (a b c d : List ℕ) → length (a ++ b ++ c ++ d) ≡ length a + length b + length c + length d
four_parts a b c d = omega (arith, length-append (a ++ b ++ c) d, length-append (a ++ b) c, length-append a b)

file_small : (file token : List ℕ) → IsNamed file token → length (file_target file token) ≤ 2200
unfolding file_target
file_small file token is =
    let one : length (codes "/wopi/files/") ≡ 12 = refl in
    let two : length (codes "?access_token=") ≡ 14 = refl in
    omega (arith, one, two, four_parts (codes "/wopi/files/") file (codes "?access_token=") token, file_few file is.0, token_few token is.1)

contents_small : (file token : List ℕ) → IsNamed file token → length (contents_target file token) ≤ 2200
unfolding contents_target
contents_small file token is =
    let one : length (codes "/wopi/files/") ≡ 12 = refl in
    let two : length (codes "/contents?access_token=") ≡ 23 = refl in
    omega (arith, one, two, four_parts (codes "/wopi/files/") file (codes "/contents?access_token=") token, file_few file is.0, token_few token is.1)

lock_small : (file token : List ℕ) → IsNamed file token → length (lock_id file) ≤ 70
unfolding lock_id
lock_small file token is =
    let one : length (codes "cool-") ≡ 5 = refl in
    omega (arith, one, length-append (codes "cool-") file, file_few file is.0)

pub small : (host : List ℕ) (ask : Ask) → length host ≤ 8192 → IsSound ask → length (request_head host (request_for ask)) ≤ HEAD_LIMIT
small host (Asks.Check file token) a is = get_small host (file_target file token) a (file_small file token is)
small host (Asks.Get file token) a is = get_small host (contents_target file token) a (contents_small file token is)
small host (Asks.Lock file token) a is = post_small host (file_target file token) (lock_id file) (codes "LOCK") [] a (file_small file token is) (lock_small file token is) (omega arith) (omega arith)
small host (Asks.Refresh file token) a is = post_small host (file_target file token) (lock_id file) (codes "REFRESH_LOCK") [] a (file_small file token is) (lock_small file token is) (omega arith) (omega arith)
small host (Asks.Unlock file token) a is = post_small host (file_target file token) (lock_id file) (codes "UNLOCK") [] a (file_small file token is) (lock_small file token is) (omega arith) (omega arith)
small host (Asks.Put file token content) a is = post_small host (contents_target file token) (lock_id file) (codes "PUT") content a (contents_small file token is.0) (lock_small file token is.0) (omega arith) is.1
