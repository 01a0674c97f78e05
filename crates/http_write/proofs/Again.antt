-- What is written is read again.
use Rattle.wire_body.specs.declared.states.TheConstants.{BODY_LIMIT}
use Rattle.std.proofs.Common.{◌≡◌, ℕ, ◌≤◌, Bool, true, false, ◌&&◌, nat_lt, nat_le, le-leb, List, [], ◌∷◌, ◌++◌, reverse, length, refl, sym, ap, ◌∙◌, subst, arith, append_assoc, Option, Some, None}
use Rattle.std.specs.Prelude.{if◌then◌else◌, codes, decimal, option_and_then}
use Rattle.std.specs.List.{list_all}
use Rattle.std.specs.Char.{is_ascii_graphic, is_ascii_digit}
use Rattle.std.specs.Option.{option_map}
use Rattle.std.proofs.lemmas.Bool.{and_parts}
use Rattle.std.proofs.lemmas.Bool.Decides.{nat_tests}
use Rattle.httparse.specs.Grammar.{is_token, is_token_byte, is_value_byte, ReadsRequest, ReadsResponse}
use Rattle.http1.specs.Fields.{Header}
use Rattle.http1.specs.Head.{starts_visible, is_trimmed_value, is_header, are_headers, is_request_line, is_status_line, head_refusal, field_of, request_head as request_tree, response_head as response_tree, request_text, response_text}
use Rattle.http1.proofs.HeadLemmas.{are_headers-append}
use Rattle.http1.proofs.HeadRoundTrip.{request_reads_back, response_reads_back}
use Rattle.http_message.specs.declared.Method.{Method}
use Rattle.http_message.specs.declared.Method.TheVariants.{Get, Post, Other}
use Rattle.http_message.specs.declared.Request.{Request}
use Rattle.http_message.specs.declared.Response.{Response}
use Rattle.http_head.specs.Lines.{is_shown, shown, value_of, has_line}
use Rattle.http_head.specs.Framings.{lines_said, request_framing, response_framing, said_framing, length_said, said_together}
use Rattle.http_message.specs.Statuses.{is_bodiless}
use Rattle.http_head.specs.declared.framing.Framing.{Framing}
use Rattle.http_head.specs.declared.framing.Framing.TheVariants.{Empty, Sized}
use Rattle.http_head.specs.declared.framing.Said.TheVariants.{Length, Nothing}
use Rattle.http_head.proofs.Written.{written_digits, length_written}
use Rattle.std.proofs.lemmas.List.{reverse-append, length-map, length-append}
use Rattle.std.proofs.lemmas.List.Folds.{list_all-append}
use Rattle.http_head.specs.Requests.{ReadsRequestHead, request_by, request_with, method_named}
use Rattle.http_head.specs.Responses.{ReadsResponseHead, response_by, response_with}
use Rattle.http_write.specs.Texts.{method_text, optional, length_line, length_lines, old_lines, size_lines, request_lines, request_bytes, response_lines, response_bytes}
use Rattle.http_write.specs.Again.{is_word, starts_shut, is_clean, is_clean_or_none, IsAsked, IsReadableRequest, request_parts, IsReadableResponse, response_parts, framing_told}

-- ---- values

-- bytes of one class are of a wider one
pub wider : (p q : ℕ → Bool) → ((b : ℕ) → p b ≡ true → q b ≡ true) → (xs : List ℕ) → list_all p xs ≡ true → list_all q xs ≡ true
wider p q more [] all = refl
wider p q more (x ∷ xs) all =
    let parts = and_parts (p x) (list_all p xs) all in
    rw (more x parts.0) (wider p q more xs parts.1)

shown_is_value : (b : ℕ) → is_shown b ≡ true → is_value_byte b ≡ true
shown_is_value b is = grind (arith, nat_tests)

graphic_is_shown : (b : ℕ) → is_ascii_graphic b ≡ true → is_shown b ≡ true
graphic_is_shown b is = grind (arith, nat_tests)

-- a first byte that is shown and no blank is visible
starts : (xs : List ℕ) → list_all is_shown xs ≡ true → starts_shut xs ≡ true → starts_visible xs ≡ true
starts [] all shut = refl
starts (x ∷ xs) all shut =
    let parts = and_parts (is_shown x) (list_all is_shown xs) all in
    let here = parts.0 in
    grind (arith, nat_tests)

reversed : (p : ℕ → Bool) (xs : List ℕ) → list_all p xs ≡ true → list_all p (reverse xs) ≡ true
reversed p [] all = refl
reversed p (x ∷ xs) all =
    let parts = and_parts (p x) (list_all p xs) all in
    let later = reversed p xs parts.1 in
    let here : list_all p (x ∷ []) ≡ true = rw parts.0 refl in
    ap (list_all p) (reverse-append (x ∷ []) xs) ∙ list_all-append p (reverse xs) (x ∷ []) ∙ rw (later, here) refl

-- a clean text may be sent
pub clean_is_trimmed : (text : List ℕ) → is_clean text ≡ true → is_trimmed_value text ≡ true
clean_is_trimmed text clean =
    let parts = and_parts (starts_shut text && starts_shut (reverse text)) (list_all is_shown text) clean in
    let ends = and_parts (starts_shut text) (starts_shut (reverse text)) parts.0 in
    let front = starts text parts.1 ends.0 in
    let back = starts (reverse text) (reversed is_shown text parts.1) ends.1 in
    let bytes = wider is_shown is_value_byte shown_is_value text parts.1 in
    rw (front, back, bytes) refl

graphic_is_shut : (xs : List ℕ) → list_all is_ascii_graphic xs ≡ true → starts_shut xs ≡ true
graphic_is_shut [] all = refl
graphic_is_shut (x ∷ xs) all =
    let parts = and_parts (is_ascii_graphic x) (list_all is_ascii_graphic xs) all in
    let here = parts.0 in
    grind (arith, nat_tests)

-- a word is a clean text
pub word_is_clean : (text : List ℕ) → is_word text ≡ true → is_clean text ≡ true
word_is_clean text word =
    let parts = and_parts (nat_lt 0 (length text)) (list_all is_ascii_graphic text) word in
    let front = graphic_is_shut text parts.1 in
    let back = graphic_is_shut (reverse text) (reversed is_ascii_graphic text parts.1) in
    let bytes = wider is_ascii_graphic is_shown graphic_is_shown text parts.1 in
    rw (front, back, bytes) refl

-- a clean text is shown as it is
pub clean_is_shown : (text : List ℕ) → is_clean text ≡ true → shown text ≡ text
clean_is_shown text clean =
    let parts = and_parts (starts_shut text && starts_shut (reverse text)) (list_all is_shown text) clean in
    let all = parts.1 in
    rw all refl

-- ---- lengths

digit_is_graphic : (b : ℕ) → is_ascii_digit b ≡ true → is_ascii_graphic b ≡ true
digit_is_graphic b is = grind (arith, nat_tests)

-- digits are a clean text
digits_are_clean : (text : List ℕ) → list_all is_ascii_digit text ≡ true → is_clean text ≡ true
digits_are_clean text digits =
    let graphic = wider is_ascii_digit is_ascii_graphic digit_is_graphic text digits in
    let front = graphic_is_shut text graphic in
    let back = graphic_is_shut (reverse text) (reversed is_ascii_graphic text graphic) in
    let bytes = wider is_ascii_graphic is_shown graphic_is_shown text graphic in
    rw (front, back, bytes) refl

-- ---- lines

-- a line with a clean value may be sent under these names
open_lines : (lines : List Header) → list_all is_header lines ≡ true → are_headers lines ≡ true
unfolding are_headers
open_lines lines all = all

shut_lines : (lines : List Header) → are_headers lines ≡ true → list_all is_header lines ≡ true
unfolding are_headers
shut_lines lines all = all

one_line : (name value : List ℕ) → is_token name ≡ true → is_clean value ≡ true → are_headers ((name, value) ∷ []) ≡ true
one_line name value token clean =
    let trimmed = clean_is_trimmed value clean in
    open_lines ((name, value) ∷ []) (rw (token, trimmed) refl)

more_lines : (xs ys : List Header) → are_headers xs ≡ true → are_headers ys ≡ true → are_headers (xs ++ ys) ≡ true
more_lines xs ys left right = are_headers-append xs ys ∙ rw (left, right) refl

no_line : are_headers [] ≡ true
unfolding are_headers
no_line = refl

host_name : is_token (codes "Host") ≡ true
unfolding is_token_byte
host_name = refl

connection_name : is_token (codes "Connection") ≡ true
unfolding is_token_byte
connection_name = refl

length_name : is_token (codes "Content-Length") ≡ true
unfolding is_token_byte
length_name = refl

lock_name : is_token (codes "X-WOPI-Lock") ≡ true
unfolding is_token_byte
lock_name = refl

over_name : is_token (codes "X-WOPI-Override") ≡ true
unfolding is_token_byte
over_name = refl

old_name : is_token (codes "X-WOPI-OldLock") ≡ true
unfolding is_token_byte
old_name = refl

optional_line : (name : List ℕ) (text : Option (List ℕ)) → is_token name ≡ true → is_clean_or_none text ≡ true → are_headers (optional name text) ≡ true
optional_line name None token clean = no_line
optional_line name (Some text) token clean = one_line name text token clean

sized_line : (body : List ℕ) → length body ≤ BODY_LIMIT → are_headers (length_line body ∷ []) ≡ true
sized_line body small = one_line (codes "Content-Length") (decimal (length body)) length_name (digits_are_clean (decimal (length body)) (written_digits (length body) (omega arith)))

method_line : (method : Method) (body : List ℕ) → length body ≤ BODY_LIMIT → are_headers (length_lines method body) ≡ true
method_line Get body small = no_line
method_line Post body small = sized_line body small
method_line Other body small = no_line

old_line : (old : Bool) → are_headers (old_lines old) ≡ true
old_line true = one_line (codes "X-WOPI-OldLock") [] old_name refl
old_line false = no_line

pub request_lines_sent : (host : List ℕ) (r : Request) → IsReadableRequest host r → are_headers (request_lines host r) ≡ true
request_lines_sent host r is =
    let old = old_line r.old_lock in
    let over = optional_line (codes "X-WOPI-Override") r.over over_name is.over in
    let lock = optional_line (codes "X-WOPI-Lock") r.lock lock_name is.lock in
    let size = method_line r.method r.body is.body in
    let tail = more_lines (length_lines r.method r.body) _ size (more_lines (optional (codes "X-WOPI-Lock") r.lock) _ lock (more_lines (optional (codes "X-WOPI-Override") r.over) (old_lines r.old_lock) over old)) in
    let close = one_line (codes "Connection") (codes "close") connection_name refl in
    let first = one_line (codes "Host") host host_name (word_is_clean host is.to_host) in
    more_lines ((codes "Host", host) ∷ []) _ first (more_lines ((codes "Connection", codes "close") ∷ []) _ close tail)

status_line : (status : ℕ) (body : List ℕ) → length body ≤ BODY_LIMIT → are_headers (size_lines status body) ≡ true
status_line status body small = by (is_bodiless status)
  where
    by : (b : Bool) → are_headers (if b then [] else (length_line body ∷ [])) ≡ true
    by true = no_line
    by false = sized_line body small

pub response_lines_sent : (r : Response) → IsReadableResponse r → are_headers (response_lines r) ≡ true
response_lines_sent r is =
    let lock = optional_line (codes "X-WOPI-Lock") r.lock lock_name is.lock in
    let tail = more_lines (size_lines r.status r.body) (optional (codes "X-WOPI-Lock") r.lock) (status_line r.status r.body is.body) lock in
    let close = one_line (codes "Connection") (codes "close") connection_name refl in
    more_lines ((codes "Connection", codes "close") ∷ []) _ close tail

-- ---- what the lines say

-- a text that may be there, as it is shown
shown_as_it_is : (text : Option (List ℕ)) → is_clean_or_none text ≡ true → option_map shown text ≡ text
shown_as_it_is None clean = refl
shown_as_it_is (Some text) clean = ap (λ t. Some t) (clean_is_shown text clean)

-- the lines that may be there
abbrev pub rest_of : Option (List ℕ) → Option (List ℕ) → Bool → List Header
rest_of lock over old = optional (codes "X-WOPI-Lock") lock ++ (optional (codes "X-WOPI-Override") over ++ old_lines old)

rest_says_nothing : (lock over : Option (List ℕ)) (old : Bool) → lines_said (rest_of lock over old) ≡ Nothing
rest_says_nothing None None true = refl
rest_says_nothing None None false = refl
rest_says_nothing None (Some o) true = refl
rest_says_nothing None (Some o) false = refl
rest_says_nothing (Some l) None true = refl
rest_says_nothing (Some l) None false = refl
rest_says_nothing (Some l) (Some o) true = refl
rest_says_nothing (Some l) (Some o) false = refl

lock_in_rest : (lock over : Option (List ℕ)) (old : Bool) → value_of (codes "x-wopi-lock") (rest_of lock over old) ≡ lock
lock_in_rest None None true = refl
lock_in_rest None None false = refl
lock_in_rest None (Some o) true = refl
lock_in_rest None (Some o) false = refl
lock_in_rest (Some l) over old = refl

over_in_rest : (lock over : Option (List ℕ)) (old : Bool) → value_of (codes "x-wopi-override") (rest_of lock over old) ≡ over
over_in_rest None None true = refl
over_in_rest None None false = refl
over_in_rest None (Some o) old = refl
over_in_rest (Some l) None true = refl
over_in_rest (Some l) None false = refl
over_in_rest (Some l) (Some o) old = refl

old_in_rest : (lock over : Option (List ℕ)) (old : Bool) → has_line (codes "x-wopi-oldlock") (rest_of lock over old) ≡ old
old_in_rest None None true = refl
old_in_rest None None false = refl
old_in_rest None (Some o) true = refl
old_in_rest None (Some o) false = refl
old_in_rest (Some l) None true = refl
old_in_rest (Some l) None false = refl
old_in_rest (Some l) (Some o) true = refl
old_in_rest (Some l) (Some o) false = refl

-- ---- whole

-- what method, target and lines say, part by part
parts_said : (method target : List ℕ) (lines : List Header) (m : Method) (lock over : Option (List ℕ)) (old : Bool) (framing : Framing)
    → method_named method ≡ m → request_framing (lines_said lines) ≡ Some framing
    → value_of (codes "x-wopi-lock") lines ≡ lock → value_of (codes "x-wopi-override") lines ≡ over → has_line (codes "x-wopi-oldlock") lines ≡ old
    → is_clean_or_none lock ≡ true → is_clean_or_none over ≡ true
    → request_by method target lines ≡ Some (record { method = m; target = target; lock = lock; over = over; old_lock = old; framing = framing })
parts_said method target lines m lock over old framing named framed has_lock has_over has_old clean_lock clean_over =
    let lock_shown = ap (option_map shown) has_lock ∙ shown_as_it_is lock clean_lock in
    let over_shown = ap (option_map shown) has_over ∙ shown_as_it_is over clean_over in
    ap (option_map (request_with method target lines)) framed
    ∙ (λ i. Some (record { method = named i; target = target; lock = lock_shown i; over = over_shown i; old_lock = has_old i; framing = framing }))

pub request_said_again : (host : List ℕ) (r : Request) → IsReadableRequest host r → request_by (method_text r.method) r.target (request_lines host r) ≡ Some (request_parts r)
request_said_again host r is = by r.method is.asked
  where
    by : (m : Method) → IsAsked m r.body
        → request_by (method_text m) r.target ((codes "Host", host) ∷ (codes "Connection", codes "close") ∷ (length_lines m r.body ++ rest_of r.lock r.over r.old_lock))
        ≡ Some (record { method = m; target = r.target; lock = r.lock; over = r.over; old_lock = r.old_lock; framing = framing_told m r.body })
    by Get asked = parts_said (codes "GET") r.target ((codes "Host", host) ∷ (codes "Connection", codes "close") ∷ rest_of r.lock r.over r.old_lock) Get r.lock r.over r.old_lock Empty refl (ap request_framing (rest_says_nothing r.lock r.over r.old_lock)) (lock_in_rest r.lock r.over r.old_lock) (over_in_rest r.lock r.over r.old_lock) (old_in_rest r.lock r.over r.old_lock) is.lock is.over
    by Post asked =
        let size : length_said (decimal (length r.body)) ≡ Length (length r.body) = length_written (length r.body) (let small = is.body in omega arith) in
        let said : said_together (length_said (decimal (length r.body))) (lines_said (rest_of r.lock r.over r.old_lock)) ≡ Length (length r.body) = λ i. said_together (size i) (rest_says_nothing r.lock r.over r.old_lock i) in
        parts_said (codes "POST") r.target ((codes "Host", host) ∷ (codes "Connection", codes "close") ∷ (length_line r.body ∷ rest_of r.lock r.over r.old_lock)) Post r.lock r.over r.old_lock (Sized (length r.body)) refl (ap request_framing said) (lock_in_rest r.lock r.over r.old_lock) (over_in_rest r.lock r.over r.old_lock) (old_in_rest r.lock r.over r.old_lock) is.lock is.over
    by Other asked = absurd asked

few_optional : (name : List ℕ) (text : Option (List ℕ)) → length (optional name text) ≤ 1
few_optional name None = omega arith
few_optional name (Some text) = omega arith

few_lengths : (method : Method) (body : List ℕ) → length (length_lines method body) ≤ 1
few_lengths Get body = omega arith
few_lengths Post body = omega arith
few_lengths Other body = omega arith

few_old : (old : Bool) → length (old_lines old) ≤ 1
few_old true = omega arith
few_old false = omega arith

few_lines : (method : Method) (body : List ℕ) (lock over : Option (List ℕ)) (old : Bool) → length (length_lines method body ++ rest_of lock over old) ≤ 4
few_lines method body lock over old =
    let size = few_lengths method body in
    let a = few_optional (codes "X-WOPI-Lock") lock in
    let b = few_optional (codes "X-WOPI-Override") over in
    let c = few_old old in
    let one = length-append (length_lines method body) (rest_of lock over old) in
    let two = length-append (optional (codes "X-WOPI-Lock") lock) (optional (codes "X-WOPI-Override") over ++ old_lines old) in
    let three = length-append (optional (codes "X-WOPI-Override") over) (old_lines old) in
    omega arith

method_is_token : (m : Method) → is_token (method_text m) ≡ true
unfolding is_token_byte
method_is_token Get = refl
method_is_token Post = refl
method_is_token Other = refl

pub request_again : (host : List ℕ) (r : Request) (rest : List ℕ) → IsReadableRequest host r → ReadsRequestHead (request_bytes host r ++ rest) (request_parts r) (r.body ++ rest)
request_again host r rest is =
    let lines = request_lines host r in
    let target = and_parts (nat_lt 0 (length r.target)) (list_all is_ascii_graphic r.target) is.target in
    let sent = request_lines_sent host r is in
    let first : is_request_line (method_text r.method) r.target 1 ≡ true = rw (method_is_token r.method, is.target) refl in
    let accepted : head_refusal (is_request_line (method_text r.method) r.target 1) lines ≡ None = rw (first, sent) refl in
    let again = request_reads_back (method_text r.method) r.target 1 lines (r.body ++ rest) accepted in
    let few = few_lines r.method r.body r.lock r.over r.old_lock in
    let text : request_text (method_text r.method) r.target 1 lines ++ (r.body ++ rest) ≡ request_bytes host r ++ rest = sym (append_assoc (request_text (method_text r.method) r.target 1 lines) r.body rest) in (
      request_tree (method_text r.method) r.target 1 lines,
      (subst (λ t. ReadsRequest t (request_tree (method_text r.method) r.target 1 lines) (r.body ++ rest)) text again.reads, target.1),
      omega (arith, length-map lines field_of, few),
      ap (request_by (method_text r.method) r.target) again.fields ∙ request_said_again host r is,
    )

-- ---- the same of a response

lock_says_nothing : (lock : Option (List ℕ)) → lines_said (optional (codes "X-WOPI-Lock") lock) ≡ Nothing
lock_says_nothing None = refl
lock_says_nothing (Some l) = refl

lock_alone : (lock : Option (List ℕ)) → value_of (codes "x-wopi-lock") (optional (codes "X-WOPI-Lock") lock) ≡ lock
lock_alone None = refl
lock_alone (Some l) = refl

-- what status and lines say, part by part
answer_said : (status : ℕ) (lines : List Header) (lock : Option (List ℕ)) (framing : Framing)
    → response_framing status (lines_said lines) ≡ Some framing → value_of (codes "x-wopi-lock") lines ≡ lock → is_clean_or_none lock ≡ true
    → response_by status lines ≡ Some (record { status = status; lock = lock; framing = framing })
answer_said status lines lock framing framed has_lock clean =
    let lock_shown = ap (option_map shown) has_lock ∙ shown_as_it_is lock clean in
    ap (option_map (response_with status lines)) framed ∙ (λ i. Some (record { status = status; lock = lock_shown i; framing = framing }))

pub response_said_again : (r : Response) → IsReadableResponse r → response_by r.status (response_lines r) ≡ Some (response_parts r)
response_said_again r is = answer_said r.status (response_lines r) r.lock (if is_bodiless r.status then Empty else Sized (length r.body)) (framed (is_bodiless r.status)) (has_lock (is_bodiless r.status)) is.lock
  where
    framed : (b : Bool) → option_and_then (λ f. Some (if b then Empty else f)) (said_framing (said_together Nothing (lines_said ((if b then [] else (length_line r.body ∷ [])) ++ optional (codes "X-WOPI-Lock") r.lock)))) ≡ Some (if b then Empty else Sized (length r.body))
    framed true = ap (λ s. option_and_then (λ f. Some Empty) (said_framing s)) (lock_says_nothing r.lock)
    framed false =
        let size : length_said (decimal (length r.body)) ≡ Length (length r.body) = length_written (length r.body) (let small = is.body in omega arith) in
        λ i. option_and_then (λ f. Some f) (said_framing (said_together (size i) (lock_says_nothing r.lock i)))

    has_lock : (b : Bool) → value_of (codes "x-wopi-lock") ((if b then [] else (length_line r.body ∷ [])) ++ optional (codes "X-WOPI-Lock") r.lock) ≡ r.lock
    has_lock true = lock_alone r.lock
    has_lock false = lock_alone r.lock

few_sizes : (status : ℕ) (body : List ℕ) → length (size_lines status body) ≤ 1
few_sizes status body = by (is_bodiless status)
  where
    by : (b : Bool) → length (if b then [] else (length_line body ∷ [])) ≤ 1
    by true = omega arith
    by false = omega arith

pub response_again : (r : Response) (rest : List ℕ) → IsReadableResponse r → ReadsResponseHead (response_bytes r ++ rest) (response_parts r) (r.body ++ rest)
response_again r rest is =
    let lines = response_lines r in
    let sent = response_lines_sent r is in
    let low : nat_le 100 r.status ≡ true = le-leb 100 r.status is.low in
    let high : nat_le r.status 999 ≡ true = le-leb r.status 999 is.high in
    let first : is_status_line 1 r.status [] ≡ true = rw (low, high) refl in
    let accepted : head_refusal (is_status_line 1 r.status []) lines ≡ None = rw (first, sent) refl in
    let again = response_reads_back 1 r.status [] lines (r.body ++ rest) accepted in
    let text : response_text 1 r.status [] lines ++ (r.body ++ rest) ≡ response_bytes r ++ rest = sym (append_assoc (response_text 1 r.status [] lines) r.body rest) in (
      response_tree 1 r.status [] lines,
      subst (λ t. ReadsResponse t (response_tree 1 r.status [] lines) (r.body ++ rest)) text again.reads,
      omega (arith, length-map lines field_of, few_sizes r.status r.body, few_optional (codes "X-WOPI-Lock") r.lock, length-append (size_lines r.status r.body) (optional (codes "X-WOPI-Lock") r.lock)),
      (λ i. response_by (again.code i) (again.fields i)) ∙ response_said_again r is,
    )
