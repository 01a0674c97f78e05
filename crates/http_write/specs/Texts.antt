-- The bytes of a request and of a response.
use Rattle.std.specs.Prelude.{ℕ, Bool, true, false, List, [], ◌∷◌, ◌++◌, length, Option, Some, None, if◌then◌else◌, codes, decimal}
use Rattle.http1.specs.Head.{request_text, response_text}
use Rattle.http_message.specs.declared.Method.{Method}
use Rattle.http_message.specs.declared.Method.TheVariants.{Get, Post, Other}
use Rattle.http_message.specs.declared.Request.{Request}
use Rattle.http_message.specs.declared.Response.{Response}
use Rattle.http_message.specs.Statuses.{is_bodiless}

-- the method's letters
abbrev pub method_text : Method → List ℕ
method_text Get = codes "GET"
method_text Post = codes "POST"
method_text Other = codes "OTHER"

-- a line that may be there
abbrev pub optional : List ℕ → Option (List ℕ) → List (List ℕ × List ℕ)
optional name None = []
optional name (Some text) = (name, text) ∷ []

-- the line with a body's length
abbrev pub length_line : List ℕ → List ℕ × List ℕ
length_line body = (codes "Content-Length", decimal (length body))

-- only a post tells its body's length
abbrev pub length_lines : Method → List ℕ → List (List ℕ × List ℕ)
length_lines Get body = []
length_lines Post body = length_line body ∷ []
length_lines Other body = []

-- the line that tells that there was an older lock
abbrev pub old_lines : Bool → List (List ℕ × List ℕ)
old_lines true = (codes "X-WOPI-OldLock", []) ∷ []
old_lines false = []

-- the lines of a request to this host
abbrev pub request_lines : List ℕ → Request → List (List ℕ × List ℕ)
request_lines host r =
    (codes "Host", host) ∷ (codes "Connection", codes "close") ∷
    (length_lines r.method r.body ++ (optional (codes "X-WOPI-Lock") r.lock ++ (optional (codes "X-WOPI-Override") r.over ++ old_lines r.old_lock)))

-- its head
abbrev pub request_head : List ℕ → Request → List ℕ
request_head host r = request_text (method_text r.method) r.target 1 (request_lines host r)

-- its bytes
abbrev pub request_bytes : List ℕ → Request → List ℕ
request_bytes host r = request_head host r ++ r.body

-- a response tells its body's length, unless its status says that there is no body
abbrev pub size_lines : ℕ → List ℕ → List (List ℕ × List ℕ)
size_lines status body = if is_bodiless status then [] else (length_line body ∷ [])

-- the lines of a response
abbrev pub response_lines : Response → List (List ℕ × List ℕ)
response_lines r = (codes "Connection", codes "close") ∷ (size_lines r.status r.body ++ optional (codes "X-WOPI-Lock") r.lock)

-- its head, without a reason
abbrev pub response_head : Response → List ℕ
response_head r = response_text 1 r.status [] (response_lines r)

-- its bytes
abbrev pub response_bytes : Response → List ℕ
response_bytes r = response_head r ++ r.body
