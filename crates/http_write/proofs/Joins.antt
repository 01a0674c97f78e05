-- Parts that are put one behind another.
use Rattle.std.proofs.Common.{◌≡◌, ℕ, ◌+◌, List, [], ◌∷◌, ◌++◌, sym, ap, ◌∙◌, append_assoc}
use Rattle.std.specs.Prelude.{codes}
use Rattle.std.proofs.lemmas.Grind.{flat_map-append}
use Rattle.http1.specs.Fields.{Header}
use Rattle.http1.specs.Head.{print_header, print_headers, status_digits, request_text, response_text}
use Rattle.http1.proofs.HeadLemmas.{request_text_is, response_text_is}

-- lines and then lines
join : (o o1 o2 : List ℕ) (xs ys : List Header) → o1 ≡ o ++ print_headers xs → o2 ≡ o1 ++ print_headers ys → o2 ≡ o ++ print_headers (xs ++ ys)
join o o1 o2 xs ys h1 h2 =
    h2 ∙ ap (λ t. t ++ print_headers ys) h1 ∙ append_assoc o (print_headers xs) (print_headers ys) ∙ ap (λ t. o ++ t) (sym (flat_map-append print_header xs ys))

pub three : (o o1 o2 o3 : List ℕ) (a : Header) (b c : List Header)
    → o1 ≡ o ++ print_headers (a ∷ []) → o2 ≡ o1 ++ print_headers b → o3 ≡ o2 ++ print_headers c
    → o3 ≡ o ++ print_headers (a ∷ (b ++ c))
three o o1 o2 o3 a b c h1 h2 h3 = join o o1 o3 (a ∷ []) (b ++ c) h1 (join o1 o2 o3 b c h2 h3)

pub six : (o o1 o2 o3 o4 o5 o6 : List ℕ) (a b : Header) (c d e f : List Header)
    → o1 ≡ o ++ print_headers (a ∷ []) → o2 ≡ o1 ++ print_headers (b ∷ []) → o3 ≡ o2 ++ print_headers c
    → o4 ≡ o3 ++ print_headers d → o5 ≡ o4 ++ print_headers e → o6 ≡ o5 ++ print_headers f
    → o6 ≡ o ++ print_headers (a ∷ b ∷ (c ++ (d ++ (e ++ f))))
six o o1 o2 o3 o4 o5 o6 a b c d e f h1 h2 h3 h4 h5 h6 =
    join o o1 o6 (a ∷ []) (b ∷ (c ++ (d ++ (e ++ f)))) h1
    (join o1 o2 o6 (b ∷ []) (c ++ (d ++ (e ++ f))) h2
    (join o2 o3 o6 c (d ++ (e ++ f)) h3 (join o3 o4 o6 d (e ++ f) h4 (join o4 o5 o6 e f h5 h6))))

pub request_whole : (method target : List ℕ) (hs : List Header) (o o1 o2 o3 : List ℕ) → o ≡ []
    → o1 ≡ o ++ (method ++ (32 ∷ (target ++ (codes " HTTP/1." ++ ((48 + 1) ∷ 13 ∷ 10 ∷ []))))) → o2 ≡ o1 ++ print_headers hs → o3 ≡ o2 ++ (13 ∷ 10 ∷ [])
    → o3 ≡ request_text method target 1 hs
request_whole method target hs o o1 o2 o3 h h1 h2 h3 =
    let line = method ++ (32 ∷ (target ++ (codes " HTTP/1." ++ ((48 + 1) ∷ 13 ∷ 10 ∷ [])))) in
    h3 ∙ ap (λ t. t ++ (13 ∷ 10 ∷ [])) (h2 ∙ ap (λ t. t ++ print_headers hs) (h1 ∙ ap (λ t. t ++ line) h)) ∙ append_assoc line (print_headers hs) (13 ∷ 10 ∷ []) ∙ request_text_is method target 1 hs

pub response_whole : (status : ℕ) (hs : List Header) (o o1 o2 o3 : List ℕ) → o ≡ []
    → o1 ≡ o ++ (codes "HTTP/1." ++ ((48 + 1) ∷ 32 ∷ (status_digits status ++ (32 ∷ ([] ++ (13 ∷ 10 ∷ [])))))) → o2 ≡ o1 ++ print_headers hs → o3 ≡ o2 ++ (13 ∷ 10 ∷ [])
    → o3 ≡ response_text 1 status [] hs
response_whole status hs o o1 o2 o3 h h1 h2 h3 =
    let line = codes "HTTP/1." ++ ((48 + 1) ∷ 32 ∷ (status_digits status ++ (32 ∷ ([] ++ (13 ∷ 10 ∷ []))))) in
    h3 ∙ ap (λ t. t ++ (13 ∷ 10 ∷ [])) (h2 ∙ ap (λ t. t ++ print_headers hs) (h1 ∙ ap (λ t. t ++ line) h)) ∙ append_assoc line (print_headers hs) (13 ∷ 10 ∷ []) ∙ response_text_is 1 status [] hs
